-- What paths name in an account, and what methods do there.
use Rattle.std.specs.Prelude.{ℕ, List, [], ◌∷◌, Option, Some, None, codes, option_map, bytes_eq, if◌then◌else◌, ◌&&◌}
use Rattle.glacier_base.specs.declared.id.IdKind.{IdKind}
use Rattle.glacier_base.specs.declared.id.IdKind.TheVariants as kind
use Rattle.glacier_requests.specs.declared.places.Method.{Method}
use Rattle.glacier_requests.specs.declared.places.Method.TheVariants.{Get, Put, Post, Delete}
use Rattle.glacier_requests.specs.declared.places.Place.{Place}
use Rattle.glacier_requests.specs.declared.places.Place.TheVariants as at
use Rattle.glacier_requests.specs.declared.places.VaultOp.{VaultOp}
use Rattle.glacier_requests.specs.declared.places.VaultOp.TheVariants.{CreateVault, DescribeVault, DeleteVault, Upload, DeleteArchive, BeginUpload, ListUploads, Part, ListParts, CompleteUpload, AbortUpload, BeginJob, ListJobs, DescribeJob, JobOutput, InitiateLock, ShowLock, CompleteLock, AbortLock}

abbrev pub method_of : List ℕ → Option Method
method_of text =
    if bytes_eq text (codes "GET") then Some Get
    else if bytes_eq text (codes "PUT") then Some Put
    else if bytes_eq text (codes "POST") then Some Post
    else if bytes_eq text (codes "DELETE") then Some Delete
    else None

-- what a method does at a place, if it does something
abbrev pub op_at : Method → Place → Option VaultOp
op_at Put at.Vault = Some CreateVault
op_at Get at.Vault = Some DescribeVault
op_at Delete at.Vault = Some DeleteVault
op_at Post at.Archives = Some Upload
op_at Delete at.Archive = Some DeleteArchive
op_at Post at.Uploads = Some BeginUpload
op_at Get at.Uploads = Some ListUploads
op_at Put at.Upload = Some Part
op_at Get at.Upload = Some ListParts
op_at Post at.Upload = Some CompleteUpload
op_at Delete at.Upload = Some AbortUpload
op_at Post at.Jobs = Some BeginJob
op_at Get at.Jobs = Some ListJobs
op_at Get at.Job = Some DescribeJob
op_at Get at.Output = Some JobOutput
op_at Post at.LockPolicy = Some InitiateLock
op_at Get at.LockPolicy = Some ShowLock
op_at Post at.Lock = Some CompleteLock
op_at Delete at.LockPolicy = Some AbortLock
op_at _ _ = None

-- what kind of id a path names at a place, if it names one
abbrev pub id_kind_of : Place → Option IdKind
id_kind_of at.Archive = Some kind.Archive
id_kind_of at.Upload = Some kind.Upload
id_kind_of at.Job = Some kind.Job
id_kind_of at.Output = Some kind.Job
id_kind_of at.Lock = Some kind.Lock
id_kind_of _ = None

-- what a word behind a vault's name stands for: alone, and with an id behind it
abbrev pub places_of : List ℕ → Option (Place × Place)
places_of word =
    if bytes_eq word (codes "archives") then Some (at.Archives, at.Archive)
    else if bytes_eq word (codes "multipart-uploads") then Some (at.Uploads, at.Upload)
    else if bytes_eq word (codes "jobs") then Some (at.Jobs, at.Job)
    else if bytes_eq word (codes "lock-policy") then Some (at.LockPolicy, at.Lock)
    else None

-- a word, an id and a last word are the output of a job
abbrev pub output_of : List ℕ → List ℕ → Option Place
output_of word last =
    if bytes_eq word (codes "jobs") && bytes_eq last (codes "output") then Some at.Output else None

-- the place that the pieces behind a vault's name are, and the text of the id among them: empty where there is none
abbrev pub place_behind : List (List ℕ) → Option (Place × List ℕ)
place_behind [] = Some (at.Vault, [])
place_behind (word ∷ []) = option_map (λ places. (places.0, [])) (places_of word)
place_behind (word ∷ id ∷ []) = option_map (λ places. (places.1, id)) (places_of word)
place_behind (word ∷ id ∷ last ∷ []) = option_map (λ place. (place, id)) (output_of word last)
place_behind (word ∷ id ∷ last ∷ piece ∷ more) = None
