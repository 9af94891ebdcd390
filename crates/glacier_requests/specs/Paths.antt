-- What is asked for by a method and a path, in words that routing doesn't share: the Developer Guide's list of operations.
use Rattle.std.specs.Prelude.{◌≡◌, ◌<◌, ◌^◌, ⊤, ℕ, List, [], ◌∷◌, Option, Some, None, codes, map, IsTrue}
use Rattle.glacier_base.specs.Ids.{id_text}
use Rattle.glacier_base.specs.Names.{is_account, is_vault_name}
use Rattle.glacier_base.specs.declared.id.IdKind.{IdKind}
use Rattle.glacier_base.specs.declared.id.IdKind.TheVariants.{Archive, Upload as Uploading, Job, Lock}
use Rattle.glacier_http.specs.View.{HeadText}
use Rattle.glacier_requests.specs.Ids.{id_number}
use Rattle.glacier_requests.specs.Routes.{pieces}
use Rattle.glacier_requests.specs.declared.routes.Op.{Op}
use Rattle.glacier_requests.specs.declared.routes.Op.TheVariants.{ListVaults, CreateVault, DescribeVault, DeleteVault, Upload, DeleteArchive, BeginUpload, ListUploads, Part, ListParts, CompleteUpload, AbortUpload, BeginJob, ListJobs, DescribeJob, JobOutput, InitiateLock, ShowLock, CompleteLock, AbortLock}
use Rattle.glacier_requests.specs.declared.routes.Route.{Route}

-- a piece of a path: the name of a vault, a word, or the id of a kind with a number
pub data Piece : Type 0 where
  name : List ℕ → Piece
  word : List ℕ → Piece
  id : IdKind → ℕ → Piece

abbrev pub archives : Piece
archives = word (codes "archives")

abbrev pub uploads : Piece
uploads = word (codes "multipart-uploads")

abbrev pub jobs : Piece
jobs = word (codes "jobs")

abbrev pub lock_policy : Piece
lock_policy = word (codes "lock-policy")

-- each operation: its method, and its path behind `/ACCOUNT/vaults`
abbrev pub row : Op → List ℕ × List Piece
row ListVaults = (codes "GET", [])
row (CreateVault vault) = (codes "PUT", name vault ∷ [])
row (DescribeVault vault) = (codes "GET", name vault ∷ [])
row (DeleteVault vault) = (codes "DELETE", name vault ∷ [])
row (Upload vault) = (codes "POST", name vault ∷ archives ∷ [])
row (DeleteArchive vault archive) = (codes "DELETE", name vault ∷ archives ∷ id Archive archive ∷ [])
row (BeginUpload vault) = (codes "POST", name vault ∷ uploads ∷ [])
row (ListUploads vault) = (codes "GET", name vault ∷ uploads ∷ [])
row (Part vault upload) = (codes "PUT", name vault ∷ uploads ∷ id Uploading upload ∷ [])
row (ListParts vault upload) = (codes "GET", name vault ∷ uploads ∷ id Uploading upload ∷ [])
row (CompleteUpload vault upload) = (codes "POST", name vault ∷ uploads ∷ id Uploading upload ∷ [])
row (AbortUpload vault upload) = (codes "DELETE", name vault ∷ uploads ∷ id Uploading upload ∷ [])
row (BeginJob vault) = (codes "POST", name vault ∷ jobs ∷ [])
row (ListJobs vault) = (codes "GET", name vault ∷ jobs ∷ [])
row (DescribeJob vault job) = (codes "GET", name vault ∷ jobs ∷ id Job job ∷ [])
row (JobOutput vault job) = (codes "GET", name vault ∷ jobs ∷ id Job job ∷ word (codes "output") ∷ [])
row (InitiateLock vault) = (codes "POST", name vault ∷ lock_policy ∷ [])
row (ShowLock vault) = (codes "GET", name vault ∷ lock_policy ∷ [])
row (CompleteLock vault lock) = (codes "POST", name vault ∷ lock_policy ∷ id Lock lock ∷ [])
row (AbortLock vault) = (codes "DELETE", name vault ∷ lock_policy ∷ [])

-- the text of a piece
abbrev pub piece_text : Piece → List ℕ
piece_text (name vault) = vault
piece_text (word text) = text
piece_text (id kind number) = id_text (record { kind = kind; number = number })

-- a vault's name keeps its rule, and a number is below 2^64
abbrev pub IsPiece : Piece → Type 0
IsPiece (name vault) = IsTrue (is_vault_name vault)
IsPiece (word text) = ⊤
IsPiece (id kind number) = number < 2 ^ 64

abbrev pub ArePieces : List Piece → Type 0
ArePieces [] = ⊤
ArePieces (piece ∷ more) = IsPiece piece × ArePieces more

-- a path names the account by this word: its 12 digits, or `-` for the signer's own
abbrev pub account_word : Option (List ℕ) → List ℕ
account_word None = codes "-"
account_word (Some account) = account

abbrev pub IsAccount : Option (List ℕ) → Type 0
IsAccount None = ⊤
IsAccount (Some account) = IsTrue (is_account account)

-- the pieces of the path of a route, between its slashes
abbrev pub path_of : Route → List (List ℕ)
path_of route = [] ∷ account_word route.account ∷ codes "vaults" ∷ map piece_text (row route.op).1

-- the head asks for the operation of the route
pub record AsksFor (head : HeadText) (route : Route) : Type 0 where
  pub method : head.method ≡ (row route.op).0
  pub path : pieces head.path ≡ path_of route
  pub account : IsAccount route.account
  pub names : ArePieces (row route.op).1

-- the text of a piece, with this text in the place of an id
abbrev pub text_with : List ℕ → Piece → List ℕ
text_with text (name vault) = vault
text_with text (word said) = said
text_with text (id kind number) = text

-- the head has the method and the path of the route's operation, with a name that may be bad, and any text for the id
pub record LooksFor (head : HeadText) (route : Route) (text : List ℕ) : Type 0 where
  pub method : head.method ≡ (row route.op).0
  pub path : pieces head.path
      ≡ [] ∷ account_word route.account ∷ codes "vaults" ∷ map (text_with text) (row route.op).1
  pub account : IsAccount route.account

-- the pieces begin with a vault's name, which breaks the rule
abbrev pub IsBadName : List Piece → Type 0
IsBadName (name vault ∷ more) = ¬ IsTrue (is_vault_name vault)
IsBadName _ = ⊥

-- they begin with a vault's name, which keeps it
abbrev pub IsGoodName : List Piece → Type 0
IsGoodName (name vault ∷ more) = IsTrue (is_vault_name vault)
IsGoodName _ = ⊥

-- there is an id among the pieces, and the text is none of its kind
abbrev pub IsBadId : List ℕ → List Piece → Type 0
IsBadId text [] = ⊥
IsBadId text (id kind number ∷ more) = id_number kind text ≡ None
IsBadId text (name vault ∷ more) = IsBadId text more
IsBadId text (word said ∷ more) = IsBadId text more
