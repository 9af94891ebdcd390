-- Which route a head has.
use Rattle.std.specs.Prelude.{ℕ, List, [], ◌∷◌, Option, Some, None, codes, option_map, bytes_eq, if◌then◌else◌}
use Rattle.std.specs.List.{slice_split}
use Rattle.glacier_base.specs.Cuts.{is_byte}
use Rattle.glacier_base.specs.Names.{is_account, is_vault_name, where_rule}
use Rattle.glacier_http.specs.View.{HeadText}
use Rattle.glacier_requests.specs.Ids.{id_number}
use Rattle.glacier_requests.specs.Places.{method_of, op_at, id_kind_of, place_behind}
use Rattle.glacier_base.specs.declared.id.IdKind.{IdKind}
use Rattle.glacier_requests.specs.declared.places.Method.{Method}
use Rattle.glacier_requests.specs.declared.places.Method.TheVariants.{Get}
use Rattle.glacier_requests.specs.declared.places.Place.{Place}
use Rattle.glacier_requests.specs.declared.places.VaultOp.{VaultOp}
use Rattle.glacier_requests.specs.declared.places.VaultOp.TheVariants as on_vault
use Rattle.glacier_requests.specs.declared.routes.Op.{Op}
use Rattle.glacier_requests.specs.declared.routes.Op.TheVariants.{ListVaults, CreateVault, DescribeVault, DeleteVault, Upload, DeleteArchive, BeginUpload, ListUploads, Part, ListParts, CompleteUpload, AbortUpload, BeginJob, ListJobs, DescribeJob, JobOutput, InitiateLock, ShowLock, CompleteLock, AbortLock}
use Rattle.glacier_requests.specs.declared.routes.RouteStep.{RouteStep}
use Rattle.glacier_requests.specs.declared.routes.RouteStep.TheVariants as found

-- the pieces of a path between its slashes
abbrev pub pieces : List ℕ → List (List ℕ)
pieces path = slice_split (is_byte 47) path

-- the account that a piece names, if it names one: 12 digits, or `-` for the signer's own
abbrev pub account_of : List ℕ → Option (Option (List ℕ))
account_of piece =
    if bytes_eq piece (codes "-") then Some None else option_map (λ digits. Some digits) (where_rule is_account piece)

-- an operation on the vault of a name, with the number of an id where it has one
abbrev pub op_on : VaultOp → List ℕ → ℕ → Op
op_on on_vault.CreateVault vault number = CreateVault vault
op_on on_vault.DescribeVault vault number = DescribeVault vault
op_on on_vault.DeleteVault vault number = DeleteVault vault
op_on on_vault.Upload vault number = Upload vault
op_on on_vault.DeleteArchive vault number = DeleteArchive vault number
op_on on_vault.BeginUpload vault number = BeginUpload vault
op_on on_vault.ListUploads vault number = ListUploads vault
op_on on_vault.Part vault number = Part vault number
op_on on_vault.ListParts vault number = ListParts vault number
op_on on_vault.CompleteUpload vault number = CompleteUpload vault number
op_on on_vault.AbortUpload vault number = AbortUpload vault number
op_on on_vault.BeginJob vault number = BeginJob vault
op_on on_vault.ListJobs vault number = ListJobs vault
op_on on_vault.DescribeJob vault number = DescribeJob vault number
op_on on_vault.JobOutput vault number = JobOutput vault number
op_on on_vault.InitiateLock vault number = InitiateLock vault
op_on on_vault.ShowLock vault number = ShowLock vault
op_on on_vault.CompleteLock vault number = CompleteLock vault number
op_on on_vault.AbortLock vault number = AbortLock vault

-- the number of the id that a text is, where one is named: any text will do for none
abbrev pub number_of : Option IdKind → List ℕ → Option ℕ
number_of None text = Some 0
number_of (Some kind) text = id_number kind text

-- the route to an operation, whose id may be bad
abbrev pub numbered_route : Option (List ℕ) → VaultOp → List ℕ → Option ℕ → RouteStep
numbered_route account op vault None = found.BadId
numbered_route account op vault (Some number) = found.Route (record { account = account; op = op_on op vault number })

-- the same where the name of the vault may be bad too: that is told first
abbrev pub named_route : Option (List ℕ) → VaultOp → List ℕ → Option ℕ → RouteStep
named_route account op name number = if is_vault_name name then numbered_route account op name number else found.BadName

-- the route to what a method does at a place of the vault of a name, if it does something there
abbrev pub op_route : Option (List ℕ) → List ℕ → Option VaultOp → Place × List ℕ → RouteStep
op_route account name None spot = found.NoRoute
op_route account name (Some op) spot = named_route account op name (number_of (id_kind_of spot.0) spot.1)

abbrev pub place_route : Option (List ℕ) → List ℕ → Method → Option (Place × List ℕ) → RouteStep
place_route account name method None = found.NoRoute
place_route account name method (Some spot) = op_route account name (op_at method spot.0) spot

-- the route to the list of an account's vaults
abbrev pub list_route : Option (List ℕ) → Method → RouteStep
list_route account Get = found.Route (record { account = account; op = ListVaults })
list_route account _ = found.NoRoute

-- the route by a method and the pieces behind `/ACCOUNT/vaults`
abbrev pub account_route : Method → Option (List ℕ) → List (List ℕ) → RouteStep
account_route method account [] = list_route account method
account_route method account (name ∷ behind) = place_route account name method (place_behind behind)

-- the account and what stands behind it, where the pieces are those of a path `/ACCOUNT/vaults`, whatever follows
abbrev pub vaults_path : List (List ℕ) → Option (Option (List ℕ) × List (List ℕ))
vaults_path ([] ∷ account ∷ word ∷ behind) =
    if bytes_eq word (codes "vaults") then option_map (λ a. (a, behind)) (account_of account) else None
vaults_path _ = None

abbrev pub path_route : Option Method → Option (Option (List ℕ) × List (List ℕ)) → RouteStep
path_route None path = found.NoRoute
path_route (Some method) None = found.NoRoute
path_route (Some method) (Some path) = account_route method path.0 path.1

-- the route of a head
abbrev pub route_of : HeadText → RouteStep
route_of head = path_route (method_of head.method) (vaults_path (pieces head.path))
