-- A head has the route that its method and path ask for.
use Rattle.std.proofs.Common.{◌≡◌, ◌<◌, ◌^◌, ℕ, Bool, true, false, cond, List, [], ◌∷◌, Option, Some, None, refl, ap, sym, ◌∙◌, true≢false}
use Rattle.std.specs.Prelude.{codes, option_map, option_and_then, bytes_eq, IsTrue}
use Rattle.std.proofs.lemmas.Slice.Eq.{bytes_eq-Decides}
use Rattle.glacier_base.specs.Ids.{id_text}
use Rattle.glacier_base.specs.Names.{is_account, is_vault_name, where_rule}
use Rattle.glacier_base.specs.declared.id.IdKind.{IdKind}
use Rattle.glacier_base.specs.declared.id.IdKind.TheVariants.{Archive, Upload as Uploading, Job, Lock}
use Rattle.glacier_base.proofs.IdLemmas.{id_of-id_text}
use Rattle.glacier_http.specs.View.{HeadText}
use Rattle.glacier_requests.specs.Ids.{is_of_kind, id_number}
use Rattle.glacier_requests.specs.Paths.{row, IsAccount, account_word, ArePieces, path_of, AsksFor}
use Rattle.glacier_requests.specs.Places.{method_of}
use Rattle.glacier_requests.specs.Routes.{pieces, account_of, op_on, numbered_route, named_route, account_route, vaults_path, path_route, route_of}
use Rattle.glacier_requests.specs.declared.places.Method.{Method}
use Rattle.glacier_requests.specs.declared.places.Method.TheVariants.{Get, Put, Post, Delete}
use Rattle.glacier_requests.specs.declared.places.VaultOp.{VaultOp}
use Rattle.glacier_requests.specs.declared.places.VaultOp.TheVariants as act
use Rattle.glacier_requests.specs.declared.routes.Op.{Op}
use Rattle.glacier_requests.specs.declared.routes.Op.TheVariants.{ListVaults, CreateVault, DescribeVault, DeleteVault, Upload, DeleteArchive, BeginUpload, ListUploads, Part, ListParts, CompleteUpload, AbortUpload, BeginJob, ListJobs, DescribeJob, JobOutput, InitiateLock, ShowLock, CompleteLock, AbortLock}
use Rattle.glacier_requests.specs.declared.routes.Route.{Route}
use Rattle.glacier_requests.specs.declared.routes.RouteStep.{RouteStep}
use Rattle.glacier_requests.specs.declared.routes.RouteStep.TheVariants as found

-- the word of an account names it
word_names : (account : Option (List ℕ)) → IsAccount account → account_of (account_word account) ≡ Some account
word_names None is = refl
word_names (Some account) is = go (bytes_eq account (codes "-")) refl
  where
    go : (t : Bool) → bytes_eq account (codes "-") ≡ t
        → cond t (Some None) (option_map (λ digits. Some digits) (where_rule is_account account)) ≡ Some (Some account)
    go true e =
        let same = (bytes_eq-Decides account (codes "-")).0 e in
        absurd (true≢false (sym is ∙ ap is_account same))
    go false e = ap (λ t. option_map (λ digits. Some digits) (cond t (Some account) None)) is

kind_is_itself : (kind : IdKind) (number : ℕ) → is_of_kind kind (record { kind = kind; number = number }) ≡ true
kind_is_itself Archive number = refl
kind_is_itself Uploading number = refl
kind_is_itself Job number = refl
kind_is_itself Lock number = refl

-- the text of an id gives its number
number_of_text : (kind : IdKind) (number : ℕ) → number < 2 ^ 64
    → id_number kind (id_text (record { kind = kind; number = number })) ≡ Some number
number_of_text kind number fits =
    ap (option_and_then (λ id. cond (is_of_kind kind id) (Some id.number) None))
    (id_of-id_text (record { kind = kind; number = number }) fits)
    ∙ ap (λ t. cond t (Some number) None) (kind_is_itself kind number)

module _ (account : Option (List ℕ)) where
  abbrev route_to : Op → RouteStep
  route_to op = found.Route (record { account = account; op = op })

  -- a path in the account is routed behind `vaults`
  pub behind_vaults : (method : Method) (behind : List (List ℕ)) → IsAccount account
      → path_route (Some method) (vaults_path ([] ∷ account_word account ∷ codes "vaults" ∷ behind))
      ≡ account_route method account behind
  behind_vaults method behind is =
      ap (λ a. path_route (Some method) (option_map (λ a. (a, behind)) a)) (word_names account is)

  -- an operation on a vault of a good name
  named : (op : VaultOp) (vault : List ℕ) (number : Option ℕ) → IsTrue (is_vault_name vault)
      → named_route account op vault number ≡ numbered_route account op vault number
  named op vault number good = ap (λ t. cond t (numbered_route account op vault number) found.BadName) good

  -- the same with the text of an id
  identified : (op : VaultOp) (vault : List ℕ) (kind : IdKind) (number : ℕ) → IsTrue (is_vault_name vault) → number < 2 ^ 64
      → named_route account op vault (id_number kind (id_text (record { kind = kind; number = number })))
      ≡ route_to (op_on op vault number)
  identified op vault kind number good fits =
      named op vault (id_number kind (id_text (record { kind = kind; number = number }))) good
      ∙ ap (numbered_route account op vault) (number_of_text kind number fits)

  -- each operation's method and path lead to it
  led : (op : Op) → ArePieces (row op).1 → IsAccount account
      → path_route (method_of (row op).0) (vaults_path (path_of (record { account = account; op = op }))) ≡ route_to op
  led ListVaults names is = behind_vaults Get [] is
  led (CreateVault vault) names is = behind_vaults Put (vault ∷ []) is ∙ named act.CreateVault vault (Some 0) names.0
  led (DescribeVault vault) names is = behind_vaults Get (vault ∷ []) is ∙ named act.DescribeVault vault (Some 0) names.0
  led (DeleteVault vault) names is = behind_vaults Delete (vault ∷ []) is ∙ named act.DeleteVault vault (Some 0) names.0
  led (Upload vault) names is = behind_vaults Post (vault ∷ codes "archives" ∷ []) is ∙ named act.Upload vault (Some 0) names.0
  led (DeleteArchive vault archive) names is =
      behind_vaults Delete (vault ∷ codes "archives" ∷ id_text (record { kind = Archive; number = archive }) ∷ []) is
      ∙ identified act.DeleteArchive vault Archive archive names.0 names.1.1.0
  led (BeginUpload vault) names is =
      behind_vaults Post (vault ∷ codes "multipart-uploads" ∷ []) is ∙ named act.BeginUpload vault (Some 0) names.0
  led (ListUploads vault) names is =
      behind_vaults Get (vault ∷ codes "multipart-uploads" ∷ []) is ∙ named act.ListUploads vault (Some 0) names.0
  led (Part vault upload) names is =
      behind_vaults Put (vault ∷ codes "multipart-uploads" ∷ id_text (record { kind = Uploading; number = upload }) ∷ []) is
      ∙ identified act.Part vault Uploading upload names.0 names.1.1.0
  led (ListParts vault upload) names is =
      behind_vaults Get (vault ∷ codes "multipart-uploads" ∷ id_text (record { kind = Uploading; number = upload }) ∷ []) is
      ∙ identified act.ListParts vault Uploading upload names.0 names.1.1.0
  led (CompleteUpload vault upload) names is =
      behind_vaults Post (vault ∷ codes "multipart-uploads" ∷ id_text (record { kind = Uploading; number = upload }) ∷ []) is
      ∙ identified act.CompleteUpload vault Uploading upload names.0 names.1.1.0
  led (AbortUpload vault upload) names is =
      behind_vaults Delete (vault ∷ codes "multipart-uploads" ∷ id_text (record { kind = Uploading; number = upload }) ∷ []) is
      ∙ identified act.AbortUpload vault Uploading upload names.0 names.1.1.0
  led (BeginJob vault) names is = behind_vaults Post (vault ∷ codes "jobs" ∷ []) is ∙ named act.BeginJob vault (Some 0) names.0
  led (ListJobs vault) names is = behind_vaults Get (vault ∷ codes "jobs" ∷ []) is ∙ named act.ListJobs vault (Some 0) names.0
  led (DescribeJob vault job) names is =
      behind_vaults Get (vault ∷ codes "jobs" ∷ id_text (record { kind = Job; number = job }) ∷ []) is
      ∙ identified act.DescribeJob vault Job job names.0 names.1.1.0
  led (JobOutput vault job) names is =
      behind_vaults Get (vault ∷ codes "jobs" ∷ id_text (record { kind = Job; number = job }) ∷ codes "output" ∷ []) is
      ∙ identified act.JobOutput vault Job job names.0 names.1.1.0
  led (InitiateLock vault) names is =
      behind_vaults Post (vault ∷ codes "lock-policy" ∷ []) is ∙ named act.InitiateLock vault (Some 0) names.0
  led (ShowLock vault) names is =
      behind_vaults Get (vault ∷ codes "lock-policy" ∷ []) is ∙ named act.ShowLock vault (Some 0) names.0
  led (CompleteLock vault lock) names is =
      behind_vaults Post (vault ∷ codes "lock-policy" ∷ id_text (record { kind = Lock; number = lock }) ∷ []) is
      ∙ identified act.CompleteLock vault Lock lock names.0 names.1.1.0
  led (AbortLock vault) names is =
      behind_vaults Delete (vault ∷ codes "lock-policy" ∷ []) is ∙ named act.AbortLock vault (Some 0) names.0

-- what is asked for is the route
pub asked_is_routed : (head : HeadText) (route : Route) → AsksFor head route → route_of head ≡ found.Route route
asked_is_routed head route asks =
    ap (λ m. path_route (method_of m) (vaults_path (pieces head.path))) asks.method
    ∙ ap (λ ps. path_route (method_of (row route.op).0) (vaults_path ps)) asks.path
    ∙ led route.account route.op asks.names asks.account
