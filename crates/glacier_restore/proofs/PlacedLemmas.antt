-- What is put into the last vault of an account that is made again.
use Rattle.std.specs.Prelude.{◌≡◌, ℕ, ◌<◌, ◌≤◌, Bool, true, false, ◌&&◌, List, [], ◌∷◌, length, Option, Some, None, nat_eq, nat_lt, nat_le, if◌then◌else◌}
use Rattle.std.specs.Cmp.Lexicographic.{nat_list_cmp_total}
use Rattle.std.specs.FinMap as map
use Rattle.std.specs.Ordering.{nat_cmp}
use Rattle.std.proofs.Common.{◌∙◌, ap, sym, refl, arith}
use Rattle.std.proofs.lemmas.Bool.Decides.{nat_tests}
use Rattle.glacier_base.proofs.Finite.{bytes_cmp-IsAntisymmetric}
use Rattle.glacier_extents.specs.declared.run.Run.{Run}
use Rattle.glacier_treehash.specs.Roots.{root_of_digests}
use Rattle.glacier_vault.specs.Account.{empty_account, new_vault}
use Rattle.glacier_vault.specs.Lawful.{IsLawfulBody}
use Rattle.glacier_vault.specs.Rows.{in_vault, with_jobs, with_vaults}
use Rattle.glacier_vault.specs.Totals.{Archives, Vaults, bytes_in, need}
use Rattle.glacier_vault.specs.declared.archive.Archive.{Archive}
use Rattle.glacier_vault.specs.declared.archive.Finished.{Finished}
use Rattle.glacier_vault.specs.declared.archive.Part.{Part}
use Rattle.glacier_vault.specs.declared.archive.Upload.{Upload}
use Rattle.glacier_vault.specs.declared.job.Job.{Job}
use Rattle.glacier_vault.specs.declared.lock.Lock.{Lock}
use Rattle.glacier_vault.specs.declared.state.AccountState.{AccountState}
use Rattle.glacier_vault.specs.declared.state.VaultState.{VaultState}
use Rattle.glacier_restore.specs.Fitting.{is_body}
use Rattle.glacier_restore.specs.Moments.{with_due}
use Rattle.glacier_restore.specs.Putting.{where_fits, put_in}
use Rattle.glacier_restore.specs.Restoring.{kept_archive, kept_part, numbers_of}
use Rattle.glacier_restore.specs.Snapshot.{with_runs}
use Rattle.glacier_restore.proofs.EachLemmas.{get_there, changed_there}

pub both : (a b : Bool) → a ≡ true → b ≡ true → (a && b) ≡ true
both true b p q = q
both false b p q = p

pub le_test : (n m : ℕ) → n ≤ m → nat_le n m ≡ true
le_test n m le = grind (arith, nat_tests)

pub lt_test : (n m : ℕ) → n < m → nat_lt n m ≡ true
lt_test n m lt = grind (arith, nat_tests)

pub eq_test : (n m : ℕ) → n ≡ m → nat_eq n m ≡ true
eq_test n m e = grind (arith, nat_tests)

pub body_test : (size : ℕ) (leaves : List (List ℕ)) (tree : List ℕ) → IsLawfulBody size leaves tree → is_body size leaves ≡ true
body_test size leaves tree body = both _ _ (le_test 1 size body.some) (eq_test (length leaves) (need size) body.count)

numbers-with_runs : (runs : ℕ → List Run) (ns : List ℕ) → numbers_of (with_runs runs ns) ≡ ns
numbers-with_runs runs [] = refl
numbers-with_runs runs (n ∷ ns) = ap (λ l. n ∷ l) (numbers-with_runs runs ns)

-- the item of an archive is of that archive
pub archive_again : (runs : ℕ → List Run) (x : Archive) → IsLawfulBody x.size x.leaves x.tree → kept_archive x.created x.size x.description x.leaves (with_runs runs x.blobs) ≡ Some x
archive_again runs x body =
    let of_parts : List ℕ → List ℕ → Option Archive = λ tree blobs. Some (record { size = x.size; leaves = x.leaves; tree = tree; description = x.description; created = x.created; blobs = blobs }) in
    ap (λ b. if b then of_parts (root_of_digests x.leaves) (numbers_of (with_runs runs x.blobs)) else None) (body_test x.size x.leaves x.tree body)
    ∙ ap (λ tree. of_parts tree (numbers_of (with_runs runs x.blobs))) (sym body.root)
    ∙ ap (of_parts x.tree) (numbers-with_runs runs x.blobs)

-- and that of a part of the part
pub part_again : (x : Part) → IsLawfulBody x.size x.leaves x.tree → kept_part x.size x.blob x.leaves ≡ Some x
part_again x body =
    let of_tree : List ℕ → Option Part = λ tree. Some (record { size = x.size; leaves = x.leaves; tree = tree; blob = x.blob }) in
    ap (λ b. if b then of_tree (root_of_digests x.leaves) else None) (body_test x.size x.leaves x.tree body) ∙ ap of_tree (sym body.root)

-- the account with these vaults
abbrev pub account_of : ℕ → ℕ → Vaults → AccountState
account_of last counter vaults = with_vaults (record empty_account { last = last; counter = counter }) last vaults

module _ (last counter : ℕ) (p : Vaults) (name : List ℕ) where
  -- the account with a vault beside the vaults p
  abbrev pub placed : VaultState → AccountState
  placed vault = account_of last counter (map.insert p name vault)

  -- a vault that takes something in has it then
  pub placed-in : (vault : VaultState) (takes : VaultState → Bool) (f : VaultState → VaultState) → takes vault ≡ true → put_in (placed vault) name takes f ≡ Some (placed (f vault))
  placed-in vault takes f fits =
      ap (λ r. elim r as (λ _. Option AccountState) [ None ↦ None | Some v ↦ where_fits (takes v) (in_vault (placed vault) last name f) ]) (get_there nat_list_cmp_total bytes_cmp-IsAntisymmetric p name vault)
      ∙ ap (λ b. where_fits b (in_vault (placed vault) last name f)) fits
      ∙ ap (λ q. Some (account_of last counter q)) (changed_there nat_list_cmp_total bytes_cmp-IsAntisymmetric p name vault f)

  pub past_test : (m number : ℕ) → number < counter → m ≤ last → nat_lt number counter && nat_le m last ≡ true
  past_test m number lt le = both _ _ (lt_test number counter lt) (le_test m last le)

-- the account in which a vault is made again
abbrev pub stand : AccountState → Vaults → List ℕ → VaultState → AccountState
stand a p name v = placed a.last a.counter p name v

-- a vault with these of its archives
abbrev pub archives_made : VaultState → Archives → VaultState
archives_made vault q = with_due (record (new_vault vault.created) { archives = q; bytes = bytes_in q })

-- with all of them, and these of those that are held
abbrev pub held_made : VaultState → Archives → VaultState
held_made vault q = with_due (record (archives_made vault vault.archives) { held = q })

abbrev pub uploads_made : VaultState → map.FinMap nat_cmp Upload → VaultState
uploads_made vault q = record (held_made vault vault.held) { uploads = q }

abbrev pub finished_made : VaultState → map.FinMap nat_cmp Finished → VaultState
finished_made vault q = with_due (record (uploads_made vault vault.uploads) { finished = q })

abbrev pub jobs_made : VaultState → map.FinMap nat_cmp Job → VaultState
jobs_made vault q = with_due (with_jobs (finished_made vault vault.finished) q)

abbrev pub lock_made : VaultState → Option Lock → VaultState
lock_made vault r = record (jobs_made vault vault.jobs) { lock = r }
