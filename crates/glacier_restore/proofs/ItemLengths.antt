-- The items of an account's part of a snapshot are as long together as the account keeps.
use Rattle.std.specs.Prelude.{◌≡◌, ℕ, suc, ◌+◌, List, [], ◌∷◌, ◌++◌, length, true, false, Option, Some, None, sum_by}
use Rattle.std.specs.declared.cmp.Ordering.{Ordering}
use Rattle.std.specs.FinMap as map
use Rattle.std.specs.List.{flat_map}
use Rattle.std.specs.Map.{values_of}
use Rattle.std.proofs.Common.{◌∙◌, ap, refl, arith}
use Rattle.std.proofs.lemmas.List.Concat.{flat_map-cons}
use Rattle.std.proofs.lemmas.List.Sums.{sum_by-append, sum_by-cons}
use Rattle.glacier_extents.specs.declared.run.Run.{Run}
use Rattle.glacier_vault.specs.Lawful.{IsLawful}
use Rattle.glacier_vault.specs.Lengths.{archive_length, part_length, finished_length, job_length, line_length, lines_length, lengths, length_of_vault}
use Rattle.glacier_vault.specs.Totals.{upload_total, lock_total}
use Rattle.glacier_vault.specs.declared.archive.Archive.{Archive}
use Rattle.glacier_vault.specs.declared.archive.Finished.{Finished}
use Rattle.glacier_vault.specs.declared.archive.Part.{Part}
use Rattle.glacier_vault.specs.declared.archive.Upload.{Upload}
use Rattle.glacier_vault.specs.declared.job.Job.{Job}
use Rattle.glacier_vault.specs.declared.job.Stage.{Stage}
use Rattle.glacier_vault.specs.declared.job.Stage.TheVariants as stages
use Rattle.glacier_vault.specs.declared.lock.Lock.{Lock}
use Rattle.glacier_vault.specs.declared.state.AccountState.{AccountState}
use Rattle.glacier_vault.specs.declared.state.VaultState.{VaultState}
use Rattle.glacier_records.specs.KeptLengths.{kept_length}
use Rattle.glacier_records.specs.declared.kept.Kept.{Kept}
use Rattle.glacier_records.specs.declared.kept.Kept.TheVariants as kept
use Rattle.glacier_restore.specs.Snapshot.{Items, items_length, of_each, with_runs, lines_of, stage_name, archive_items, held_items, part_items, upload_items, finished_items, line_items, job_items, lock_items, held_in, vault_items, snapshot_items}

abbrev item_length : ℕ × Kept → ℕ
item_length item = kept_length item.1

together : (xs ys : Items) → items_length (xs ++ ys) ≡ items_length xs + items_length ys
together xs ys = sum_by-append item_length xs ys

first : (m : ℕ) (item : Kept) (items : Items) → items_length ((m, item) ∷ items) ≡ kept_length item + items_length items
first m item items = sum_by-cons item_length (m, item) items

alone : (m : ℕ) (item : Kept) → items_length ((m, item) ∷ []) ≡ kept_length item
alone m item = omega (arith, first m item [])

-- the items of each thing of a list
of_all : {X : Type 0} (items : X → Items) (size : X → ℕ) → ((x : X) → items_length (items x) ≡ size x) → (xs : List X) → items_length (flat_map items xs) ≡ sum_by size xs
of_all items size each [] = refl
of_all items size each (x ∷ xs) =
    let goal : items_length (flat_map items (x ∷ xs)) ≡ sum_by size (x ∷ xs) =
    omega (arith, ap (λ l. items_length l) (flat_map-cons items x xs), together (items x) (flat_map items xs), each x, of_all items size each xs, sum_by-cons size x xs) in
    goal

module _ {K X : Type 0} (size : X → ℕ) where
  sum_values : (es : List (K × X)) → sum_by (λ e. size e.1) es ≡ sum_by size (values_of es)
  sum_values [] = refl
  sum_values (e ∷ es) =
      let goal : sum_by (λ e. size e.1) (e ∷ es) ≡ sum_by size (values_of (e ∷ es)) =
      omega (arith, sum_values es, sum_by-cons {X = K × X} (λ e. size e.1) e es, sum_by-cons size e.1 (values_of es)) in
      goal

  -- those of each value of a map
  of_values : {R : K → K → Ordering} (items : K → X → Items) → ((k : K) (x : X) → items_length (items k x) ≡ size x) → (m : map.FinMap R X)
      → items_length (of_each items m) ≡ sum_by size (map.values m)
  of_values items each m = of_all {X = K × X} (λ e. items e.0 e.1) (λ e. size e.1) (λ e. each e.0 e.1) (map.entries m) ∙ sum_values (map.entries m)

module _ (runs : ℕ → List Run) (name : List ℕ) where
  as_many : (ns : List ℕ) → length (with_runs runs ns) ≡ length ns
  as_many [] = refl
  as_many (n ∷ ns) = ap (λ k. suc k) (as_many ns)

  archive_is : (number : ℕ) (x : Archive) → items_length (archive_items runs name number x) ≡ archive_length (length name) x
  archive_is number x = omega (arith, as_many x.blobs, alone x.created (kept.Archive name number false x.size x.description x.leaves (with_runs runs x.blobs)))

  held_is : (number : ℕ) (x : Archive) → items_length (held_items runs name number x) ≡ archive_length (length name) x
  held_is number x = omega (arith, as_many x.blobs, alone x.created (kept.Archive name number true x.size x.description x.leaves (with_runs runs x.blobs)))

  part_is : (upload index : ℕ) (x : Part) → items_length (part_items runs name upload index x) ≡ part_length (length name) x
  part_is upload index x = alone 0 (kept.OpenPart name upload index x.size x.blob x.leaves (runs x.blob))

  upload_is : (number : ℕ) (x : Upload) → items_length (upload_items runs name number x) ≡ upload_total (lengths (length name)) x
  upload_is number x = omega (
    arith,
    first x.created (kept.OpenUpload name number x.part_size x.description) (of_each (part_items runs name number) x.parts),
    of_values (part_length (length name)) (part_items runs name number) (part_is number) x.parts,
  )

  finished_is : (number : ℕ) (x : Finished) → items_length (finished_items name number x) ≡ finished_length (length name)
  finished_is number x = alone x.at (kept.Finished name number x.size x.tree x.archive)

  lines_are : (number : ℕ) (stage : Stage) → items_length (flat_map (line_items name number) (lines_of stage)) ≡ lines_length (length name) stage
  lines_are number stages.Waiting = refl
  lines_are number stages.Failed = refl
  lines_are number (stages.Done lines) = of_all (line_items name number) (line_length (length name)) (λ x. alone 0 (kept.Line name number x.archive x.size x.created x.description x.tree)) lines

  job_is : (number : ℕ) (x : Job) → items_length (job_items name number x) ≡ job_length (length name) x
  job_is number x = omega (
    arith,
    first x.created (kept.Job name number x.ready x.tier (stage_name x.stage) x.description x.work) (flat_map (line_items name number) (lines_of x.stage)),
    lines_are number x.stage,
  )

  lock_is : (r : Option Lock) → items_length (lock_items name r) ≡ lock_total (lengths (length name)) r
  lock_is None = refl
  lock_is (Some x) = alone x.created (kept.Lock name x.number x.locked x.text)

  vault_is : (x : VaultState) → items_length (vault_items runs name x) ≡ length_of_vault name x
  vault_is x =
      let jobs = of_each (job_items name) x.jobs ++ lock_items name x.lock in
      let finished = of_each (finished_items name) x.finished ++ jobs in
      let uploads = of_each (upload_items runs name) x.uploads ++ finished in
      let held = of_each (held_items runs name) x.held ++ uploads in
      let n = length name in
      omega (
        arith,
        first x.created (kept.Vault name) (held_in runs name x),
        together (of_each (archive_items runs name) x.archives) held,
        together (of_each (held_items runs name) x.held) uploads,
        together (of_each (upload_items runs name) x.uploads) finished,
        together (of_each (finished_items name) x.finished) jobs,
        together (of_each (job_items name) x.jobs) (lock_items name x.lock),
        of_values (archive_length n) (archive_items runs name) archive_is x.archives,
        of_values (archive_length n) (held_items runs name) held_is x.held,
        of_values (upload_total (lengths n)) (upload_items runs name) upload_is x.uploads,
        of_values (λ (f : Finished). finished_length n) (finished_items name) finished_is x.finished,
        of_values (job_length n) (job_items name) job_is x.jobs,
        lock_is x.lock,
      )

pub account_is : (runs : ℕ → List Run) (a : AccountState) → IsLawful a → items_length (snapshot_items runs a) ≡ a.length
account_is runs a lawful = omega (
  arith,
  lawful.length,
  first a.last (kept.Account a.counter) (of_each (vault_items runs) a.vaults),
  of_all {X = List ℕ × VaultState} (λ e. vault_items runs e.0 e.1) (λ e. length_of_vault e.0 e.1) (λ e. vault_is runs e.0 e.1) (map.entries a.vaults),
)
