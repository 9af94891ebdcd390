-- What a job of a vault works on: the bytes of an archive, or the vault's inventory.
use Rattle.std.specs.Prelude.{ℕ, ◌+◌, ◌%◌, ◌≤◌, IfSome, Bool, false, not, ◌||◌, Option, Some, None, Result, Ok, Err, if◌then◌else◌, nat_eq, nat_lt}
use Rattle.std.specs.FinMap as map
use Rattle.glacier_treehash.specs.Nodes.{range_root}
use Rattle.glacier_treehash.specs.Tree.{mib}
use Rattle.glacier_vault.specs.declared.archive.Archive.{Archive}
use Rattle.glacier_vault.specs.declared.job.Work.{Work}
use Rattle.glacier_vault.specs.declared.job.Work.TheVariants as works
use Rattle.glacier_vault.specs.declared.refusal.Refusal.{Refusal}
use Rattle.glacier_vault.specs.declared.refusal.Refusal.TheVariants.{NoArchive, BadJobRange}
use Rattle.glacier_vault.specs.declared.state.VaultState.{VaultState}
use Rattle.glacier_job.specs.declared.asks.AskKind.{AskKind}
use Rattle.glacier_job.specs.declared.asks.AskKind.TheVariants as kinds

-- whether a range of bytes, first and last, isn't of whole MiB from within the archive, nor ends with it
abbrev pub is_bad_range : ℕ × ℕ → ℕ → Bool
is_bad_range range size =
    not (nat_eq (range.0 % mib) 0)
    || not (nat_lt range.1 size)
    || not (nat_eq ((range.1 + 1) % mib) 0 || nat_eq (range.1 + 1) size)

-- no range at all means the whole archive
abbrev pub is_bad_job_range : Option (ℕ × ℕ) → ℕ → Bool
is_bad_job_range None size = false
is_bad_job_range (Some range) size = is_bad_range range size

abbrev pub range_first : Option (ℕ × ℕ) → ℕ
range_first None = 0
range_first (Some range) = range.0

abbrev pub range_end : Option (ℕ × ℕ) → ℕ → ℕ
range_end None size = size
range_end (Some range) size = range.1 + 1

-- a retrieval of the bytes of an archive from one to before another, with their tree hash where they are a node
abbrev pub retrieval : ℕ → Archive → ℕ → ℕ → Work
retrieval number archive first end =
    works.Archive number archive.size archive.tree first end (range_root archive.leaves archive.size first end)

-- a range that is named begins where it ends or before
abbrev pub HasOrderedRange : AskKind → Type 0
HasOrderedRange (kinds.Archive archive range) = IfSome range (λ range. range.0 ≤ range.1)
HasOrderedRange (kinds.Inventory csv) = Unit {0}

-- what a job that is asked for works on, or why it doesn't begin
abbrev pub work_of : VaultState → AskKind → Result Work Refusal
work_of vault (kinds.Archive number range) = elim (map.get vault.archives number) [
  | None ↦ Err (NoArchive number)
  | Some archive ↦
      if is_bad_job_range range archive.size then Err BadJobRange
      else Ok (retrieval number archive (range_first range) (range_end range archive.size))
]
work_of vault (kinds.Inventory csv) = Ok (works.Inventory csv)
