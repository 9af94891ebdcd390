use Rattle.std.proofs.Common.{◌≡◌}
use Rattle.std.specs.Prelude.{ℕ, ◌||◌}
use Rattle.std.specs.FinMap as map
use Rattle.std.specs.List.{list_any}
use Rattle.glacier_vault.specs.Named.{names, is_named}
use Rattle.glacier_job.proofs.naming.named_archives.Given as goal

abbrev pub invariant-loop-job : goal.invariant-loop-job
invariant-loop-job l = (number : ℕ) → (map.contains_key l.found number || list_any (names number) l.job-iterator) ≡ is_named l.jobs number
