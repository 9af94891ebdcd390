use Rattle.std.proofs.Common.{◌≡◌}
use Rattle.std.specs.Prelude.{ℕ, ◌||◌}
use Rattle.std.specs.FinMap as map
use Rattle.std.specs.List.{list_any}
use Rattle.glacier_job.specs.Naming.{names_at}
use Rattle.glacier_job.proofs.naming.named_archives_at.Given as goal

abbrev pub invariant-loop-job : goal.invariant-loop-job
invariant-loop-job l = (number : ℕ) →
    (map.contains_key l.found number || list_any (names_at l.m l.vault.archives number) l.job-iterator)
    ≡ list_any (names_at l.m l.vault.archives number) (map.values l.vault.jobs)
