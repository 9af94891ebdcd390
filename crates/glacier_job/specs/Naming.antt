-- Archives that are gathered from jobs, to be looked up.
use Rattle.std.specs.Prelude.{ℕ, Bool, false, Option, Some, None, nat_eq, not, ◌&&◌}
use Rattle.glacier_vault.specs.Named.{names}
use Rattle.glacier_vault.specs.Totals.{Archives}
use Rattle.glacier_vault.specs.declared.job.Job.{Job}
use Rattle.glacier_vault.specs.declared.job.Work.{Work}
use Rattle.glacier_vault.specs.declared.job.Work.TheVariants as works
use Rattle.glacier_job.specs.Pass.{settled, has_ended}

-- the archive that a job works on
abbrev pub archive_of : Work → Option ℕ
archive_of (works.Archive archive size tree first end range) = Some archive
archive_of (works.Inventory csv) = None

-- whether it is this one
abbrev pub is_archive : Option ℕ → ℕ → Bool
is_archive None number = false
is_archive (Some archive) number = nat_eq archive number

-- whether a job that the moment m leaves is done and names the archive
abbrev pub names_at : ℕ → Archives → ℕ → Job → Bool
names_at m archives number job = names number (settled m archives job) && not (has_ended m (settled m archives job))
