-- What is put into a vault does to the moment that is due in it.
use Rattle.std.specs.Prelude.{Bool, false, not, ◌&&◌}
use Rattle.std.specs.FinMap as map
use Rattle.glacier_vault.specs.Due.{content_due}
use Rattle.glacier_vault.specs.Named.{is_done}
use Rattle.glacier_vault.specs.declared.job.Job.{Job}
use Rattle.glacier_vault.specs.declared.job.Work.{Work}
use Rattle.glacier_vault.specs.declared.job.Work.TheVariants as works
use Rattle.glacier_vault.specs.declared.state.VaultState.{VaultState}

-- the vault with the moment that is due among what it holds
abbrev pub with_due : VaultState → VaultState
with_due vault = record vault { due = content_due vault }

-- whether what is asked for is of a held archive that no finished job names yet
abbrev pub asks_loose : VaultState → Work → Bool
asks_loose vault (works.Archive archive size tree first end range) = map.contains_key vault.held archive && not (map.contains_key vault.named archive)
asks_loose vault (works.Inventory csv) = false

-- whether a job is done and names such an archive
abbrev pub names_loose : VaultState → Job → Bool
names_loose vault job = is_done job.stage && asks_loose vault job.work
