-- The bytes of the outputs of jobs.
use Rattle.std.specs.Prelude.{◌≡◌, ◌≤◌, ℕ, ◌-◌, List, [], Option, Some, None, take, drop}
use Rattle.glacier_bodies.specs.BlobAreas.{bytes_of}
use Rattle.glacier_machine.specs.JobSteps.{stored_archive}
use Rattle.glacier_machine.specs.declared.action.Stretch.{Stretch}
use Rattle.glacier_vault.specs.declared.archive.Archive.{Archive}
use Rattle.glacier_vault.specs.Accounts.{Accounts, account_in}
use Rattle.glacier_replay.specs.Changes.{State}

-- the bytes of an archive of an account, which are those of its blobs, one after another; none where there is no archive
abbrev pub archive_bytes : State → List ℕ → Option Archive → List ℕ
archive_bytes state account None = []
archive_bytes state account (Some archive) = bytes_of state.bodies account archive.blobs

-- the archive that a stretch is of, live or held
abbrev pub archive_in : Accounts → List ℕ → Stretch → Option Archive
archive_in accounts account stretch = stored_archive (account_in accounts account) stretch.vault stretch.archive

-- the bytes of a stretch: those of its archive, from its first to before its end
abbrev pub stretch_bytes : State → List ℕ → Stretch → List ℕ
stretch_bytes state account stretch =
    take (stretch.end - stretch.first)
    (drop stretch.first (archive_bytes state account (archive_in state.accounts account stretch)))

-- the archive of a stretch is there, live or held, with all the bytes of the stretch
pub record HasStretch (accounts : Accounts) (account : List ℕ) (stretch : Stretch) : Type 0 where
  pub archive : Archive
  pub there : archive_in accounts account stretch ≡ Some archive
  pub within : stretch.end ≤ archive.size

-- another stretch of the same archive
abbrev pub between : Stretch → ℕ → ℕ → Stretch
between stretch first end = record { vault = stretch.vault; archive = stretch.archive; first = first; end = end }
