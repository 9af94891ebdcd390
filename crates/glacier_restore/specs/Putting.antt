-- What an account is once something is put in, or None where it isn't taken.
use Rattle.std.specs.Prelude.{ℕ, Bool, true, false, not, ◌&&◌, List, [], ◌∷◌, ◌++◌, Option, Some, None, nat_le}
use Rattle.std.specs.FinMap as map
use Rattle.glacier_base.specs.Maps.{changed_at}
use Rattle.glacier_vault.specs.Account.{new_vault}
use Rattle.glacier_vault.specs.Rows.{in_vault, with_archives, with_jobs, with_vaults}
use Rattle.glacier_vault.specs.declared.archive.Archive.{Archive}
use Rattle.glacier_vault.specs.declared.archive.Finished.{Finished}
use Rattle.glacier_vault.specs.declared.archive.Part.{Part}
use Rattle.glacier_vault.specs.declared.archive.Upload.{Upload}
use Rattle.glacier_vault.specs.declared.job.Job.{Job}
use Rattle.glacier_vault.specs.declared.job.Line.{Line}
use Rattle.glacier_vault.specs.declared.job.Stage.{Stage}
use Rattle.glacier_vault.specs.declared.job.Stage.TheVariants as stages
use Rattle.glacier_vault.specs.declared.lock.Lock.{Lock}
use Rattle.glacier_vault.specs.declared.state.AccountState.{AccountState}
use Rattle.glacier_vault.specs.declared.state.VaultState.{VaultState}
use Rattle.glacier_restore.specs.Fitting.{is_unseen, takes_archive, takes_upload, upload_takes, takes_finished, takes_job, job_takes, takes_lock}
use Rattle.glacier_restore.specs.Moments.{with_due}

-- the vault with one more thing
abbrev pub with_archive : Bool → ℕ → Archive → VaultState → VaultState
with_archive false number archive vault = with_archives vault (map.insert vault.archives number archive)
with_archive true number archive vault = with_due (record vault { held = map.insert vault.held number archive })

abbrev pub with_upload : ℕ → Upload → VaultState → VaultState
with_upload number upload vault = record vault { uploads = map.insert vault.uploads number upload }

abbrev pub with_part : ℕ → Part → Upload → Upload
with_part index part upload = record upload { parts = map.insert upload.parts index part }

abbrev pub in_upload : ℕ → ℕ → Part → VaultState → VaultState
in_upload number index part vault = record vault { uploads = changed_at (with_part index part) vault.uploads number }

abbrev pub with_finished : ℕ → Finished → VaultState → VaultState
with_finished number finished vault = with_due (record vault { finished = map.insert vault.finished number finished })

abbrev pub with_job : ℕ → Job → VaultState → VaultState
with_job number job vault = with_due (with_jobs vault (map.insert vault.jobs number job))

abbrev pub one_line_more : Line → Stage → Stage
one_line_more line (stages.Done lines) = stages.Done (lines ++ line ∷ [])
one_line_more line stages.Waiting = stages.Waiting
one_line_more line stages.Failed = stages.Failed

abbrev pub with_line : Line → Job → Job
with_line line job = record job { stage = one_line_more line job.stage }

abbrev pub in_job : ℕ → Line → VaultState → VaultState
in_job number line vault = with_jobs vault (changed_at (with_line line) vault.jobs number)

abbrev pub with_lock : Lock → VaultState → VaultState
with_lock lock vault = record vault { lock = Some lock }

abbrev pub where_fits : Bool → AccountState → Option AccountState
where_fits true after = Some after
where_fits false after = None

-- the account whose vault of a name takes something in
abbrev pub put_in : AccountState → List ℕ → (VaultState → Bool) → (VaultState → VaultState) → Option AccountState
put_in a name takes f = elim (map.get a.vaults name) [ None ↦ None | Some vault ↦ where_fits (takes vault) (in_vault a a.last name f) ]

abbrev pub put_account : AccountState → ℕ → ℕ → Option AccountState
put_account a m counter = where_fits (is_unseen a) (record a { last = m; counter = counter })

abbrev pub put_vault : AccountState → ℕ → List ℕ → Option AccountState
put_vault a m name =
    where_fits (not (map.contains_key a.vaults name) && nat_le m a.last) (with_vaults a a.last (map.insert a.vaults name (new_vault m)))

abbrev pub put_archive : AccountState → List ℕ → Bool → ℕ → Archive → Option AccountState
put_archive a name held number archive = put_in a name (takes_archive a number archive) (with_archive held number archive)

abbrev pub put_upload : AccountState → List ℕ → ℕ → Upload → Option AccountState
put_upload a name number upload = put_in a name (takes_upload a number upload) (with_upload number upload)

abbrev pub put_part : AccountState → List ℕ → ℕ → ℕ → Part → Option AccountState
put_part a name upload index part = put_in a name (upload_takes a upload index part) (in_upload upload index part)

abbrev pub put_finished : AccountState → List ℕ → ℕ → Finished → Option AccountState
put_finished a name number finished = put_in a name (takes_finished a number finished) (with_finished number finished)

abbrev pub put_job : AccountState → List ℕ → ℕ → Job → Option AccountState
put_job a name number job = put_in a name (takes_job a number job) (with_job number job)

abbrev pub put_line : AccountState → List ℕ → ℕ → Line → Option AccountState
put_line a name job line = put_in a name (job_takes job line) (in_job job line)

abbrev pub put_lock : AccountState → List ℕ → Lock → Option AccountState
put_lock a name lock = put_in a name (takes_lock a lock) (with_lock lock)
