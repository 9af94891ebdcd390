-- What is added up over an account: over its archives, held archives, open uploads with their parts, and jobs.
use Rattle.std.specs.Prelude.{ℕ, ◌+◌, Option, Some, None, if◌then◌else◌, nat_eq, sum_by, count_by}
use Rattle.std.specs.Cmp.Lexicographic.{slice_cmp}
use Rattle.std.specs.FinMap as map
use Rattle.std.specs.Int.{div_ceil}
use Rattle.std.specs.Ordering.{nat_cmp}
use Rattle.glacier_treehash.specs.Tree.{mib}
use Rattle.glacier_vault.specs.declared.archive.Archive.{Archive}
use Rattle.glacier_vault.specs.declared.archive.Finished.{Finished}
use Rattle.glacier_vault.specs.declared.archive.Part.{Part}
use Rattle.glacier_vault.specs.declared.archive.Upload.{Upload}
use Rattle.glacier_vault.specs.declared.job.Job.{Job}
use Rattle.glacier_vault.specs.declared.lock.Lock.{Lock}
use Rattle.glacier_vault.specs.declared.state.VaultState.{VaultState}

-- a number for a vault, and for each archive, live or held, each open upload and each of its parts, each finished upload, job
-- and lock
pub record Weight : Type 0 where
  pub vault : ℕ
  pub archive : Archive → ℕ
  pub part : Part → ℕ
  pub upload : Upload → ℕ
  pub finished : Finished → ℕ
  pub job : Job → ℕ
  pub lock : Lock → ℕ

abbrev pub upload_total : Weight → Upload → ℕ
upload_total weight upload = weight.upload upload + sum_by weight.part (map.values upload.parts)

-- the lock, if there is one
abbrev pub lock_total : Weight → Option Lock → ℕ
lock_total weight None = 0
lock_total weight (Some lock) = weight.lock lock

abbrev pub vault_total : Weight → VaultState → ℕ
vault_total weight vault =
    sum_by weight.archive (map.values vault.archives)
    + sum_by weight.archive (map.values vault.held)
    + sum_by (upload_total weight) (map.values vault.uploads)
    + sum_by weight.finished (map.values vault.finished)
    + sum_by weight.job (map.values vault.jobs)
    + lock_total weight vault.lock
    + weight.vault

-- the vaults of an account
abbrev pub Vaults : Type 0
Vaults = map.FinMap (slice_cmp nat_cmp) VaultState

abbrev pub total : Weight → Vaults → ℕ
total weight vaults = sum_by (vault_total weight) (map.values vaults)

-- the blocks of 1 MiB that a body of this size takes
abbrev pub need : ℕ → ℕ
need size = div_ceil size mib

abbrev pub blocks : Weight
blocks = record {
  vault = 0;
  archive = λ archive. need archive.size;
  part = λ part. need part.size;
  upload = λ _. 0;
  finished = λ _. 0;
  job = λ _. 0;
  lock = λ _. 0;
}

-- the blocks that an account's bodies take
abbrev pub used_in : Vaults → ℕ
used_in vaults = total blocks vaults

abbrev pub each_upload : Weight
each_upload = record {
  vault = 0;
  archive = λ _. 0;
  part = λ _. 0;
  upload = λ _. 1;
  finished = λ _. 0;
  job = λ _. 0;
  lock = λ _. 0;
}

-- how many uploads of an account are open
abbrev pub uploads_in : Vaults → ℕ
uploads_in vaults = total each_upload vaults

abbrev pub each_job : Weight
each_job = record {
  vault = 0;
  archive = λ _. 0;
  part = λ _. 0;
  upload = λ _. 0;
  finished = λ _. 0;
  job = λ _. 1;
  lock = λ _. 0;
}

-- how many jobs an account has
abbrev pub jobs_in : Vaults → ℕ
jobs_in vaults = total each_job vaults

-- how often a blob is named
abbrev pub naming : ℕ → Weight
naming blob = record {
  vault = 0;
  archive = λ archive. count_by (λ number. nat_eq number blob) archive.blobs;
  part = λ part. if nat_eq part.blob blob then 1 else 0;
  upload = λ _. 0;
  finished = λ _. 0;
  job = λ _. 0;
  lock = λ _. 0;
}

abbrev pub times_named : ℕ → Vaults → ℕ
times_named blob vaults = total (naming blob) vaults

-- archives by their numbers
abbrev pub Archives : Type 0
Archives = map.FinMap nat_cmp Archive

-- the bytes of archives
abbrev pub bytes_in : Archives → ℕ
bytes_in archives = sum_by (λ archive. archive.size) (map.values archives)
