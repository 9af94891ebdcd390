-- The fields of each kind of item of a snapshot, and the item that they make.
use Rattle.std.specs.Prelude.{ℕ, List, Bool}
use Rattle.glacier_extents.specs.declared.run.Run.{Run}
use Rattle.glacier_vault.specs.declared.job.Tier.{Tier}
use Rattle.glacier_vault.specs.declared.job.Work.{Work}
use Rattle.glacier_records.specs.declared.kept.Blob.{Blob}
use Rattle.glacier_records.specs.declared.kept.Kept.{Kept}
use Rattle.glacier_records.specs.declared.kept.Kept.TheVariants as kept
use Rattle.glacier_records.specs.declared.kept.StageName.{StageName}
use Rattle.glacier_records.specs.Codec.{Codec, ◌⊗◌}
use Rattle.glacier_records.specs.Fields.{name_field, number_field, index_field, description_field, text_field, leaves_field, runs_field, blobs_field, digest_field, flag_field, tier_field, stage_field, work_field, moment_field}

abbrev pub ArchiveKept : Type 0
ArchiveKept = List ℕ × (ℕ × (Bool × (ℕ × (List ℕ × (List (List ℕ) × List Blob)))))

abbrev pub archive_fields : Codec ArchiveKept
archive_fields =
    name_field ⊗ number_field ⊗ flag_field ⊗ number_field ⊗ description_field ⊗ leaves_field ⊗ blobs_field

abbrev pub archive_kept : ArchiveKept → Kept
archive_kept f = kept.Archive f.0 f.1.0 f.1.1.0 f.1.1.1.0 f.1.1.1.1.0 f.1.1.1.1.1.0 f.1.1.1.1.1.1

abbrev pub UploadKept : Type 0
UploadKept = List ℕ × (ℕ × (ℕ × List ℕ))

abbrev pub open_upload_fields : Codec UploadKept
open_upload_fields = name_field ⊗ number_field ⊗ number_field ⊗ description_field

abbrev pub upload_kept : UploadKept → Kept
upload_kept f = kept.OpenUpload f.0 f.1.0 f.1.1.0 f.1.1.1

abbrev pub PartKept : Type 0
PartKept = List ℕ × (ℕ × (ℕ × (ℕ × (ℕ × (List (List ℕ) × List Run)))))

abbrev pub open_part_fields : Codec PartKept
open_part_fields =
    name_field ⊗ number_field ⊗ index_field ⊗ number_field ⊗ number_field ⊗ leaves_field ⊗ runs_field

abbrev pub part_kept : PartKept → Kept
part_kept f = kept.OpenPart f.0 f.1.0 f.1.1.0 f.1.1.1.0 f.1.1.1.1.0 f.1.1.1.1.1.0 f.1.1.1.1.1.1

abbrev pub FinishedKept : Type 0
FinishedKept = List ℕ × (ℕ × (ℕ × (List ℕ × ℕ)))

abbrev pub finished_fields : Codec FinishedKept
finished_fields = name_field ⊗ number_field ⊗ number_field ⊗ digest_field ⊗ number_field

abbrev pub finished_kept : FinishedKept → Kept
finished_kept f = kept.Finished f.0 f.1.0 f.1.1.0 f.1.1.1.0 f.1.1.1.1

abbrev pub JobKept : Type 0
JobKept = List ℕ × (ℕ × (ℕ × (Tier × (StageName × (List ℕ × Work)))))

abbrev pub job_fields : Codec JobKept
job_fields = name_field ⊗ number_field ⊗ moment_field ⊗ tier_field ⊗ stage_field ⊗ description_field ⊗ work_field

abbrev pub job_kept : JobKept → Kept
job_kept f = kept.Job f.0 f.1.0 f.1.1.0 f.1.1.1.0 f.1.1.1.1.0 f.1.1.1.1.1.0 f.1.1.1.1.1.1

abbrev pub LineKept : Type 0
LineKept = List ℕ × (ℕ × (ℕ × (ℕ × (ℕ × (List ℕ × List ℕ)))))

abbrev pub line_fields : Codec LineKept
line_fields =
    name_field ⊗ number_field ⊗ number_field ⊗ number_field ⊗ moment_field ⊗ description_field ⊗ digest_field

abbrev pub line_kept : LineKept → Kept
line_kept f = kept.Line f.0 f.1.0 f.1.1.0 f.1.1.1.0 f.1.1.1.1.0 f.1.1.1.1.1.0 f.1.1.1.1.1.1

abbrev pub LockKept : Type 0
LockKept = List ℕ × (ℕ × (Bool × List ℕ))

abbrev pub kept_lock_fields : Codec LockKept
kept_lock_fields = name_field ⊗ number_field ⊗ flag_field ⊗ text_field

abbrev pub lock_kept : LockKept → Kept
lock_kept f = kept.Lock f.0 f.1.0 f.1.1.0 f.1.1.1

-- the first byte of an item's record
abbrev pub kept_kind : Kept → ℕ
kept_kind (kept.Account counter) = 32
kept_kind (kept.Vault name) = 33
kept_kind (kept.Archive name number held size description leaves blobs) = 34
kept_kind (kept.OpenUpload name number part_size description) = 35
kept_kind (kept.OpenPart name upload index size blob leaves runs) = 36
kept_kind (kept.Finished name upload size tree archive) = 37
kept_kind (kept.Job name number ready tier stage description work) = 38
kept_kind (kept.Line name job archive size created description tree) = 39
kept_kind (kept.Lock name number locked policy) = 40

-- the bytes of an item's fields
abbrev pub kept_fields : Kept → List ℕ
kept_fields (kept.Account counter) = number_field.spell counter
kept_fields (kept.Vault name) = name_field.spell name
kept_fields (kept.Archive name number held size description leaves blobs) =
    archive_fields.spell (name, (number, (held, (size, (description, (leaves, blobs))))))
kept_fields (kept.OpenUpload name number part_size description) =
    open_upload_fields.spell (name, (number, (part_size, description)))
kept_fields (kept.OpenPart name upload index size blob leaves runs) =
    open_part_fields.spell (name, (upload, (index, (size, (blob, (leaves, runs))))))
kept_fields (kept.Finished name upload size tree archive) =
    finished_fields.spell (name, (upload, (size, (tree, archive))))
kept_fields (kept.Job name number ready tier stage description work) =
    job_fields.spell (name, (number, (ready, (tier, (stage, (description, work))))))
kept_fields (kept.Line name job archive size created description tree) =
    line_fields.spell (name, (job, (archive, (size, (created, (description, tree))))))
kept_fields (kept.Lock name number locked policy) = kept_lock_fields.spell (name, (number, (locked, policy)))

-- the fields have a spelling
abbrev pub KeptFits : Kept → Type 0
KeptFits (kept.Account counter) = number_field.Fits counter
KeptFits (kept.Vault name) = name_field.Fits name
KeptFits (kept.Archive name number held size description leaves blobs) =
    archive_fields.Fits (name, (number, (held, (size, (description, (leaves, blobs))))))
KeptFits (kept.OpenUpload name number part_size description) =
    open_upload_fields.Fits (name, (number, (part_size, description)))
KeptFits (kept.OpenPart name upload index size blob leaves runs) =
    open_part_fields.Fits (name, (upload, (index, (size, (blob, (leaves, runs))))))
KeptFits (kept.Finished name upload size tree archive) =
    finished_fields.Fits (name, (upload, (size, (tree, archive))))
KeptFits (kept.Job name number ready tier stage description work) =
    job_fields.Fits (name, (number, (ready, (tier, (stage, (description, work))))))
KeptFits (kept.Line name job archive size created description tree) =
    line_fields.Fits (name, (job, (archive, (size, (created, (description, tree))))))
KeptFits (kept.Lock name number locked policy) = kept_lock_fields.Fits (name, (number, (locked, policy)))
