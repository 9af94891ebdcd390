-- An item of a snapshot is read as it is spelled.
use Rattle.std.proofs.Common.{◌≡◌, ℕ, ◌==◌, ◌<◌, ◌^◌, lit<, nat_lt, false, List, ◌++◌, Some, refl}
use Rattle.glacier_records.specs.declared.kept.Kept.{Kept}
use Rattle.glacier_records.specs.declared.kept.Kept.TheVariants as kept
use Rattle.glacier_records.specs.declared.records.Item.{Item}
use Rattle.glacier_records.specs.declared.records.Item.TheVariants as item
use Rattle.glacier_records.specs.Fields.{name_field, number_field}
use Rattle.glacier_records.specs.KeptFields.{kept_kind, kept_fields, KeptFits, archive_fields, archive_kept, open_upload_fields, upload_kept, open_part_fields, part_kept, finished_fields, finished_kept, job_fields, job_kept, line_fields, line_kept, kept_lock_fields, lock_kept}
use Rattle.glacier_records.specs.Reading.{kept_at}
use Rattle.glacier_records.proofs.CodecLemmas.{IsBytes, IsSound, pair_sound}
use Rattle.glacier_records.proofs.FieldLemmas.{name_sound, number_is_sound, index_sound, description_sound, text_sound, leaves_sound, runs_sound, blobs_sound, digest_sound, flag_sound, tier_sound, stage_sound, work_sound, moment_sound}
use Rattle.glacier_records.proofs.KindLemmas.{TookItem, IsKind, fields_found, fields_again}
use Rattle.glacier_records.proofs.OptionLemmas.{either_way}

archive_sound : IsSound archive_fields
archive_sound =
    pair_sound _ _ name_sound (pair_sound _ _ number_is_sound (pair_sound _ _ flag_sound (pair_sound _ _ number_is_sound (pair_sound _ _ description_sound (pair_sound _ _ leaves_sound blobs_sound)))))

open_upload_sound : IsSound open_upload_fields
open_upload_sound =
    pair_sound _ _ name_sound (pair_sound _ _ number_is_sound (pair_sound _ _ number_is_sound description_sound))

open_part_sound : IsSound open_part_fields
open_part_sound =
    pair_sound _ _ name_sound (pair_sound _ _ number_is_sound (pair_sound _ _ index_sound (pair_sound _ _ number_is_sound (pair_sound _ _ number_is_sound (pair_sound _ _ leaves_sound runs_sound)))))

finished_sound : IsSound finished_fields
finished_sound =
    pair_sound _ _ name_sound (pair_sound _ _ number_is_sound (pair_sound _ _ number_is_sound (pair_sound _ _ digest_sound number_is_sound)))

job_sound : IsSound job_fields
job_sound =
    pair_sound _ _ name_sound (pair_sound _ _ number_is_sound (pair_sound _ _ moment_sound (pair_sound _ _ tier_sound (pair_sound _ _ stage_sound (pair_sound _ _ description_sound work_sound)))))

line_sound : IsSound line_fields
line_sound =
    pair_sound _ _ name_sound (pair_sound _ _ number_is_sound (pair_sound _ _ number_is_sound (pair_sound _ _ number_is_sound (pair_sound _ _ moment_sound (pair_sound _ _ description_sound digest_sound)))))

kept_lock_sound : IsSound kept_lock_fields
kept_lock_sound =
    pair_sound _ _ name_sound (pair_sound _ _ number_is_sound (pair_sound _ _ flag_sound text_sound))

is_32 : IsKind 32 number_field (λ counter. item.Kept (kept.Account counter))
is_32 = record { sound = number_is_sound; kind_is = λ f. refl; fits = λ f fits. fits; spelled = λ f. refl }

is_33 : IsKind 33 name_field (λ name. item.Kept (kept.Vault name))
is_33 = record { sound = name_sound; kind_is = λ f. refl; fits = λ f fits. fits; spelled = λ f. refl }

is_34 : IsKind 34 archive_fields (λ f. item.Kept (archive_kept f))
is_34 = record { sound = archive_sound; kind_is = λ f. refl; fits = λ f fits. fits; spelled = λ f. refl }

is_35 : IsKind 35 open_upload_fields (λ f. item.Kept (upload_kept f))
is_35 = record { sound = open_upload_sound; kind_is = λ f. refl; fits = λ f fits. fits; spelled = λ f. refl }

is_36 : IsKind 36 open_part_fields (λ f. item.Kept (part_kept f))
is_36 = record { sound = open_part_sound; kind_is = λ f. refl; fits = λ f fits. fits; spelled = λ f. refl }

is_37 : IsKind 37 finished_fields (λ f. item.Kept (finished_kept f))
is_37 = record { sound = finished_sound; kind_is = λ f. refl; fits = λ f fits. fits; spelled = λ f. refl }

is_38 : IsKind 38 job_fields (λ f. item.Kept (job_kept f))
is_38 = record { sound = job_sound; kind_is = λ f. refl; fits = λ f fits. fits; spelled = λ f. refl }

is_39 : IsKind 39 line_fields (λ f. item.Kept (line_kept f))
is_39 = record { sound = line_sound; kind_is = λ f. refl; fits = λ f fits. fits; spelled = λ f. refl }

is_40 : IsKind 40 kept_lock_fields (λ f. item.Kept (lock_kept f))
is_40 = record { sound = kept_lock_sound; kind_is = λ f. refl; fits = λ f fits. fits; spelled = λ f. refl }

pub kept_found : (kind : ℕ) (bytes : List ℕ) (i : Item) (rest : List ℕ) → IsBytes bytes → kept_at kind bytes ≡ Some (i, rest)
    → TookItem kind bytes i rest
unfolding kept_at
kept_found kind bytes i rest are read =
    either_way (kind == 32) _ _ (i, rest) (fields_found kind bytes i rest are 32 number_field _ is_32)
    (either_way (kind == 33) _ _ (i, rest) (fields_found kind bytes i rest are 33 name_field _ is_33)
    (either_way (kind == 34) _ _ (i, rest) (fields_found kind bytes i rest are 34 archive_fields _ is_34)
    (either_way (kind == 35) _ _ (i, rest) (fields_found kind bytes i rest are 35 open_upload_fields _ is_35)
    (either_way (kind == 36) _ _ (i, rest) (fields_found kind bytes i rest are 36 open_part_fields _ is_36)
    (either_way (kind == 37) _ _ (i, rest) (fields_found kind bytes i rest are 37 finished_fields _ is_37)
    (either_way (kind == 38) _ _ (i, rest) (fields_found kind bytes i rest are 38 job_fields _ is_38)
    (either_way (kind == 39) _ _ (i, rest) (fields_found kind bytes i rest are 39 line_fields _ is_39)
    (either_way (kind == 40) _ _ (i, rest) (fields_found kind bytes i rest are 40 kept_lock_fields _ is_40)
    (λ none. absurd (cc none)))))))))) read

pub kept_again : (k : Kept) (rest : List ℕ) → KeptFits k → kept_at (kept_kind k) (kept_fields k ++ rest) ≡ Some (item.Kept k, rest)
unfolding kept_at
kept_again (kept.Account counter) rest fits =
    fields_again number_field number_is_sound (λ counter. item.Kept (kept.Account counter)) counter rest fits
kept_again (kept.Vault name) rest fits =
    fields_again name_field name_sound (λ name. item.Kept (kept.Vault name)) name rest fits
kept_again (kept.Archive name number held size description leaves blobs) rest fits =
    fields_again archive_fields archive_sound (λ f. item.Kept (archive_kept f)) (name, (number, (held, (size, (description, (leaves, blobs)))))) rest fits
kept_again (kept.OpenUpload name number part_size description) rest fits =
    fields_again open_upload_fields open_upload_sound (λ f. item.Kept (upload_kept f)) (name, (number, (part_size, description))) rest fits
kept_again (kept.OpenPart name upload index size blob leaves runs) rest fits =
    fields_again open_part_fields open_part_sound (λ f. item.Kept (part_kept f)) (name, (upload, (index, (size, (blob, (leaves, runs)))))) rest fits
kept_again (kept.Finished name upload size tree archive) rest fits =
    fields_again finished_fields finished_sound (λ f. item.Kept (finished_kept f)) (name, (upload, (size, (tree, archive)))) rest fits
kept_again (kept.Job name number ready tier stage description work) rest fits =
    fields_again job_fields job_sound (λ f. item.Kept (job_kept f)) (name, (number, (ready, (tier, (stage, (description, work)))))) rest fits
kept_again (kept.Line name job archive size created description tree) rest fits =
    fields_again line_fields line_sound (λ f. item.Kept (line_kept f)) (name, (job, (archive, (size, (created, (description, tree)))))) rest fits
kept_again (kept.Lock name number locked policy) rest fits =
    fields_again kept_lock_fields kept_lock_sound (λ f. item.Kept (lock_kept f)) (name, (number, (locked, policy))) rest fits

pub kept_large : (k : Kept) → nat_lt (kept_kind k) 32 ≡ false
kept_large (kept.Account counter) = refl
kept_large (kept.Vault name) = refl
kept_large (kept.Archive name number held size description leaves blobs) = refl
kept_large (kept.OpenUpload name number part_size description) = refl
kept_large (kept.OpenPart name upload index size blob leaves runs) = refl
kept_large (kept.Finished name upload size tree archive) = refl
kept_large (kept.Job name number ready tier stage description work) = refl
kept_large (kept.Line name job archive size created description tree) = refl
kept_large (kept.Lock name number locked policy) = refl

pub kept_fits_byte : (k : Kept) → kept_kind k < 2 ^ 8
kept_fits_byte (kept.Account counter) = lit< tt
kept_fits_byte (kept.Vault name) = lit< tt
kept_fits_byte (kept.Archive name number held size description leaves blobs) = lit< tt
kept_fits_byte (kept.OpenUpload name number part_size description) = lit< tt
kept_fits_byte (kept.OpenPart name upload index size blob leaves runs) = lit< tt
kept_fits_byte (kept.Finished name upload size tree archive) = lit< tt
kept_fits_byte (kept.Job name number ready tier stage description work) = lit< tt
kept_fits_byte (kept.Line name job archive size created description tree) = lit< tt
kept_fits_byte (kept.Lock name number locked policy) = lit< tt
