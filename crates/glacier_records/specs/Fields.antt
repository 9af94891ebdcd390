-- The fields of records.
use Rattle.std.specs.Prelude.{◌⊎◌, ℕ, ◌==◌, List, Bool, true, false, Option, Some, None, nat_le, nat_lt, if◌then◌else◌}
use Rattle.std.proofs.Common.{inl, inr}
use Rattle.std.specs.Int.{w8, w16, w32, w64}
use Rattle.glacier_base.specs.Names.{is_account, is_vault_name, is_description}
use Rattle.glacier_base.specs.declared.moment.TheConstants.{LAST_MOMENT}
use Rattle.glacier_extents.specs.declared.run.Run.{Run}
use Rattle.glacier_vault.specs.declared.job.Tier.{Tier}
use Rattle.glacier_vault.specs.declared.job.Tier.TheVariants.{Expedited, Standard, Bulk}
use Rattle.glacier_vault.specs.declared.job.Work.{Work}
use Rattle.glacier_vault.specs.declared.job.Work.TheVariants.{Archive, Inventory}
use Rattle.glacier_records.specs.declared.kept.Blob.{Blob}
use Rattle.glacier_records.specs.declared.kept.StageName.{StageName}
use Rattle.glacier_records.specs.declared.kept.StageName.TheVariants.{Waiting, Failed, Done}
use Rattle.glacier_records.specs.Codec.{Codec, exactly, number, counted, such_that, coded, seen, many, nothing, ◌⊗◌, ◌⊕◌}

-- twelve digits
abbrev pub account_field : Codec (List ℕ)
account_field = such_that is_account (exactly 12)

-- seconds since 1970
abbrev pub moment_field : Codec ℕ
moment_field = such_that (λ seconds. nat_le seconds LAST_MOMENT) (number w64)

-- a vault's name behind its length
abbrev pub name_field : Codec (List ℕ)
name_field = such_that is_vault_name (counted w8)

-- the text of a policy behind its length
abbrev pub text_field : Codec (List ℕ)
text_field = counted w16

-- a description behind its length
abbrev pub description_field : Codec (List ℕ)
description_field = such_that is_description (counted w16)

-- a number of an id, a blob, a size or a place
abbrev pub number_field : Codec ℕ
number_field = number w64

abbrev pub index_field : Codec ℕ
index_field = number w32

-- the 32 bytes of a digest
abbrev pub digest_field : Codec (List ℕ)
digest_field = exactly 32

-- digests behind their number
abbrev pub leaves_field : Codec (List (List ℕ))
leaves_field = many w32 digest_field

-- a run of blocks, of which there is at least one
abbrev pub run_field : Codec Run
run_field =
    seen (λ (both : ℕ × ℕ). record { first = both.0; count = both.1 }) (λ run. (run.first, run.count))
    (such_that (λ both. nat_lt 0 both.1) (number w32 ⊗ number w32))

-- runs behind their number
abbrev pub runs_field : Codec (List Run)
runs_field = many w32 run_field

-- a blob's number and its runs
abbrev pub blob_field : Codec Blob
blob_field =
    seen (λ (both : ℕ × List Run). record { number = both.0; runs = both.1 }) (λ blob. (blob.number, blob.runs))
    (number_field ⊗ runs_field)

abbrev pub blobs_field : Codec (List Blob)
blobs_field = many w32 blob_field

-- a flag
abbrev pub flag_code : Bool → ℕ
flag_code false = 0
flag_code true = 1

abbrev pub flag_of : ℕ → Option Bool
flag_of byte = if byte == 0 then Some false else if byte == 1 then Some true else None

abbrev pub flag_field : Codec Bool
flag_field = coded flag_code flag_of

-- how soon a job is ready
abbrev pub tier_code : Tier → ℕ
tier_code Expedited = 0
tier_code Standard = 1
tier_code Bulk = 2

abbrev pub tier_of : ℕ → Option Tier
tier_of byte =
    if byte == 0 then Some Expedited else if byte == 1 then Some Standard else if byte == 2 then Some Bulk else None

abbrev pub tier_field : Codec Tier
tier_field = coded tier_code tier_of

-- how far a job is
abbrev pub stage_code : StageName → ℕ
stage_code Waiting = 0
stage_code Failed = 1
stage_code Done = 2

abbrev pub stage_of : ℕ → Option StageName
stage_of byte =
    if byte == 0 then Some Waiting else if byte == 1 then Some Failed else if byte == 2 then Some Done else None

abbrev pub stage_field : Codec StageName
stage_field = coded stage_code stage_of

-- a digest that may be missing, behind a flag that says whether it is there
abbrev pub some_digest : Unit {0} ⊎ List ℕ → Option (List ℕ)
some_digest (inl nothing_there) = None
some_digest (inr digest) = Some digest

abbrev pub digest_side : Option (List ℕ) → Unit {0} ⊎ List ℕ
digest_side None = inl tt
digest_side (Some digest) = inr digest

abbrev pub optional_field : Codec (Option (List ℕ))
optional_field = seen some_digest digest_side (nothing ⊕ digest_field)

-- what a job asks for: of an archive its number, size, tree hash, first place, end, and the tree hash of that stretch;
-- or an inventory, and whether it is one in CSV
abbrev pub Retrieval : Type 0
Retrieval = ℕ × (ℕ × (List ℕ × (ℕ × (ℕ × Option (List ℕ)))))

abbrev pub retrieval_field : Codec Retrieval
retrieval_field = number_field ⊗ number_field ⊗ digest_field ⊗ number_field ⊗ number_field ⊗ optional_field

abbrev pub work_of : Retrieval ⊎ Bool → Work
work_of (inl f) = Archive f.0 f.1.0 f.1.1.0 f.1.1.1.0 f.1.1.1.1.0 f.1.1.1.1.1
work_of (inr csv) = Inventory csv

abbrev pub work_side : Work → Retrieval ⊎ Bool
work_side (Archive archive size tree first end range) = inl (archive, (size, (tree, (first, (end, range)))))
work_side (Inventory csv) = inr csv

abbrev pub work_field : Codec Work
work_field = seen work_of work_side (retrieval_field ⊕ flag_field)
