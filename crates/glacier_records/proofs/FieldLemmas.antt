-- The fields of records are read as they are spelled.
use Rattle.std.proofs.Common.{◌≡◌, ◌⊎◌, inl, inr, ℕ, ◌==◌, ◌<◌, lit<, List, Bool, true, false, Option, Some, None, refl}
use Rattle.std.specs.Int.{w8, w16, w32, w64}
use Rattle.glacier_vault.specs.declared.job.Tier.{Tier}
use Rattle.glacier_vault.specs.declared.job.Tier.TheVariants.{Expedited, Standard, Bulk}
use Rattle.glacier_vault.specs.declared.job.Work.{Work}
use Rattle.glacier_vault.specs.declared.job.Work.TheVariants.{Archive, Inventory}
use Rattle.glacier_records.specs.declared.kept.StageName.{StageName}
use Rattle.glacier_records.specs.declared.kept.StageName.TheVariants.{Waiting, Failed, Done}
use Rattle.glacier_records.specs.Codec.{number, exactly, counted, nothing, ◌⊗◌}
use Rattle.glacier_records.specs.Fields.{account_field, moment_field, name_field, text_field, description_field, number_field, index_field, digest_field, leaves_field, run_field, runs_field, blob_field, blobs_field, flag_field, flag_code, flag_of, tier_field, tier_code, tier_of, stage_field, stage_code, stage_of, some_digest, digest_side, optional_field, Retrieval, retrieval_field, work_of, work_side, work_field}
use Rattle.glacier_records.proofs.ChoiceLemmas.{nothing_sound, seen_sound, coded_sound, one_code, either_sound}
use Rattle.glacier_records.proofs.CodecLemmas.{IsSound, wide8, wide16, wide32, wide64, exactly_sound, number_sound, counted_sound, such_sound, pair_sound}
use Rattle.glacier_records.proofs.ManyLemmas.{many_sound}
use Rattle.glacier_records.proofs.OptionLemmas.{either_way}

pub account_sound : IsSound account_field
account_sound = such_sound _ (exactly 12) (exactly_sound 12)

pub moment_sound : IsSound moment_field
moment_sound = such_sound _ (number w64) (number_sound w64 wide64)

pub name_sound : IsSound name_field
name_sound = such_sound _ (counted w8) (counted_sound w8 wide8)

pub text_sound : IsSound text_field
text_sound = counted_sound w16 wide16

pub description_sound : IsSound description_field
description_sound = such_sound _ (counted w16) (counted_sound w16 wide16)

pub number_is_sound : IsSound number_field
number_is_sound = number_sound w64 wide64

pub index_sound : IsSound index_field
index_sound = number_sound w32 wide32

pub digest_sound : IsSound digest_field
digest_sound = exactly_sound 32

pub leaves_sound : IsSound leaves_field
leaves_sound = many_sound w32 digest_field wide32 digest_sound

pub run_sound : IsSound run_field
run_sound =
    seen_sound _ _ _ (λ p. refl) (λ r. refl)
    (such_sound _ (number w32 ⊗ number w32) (pair_sound (number w32) (number w32) (number_sound w32 wide32) (number_sound w32 wide32)))

pub runs_sound : IsSound runs_field
runs_sound = many_sound w32 run_field wide32 run_sound

pub blob_sound : IsSound blob_field
blob_sound = seen_sound _ _ _ (λ p. refl) (λ b. refl) (pair_sound number_field runs_field number_is_sound runs_sound)

pub blobs_sound : IsSound blobs_field
blobs_sound = many_sound w32 blob_field wide32 blob_sound

flag_small : (flag : Bool) → flag_code flag < 256
flag_small false = lit< tt
flag_small true = lit< tt

flag_again : (flag : Bool) → flag_of (flag_code flag) ≡ Some flag
flag_again false = refl
flag_again true = refl

flag_there : (n : ℕ) (flag : Bool) → flag_of n ≡ Some flag → flag_code flag ≡ n
flag_there n flag =
    either_way (n == 0) _ _ flag (one_code flag_code n 0 false flag refl)
    (either_way (n == 1) _ _ flag (one_code flag_code n 1 true flag refl) (λ none. absurd (cc none)))

pub flag_sound : IsSound flag_field
flag_sound = coded_sound flag_code flag_of flag_small flag_again flag_there

tier_small : (tier : Tier) → tier_code tier < 256
tier_small Expedited = lit< tt
tier_small Standard = lit< tt
tier_small Bulk = lit< tt

tier_again : (tier : Tier) → tier_of (tier_code tier) ≡ Some tier
tier_again Expedited = refl
tier_again Standard = refl
tier_again Bulk = refl

tier_there : (n : ℕ) (tier : Tier) → tier_of n ≡ Some tier → tier_code tier ≡ n
tier_there n tier =
    either_way (n == 0) _ _ tier (one_code tier_code n 0 Expedited tier refl)
    (either_way (n == 1) _ _ tier (one_code tier_code n 1 Standard tier refl)
    (either_way (n == 2) _ _ tier (one_code tier_code n 2 Bulk tier refl) (λ none. absurd (cc none))))

pub tier_sound : IsSound tier_field
tier_sound = coded_sound tier_code tier_of tier_small tier_again tier_there

stage_small : (stage : StageName) → stage_code stage < 256
stage_small Waiting = lit< tt
stage_small Failed = lit< tt
stage_small Done = lit< tt

stage_again : (stage : StageName) → stage_of (stage_code stage) ≡ Some stage
stage_again Waiting = refl
stage_again Failed = refl
stage_again Done = refl

stage_there : (n : ℕ) (stage : StageName) → stage_of n ≡ Some stage → stage_code stage ≡ n
stage_there n stage =
    either_way (n == 0) _ _ stage (one_code stage_code n 0 Waiting stage refl)
    (either_way (n == 1) _ _ stage (one_code stage_code n 1 Failed stage refl)
    (either_way (n == 2) _ _ stage (one_code stage_code n 2 Done stage refl) (λ none. absurd (cc none))))

pub stage_sound : IsSound stage_field
stage_sound = coded_sound stage_code stage_of stage_small stage_again stage_there

digest_there : (side : Unit {0} ⊎ List ℕ) → digest_side (some_digest side) ≡ side
digest_there (inl none) = refl
digest_there (inr digest) = refl

digest_again : (digest : Option (List ℕ)) → some_digest (digest_side digest) ≡ digest
digest_again None = refl
digest_again (Some digest) = refl

pub optional_sound : IsSound optional_field
optional_sound =
    seen_sound some_digest digest_side _ digest_there digest_again (either_sound nothing digest_field nothing_sound digest_sound)

pub retrieval_sound : IsSound retrieval_field
retrieval_sound =
    pair_sound _ _ number_is_sound (pair_sound _ _ number_is_sound (pair_sound _ _ digest_sound
    (pair_sound _ _ number_is_sound (pair_sound _ _ number_is_sound optional_sound))))

work_there : (side : Retrieval ⊎ Bool) → work_side (work_of side) ≡ side
work_there (inl fields) = refl
work_there (inr csv) = refl

work_again : (work : Work) → work_of (work_side work) ≡ work
work_again (Archive archive size tree first end range) = refl
work_again (Inventory csv) = refl

pub work_sound : IsSound work_field
work_sound = seen_sound work_of work_side _ work_there work_again (either_sound retrieval_field flag_field retrieval_sound flag_sound)
