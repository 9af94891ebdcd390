-- How many bytes a codec spells: for each way to make one, and for each field of a record.
use Rattle.std.proofs.Common.{◌≡◌, ℕ, suc, ◌+◌, ◌*◌, Bool, List, [], ◌∷◌, length, flat_map, Option, Some, None, refl, ap, ◌∙◌, arith}
use Rattle.std.specs.Prelude.{sum_by}
use Rattle.std.specs.Int.{Width, w8, w16, w32, w64, byte_len, to_be_bytes}
use Rattle.std.specs.List.{AllByRecursion}
use Rattle.std.proofs.lemmas.List.{length-append}
use Rattle.std.proofs.lemmas.List.Concat.{flat_map-cons}
use Rattle.std.proofs.lemmas.List.Sums.{sum_by-cons}
use Rattle.glacier_extents.specs.declared.run.Run.{Run}
use Rattle.glacier_vault.specs.Lengths.{range_length, work_length}
use Rattle.glacier_vault.specs.declared.job.Work.{Work}
use Rattle.glacier_vault.specs.declared.job.Work.TheVariants.{Archive, Inventory}
use Rattle.glacier_records.specs.declared.kept.Blob.{Blob}
use Rattle.glacier_records.specs.declared.kept.StageName.{StageName}
use Rattle.glacier_records.specs.Codec.{Codec, exactly, number, counted, such_that, coded, seen, many, ◌⊗◌}
use Rattle.glacier_records.specs.Fields.{account_field, moment_field, name_field, text_field, description_field, number_field, index_field, digest_field, leaves_field, run_field, runs_field, blob_field, blobs_field, flag_field, tier_field, stage_field, optional_field, retrieval_field, work_field}
use Rattle.glacier_records.specs.KeptLengths.{runs_of_blobs}
use Rattle.glacier_records.proofs.CodecLemmas.{IsWide, wide8, wide16, wide32, wide64}

-- the spelling of a value that fits has so many bytes
pub record IsLong {X : Type 0} (c : Codec X) (size : X → ℕ) : Type 0 where
  pub is : (x : X) → c.Fits x → length (c.spell x) ≡ size x

number_of : (w : Width) → IsWide w → IsLong (number w) (λ n. byte_len w)
number_of w wide = record { is = λ n fits. wide.len n }

exactly_long : (count : ℕ) → IsLong (exactly count) (λ bytes. count)
exactly_long count = record { is = λ bytes fits. fits }

counted_long : (w : Width) → IsWide w → IsLong (counted w) (λ bytes. byte_len w + length bytes)
counted_long w wide = record { is = λ bytes fits. length-append (to_be_bytes w (length bytes)) bytes ∙ ap (λ n. n + length bytes) (wide.len (length bytes)) }

such_long : {X : Type 0} {size : X → ℕ} (test : X → Bool) (c : Codec X) → IsLong c size → IsLong (such_that test c) size
such_long test c long = record { is = λ x fits. long.is x fits.0 }

coded_long : {X : Type 0} (code : X → ℕ) (decode : ℕ → Option X) → IsLong (coded code decode) (λ x. 1)
coded_long code decode = record { is = λ x fits. wide8.len (code x) }

pub pair_long : {X Y : Type 0} {s : X → ℕ} {t : Y → ℕ} (first : Codec X) (second : Codec Y) → IsLong first s → IsLong second t → IsLong (first ⊗ second) (λ both. s both.0 + t both.1)
pair_long first second one other = record { is = λ both fits. omega (arith, length-append (first.spell both.0) (second.spell both.1), one.is both.0 fits.0, other.is both.1 fits.1) }

-- the spellings of values, one behind the other
pieces : {X : Type 0} (c : Codec X) (size : X → ℕ) → IsLong c size → (xs : List X) → AllByRecursion c.Fits xs → length (flat_map c.spell xs) ≡ sum_by size xs
pieces c size long [] fits = refl
pieces c size long (x ∷ xs) fits =
    let goal : length (flat_map c.spell (x ∷ xs)) ≡ sum_by size (x ∷ xs) =
    omega (arith, ap length (flat_map-cons c.spell x xs), length-append (c.spell x) (flat_map c.spell xs), long.is x fits.0, pieces c size long xs fits.1, sum_by-cons size x xs) in
    goal

many_long : {X : Type 0} {size : X → ℕ} (w : Width) (c : Codec X) → IsWide w → IsLong c size → IsLong (many w c) (λ xs. byte_len w + sum_by size xs)
many_long {size = size} w c wide long = record { is = λ xs fits. omega (arith, length-append (to_be_bytes w (length xs)) (flat_map c.spell xs), wide.len (length xs), pieces c size long xs fits.1) }

pub account_long : IsLong account_field (λ account. 12)
account_long = such_long _ _ (exactly_long 12)

pub moment_long : IsLong moment_field (λ moment. 8)
moment_long = such_long _ _ (number_of w64 wide64)

pub name_long : IsLong name_field (λ name. 1 + length name)
name_long = such_long _ _ (counted_long w8 wide8)

pub text_long : IsLong text_field (λ text. 2 + length text)
text_long = counted_long w16 wide16

pub description_long : IsLong description_field (λ text. 2 + length text)
description_long = such_long _ _ (counted_long w16 wide16)

pub number_long : IsLong number_field (λ n. 8)
number_long = number_of w64 wide64

pub index_long : IsLong index_field (λ n. 4)
index_long = number_of w32 wide32

pub digest_long : IsLong digest_field (λ digest. 32)
digest_long = exactly_long 32

pub flag_long : IsLong flag_field (λ flag. 1)
flag_long = coded_long _ _

pub tier_long : IsLong tier_field (λ tier. 1)
tier_long = coded_long _ _

pub stage_long : IsLong stage_field (λ stage. 1)
stage_long = coded_long _ _

each_32 : {X : Type 0} (xs : List X) → sum_by (λ x. 32) xs ≡ 32 * length xs
each_32 [] = refl
each_32 {X = X} (x ∷ xs) = let goal : sum_by (λ x. 32) (x ∷ xs) ≡ 32 * length (x ∷ xs) = omega (arith, each_32 xs, sum_by-cons {X = X} (λ x. 32) x xs) in goal

each_8 : {X : Type 0} (xs : List X) → sum_by (λ x. 8) xs ≡ 8 * length xs
each_8 [] = refl
each_8 {X = X} (x ∷ xs) = let goal : sum_by (λ x. 8) (x ∷ xs) ≡ 8 * length (x ∷ xs) = omega (arith, each_8 xs, sum_by-cons {X = X} (λ x. 8) x xs) in goal

-- a blob's number, and its runs behind their count
abbrev blob_size : Blob → ℕ
blob_size blob = 8 + (4 + 8 * length blob.runs)

each_blob : (blobs : List Blob) → sum_by blob_size blobs ≡ 12 * length blobs + 8 * runs_of_blobs blobs
each_blob [] = refl
each_blob (x ∷ xs) =
    let goal : sum_by blob_size (x ∷ xs) ≡ 12 * length (x ∷ xs) + 8 * runs_of_blobs (x ∷ xs) =
    omega (arith, each_blob xs, sum_by-cons blob_size x xs, sum_by-cons {X = Blob} (λ blob. length blob.runs) x xs) in
    goal

pub leaves_long : IsLong leaves_field (λ leaves. 4 + 32 * length leaves)
leaves_long = record { is = λ leaves fits. (many_long w32 digest_field wide32 digest_long).is leaves fits ∙ ap (λ n. 4 + n) (each_32 leaves) }

run_long : IsLong run_field (λ run. 8)
run_long = record { is = λ run fits. (pair_long index_field index_field index_long index_long).is (run.first, run.count) fits.0 }

pub runs_long : IsLong runs_field (λ runs. 4 + 8 * length runs)
runs_long = record { is = λ runs fits. (many_long w32 run_field wide32 run_long).is runs fits ∙ ap (λ n. 4 + n) (each_8 runs) }

blob_long : IsLong blob_field blob_size
blob_long = record { is = λ blob fits. (pair_long number_field runs_field number_long runs_long).is (blob.number, blob.runs) fits }

pub blobs_long : IsLong blobs_field (λ blobs. 4 + (12 * length blobs + 8 * runs_of_blobs blobs))
blobs_long = record { is = λ blobs fits. (many_long w32 blob_field wide32 blob_long).is blobs fits ∙ ap (λ n. 4 + n) (each_blob blobs) }

optional_long : IsLong optional_field (λ digest. 1 + range_length digest)
optional_long = record { is = at }
  where
    at : (digest : Option (List ℕ)) → optional_field.Fits digest → length (optional_field.spell digest) ≡ 1 + range_length digest
    at None fits = refl
    at (Some digest) fits = ap (λ n. suc n) fits

-- a retrieval behind the byte of its kind
behind_tag : (bytes : List ℕ) (range : ℕ) → length bytes ≡ 8 + (8 + (32 + (8 + (8 + (1 + range))))) → length (0 ∷ bytes) ≡ 66 + range
behind_tag bytes range is = omega (arith, is)

pub work_long : IsLong work_field work_length
work_long = record { is = at }
  where
    at : (work : Work) → work_field.Fits work → length (work_field.spell work) ≡ work_length work
    at (Archive archive size tree first end range) fits =
        behind_tag (retrieval_field.spell (archive, (size, (tree, (first, (end, range)))))) (range_length range)
        ((pair_long _ _ number_long (pair_long _ _ number_long (pair_long _ _ digest_long (pair_long _ _ number_long (pair_long _ _ number_long optional_long))))).is (archive, (size, (tree, (first, (end, range))))) fits)
    at (Inventory csv) fits = refl
