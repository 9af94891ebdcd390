-- The record of an item has as many bytes as its definition says.
use Rattle.std.proofs.Common.{◌≡◌, ℕ, ◌+◌, ◌*◌, List, length, ap, arith}
use Rattle.std.proofs.lemmas.List.{length-append}
use Rattle.glacier_records.specs.declared.kept.Kept.{Kept}
use Rattle.glacier_records.specs.declared.kept.Kept.TheVariants as kept
use Rattle.glacier_records.specs.declared.records.Item.TheVariants as item
use Rattle.glacier_records.specs.KeptFields.{kept_fields, KeptFits}
use Rattle.glacier_records.specs.KeptLengths.{kept_length, run_count}
use Rattle.glacier_records.specs.Spells.{Spells, head}
use Rattle.glacier_records.proofs.LongLemmas.{pair_long, account_long, moment_long, name_long, text_long, description_long, number_long, index_long, digest_long, leaves_long, runs_long, blobs_long, flag_long, tier_long, stage_long, work_long}

-- the kind, the account and the moment stand before the fields, and 5 bytes of a frame before these
kept_long : (k : Kept) → KeptFits k → 26 + length (kept_fields k) ≡ kept_length k + 8 * run_count k
kept_long (kept.Account counter) fits = ap (λ n. 26 + n) (number_long.is counter fits)
kept_long (kept.Vault name) fits = omega (arith, name_long.is name fits)
kept_long (kept.Archive name number held size description leaves blobs) fits = omega (
  arith,
  (pair_long _ _ name_long (pair_long _ _ number_long (pair_long _ _ flag_long (pair_long _ _ number_long (pair_long _ _ description_long (pair_long _ _ leaves_long blobs_long)))))).is
      (name, (number, (held, (size, (description, (leaves, blobs)))))) fits,
)
kept_long (kept.OpenUpload name number part_size description) fits = omega (
  arith,
  (pair_long _ _ name_long (pair_long _ _ number_long (pair_long _ _ number_long description_long))).is (name, (number, (part_size, description))) fits,
)
kept_long (kept.OpenPart name upload index size blob leaves runs) fits = omega (
  arith,
  (pair_long _ _ name_long (pair_long _ _ number_long (pair_long _ _ index_long (pair_long _ _ number_long (pair_long _ _ number_long (pair_long _ _ leaves_long runs_long)))))).is
      (name, (upload, (index, (size, (blob, (leaves, runs)))))) fits,
)
kept_long (kept.Finished name upload size tree archive) fits = omega (
  arith,
  (pair_long _ _ name_long (pair_long _ _ number_long (pair_long _ _ number_long (pair_long _ _ digest_long number_long)))).is (name, (upload, (size, (tree, archive)))) fits,
)
kept_long (kept.Job name number ready tier stage description work) fits = omega (
  arith,
  (pair_long _ _ name_long (pair_long _ _ number_long (pair_long _ _ moment_long (pair_long _ _ tier_long (pair_long _ _ stage_long (pair_long _ _ description_long work_long)))))).is
      (name, (number, (ready, (tier, (stage, (description, work)))))) fits,
)
kept_long (kept.Line name job archive size created description tree) fits = omega (
  arith,
  (pair_long _ _ name_long (pair_long _ _ number_long (pair_long _ _ number_long (pair_long _ _ number_long (pair_long _ _ moment_long (pair_long _ _ description_long digest_long)))))).is
      (name, (job, (archive, (size, (created, (description, tree)))))) fits,
)
kept_long (kept.Lock name number locked policy) fits = omega (
  arith,
  (pair_long _ _ name_long (pair_long _ _ number_long (pair_long _ _ flag_long text_long))).is (name, (number, (locked, policy))) fits,
)

pub record_long : (bytes account : List ℕ) (moment : ℕ) (k : Kept) → Spells bytes (record { account = account; moment = moment; item = item.Kept k })
    → 5 + length bytes ≡ kept_length k + 8 * run_count k
record_long bytes account moment k spells = omega (
  arith,
  ap length spells.spelled,
  length-append (head.spell (account, moment)) (kept_fields k),
  (pair_long _ _ account_long moment_long).is (account, moment) spells.head_fits,
  kept_long k spells.fields_fit,
)
