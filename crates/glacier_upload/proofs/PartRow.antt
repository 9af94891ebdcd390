-- What the row of a part asks of its change.
use Rattle.std.specs.Prelude.{◌≡◌, ◌≤◌, ◌%◌, Bool, true, false, cond, not, ◌||◌, length, Option, Some, None, nat_eq, nat_lt}
use Rattle.std.specs.FinMap as map
use Rattle.std.proofs.Common.{sym, refl, subst, arith}
use Rattle.std.proofs.lemmas.Bool.Decides.{nat_tests}
use Rattle.glacier_vault.specs.PartSizes.{last_index}
use Rattle.glacier_vault.specs.Totals.{need}
use Rattle.glacier_vault.specs.declared.archive.Upload.{Upload}
use Rattle.glacier_vault.specs.declared.refusal.Refusal.{Refusal}
use Rattle.glacier_vault.specs.declared.refusal.Refusal.TheVariants.{NoVault, NoUpload, BadRange, PartTooMany}
use Rattle.glacier_vault.specs.declared.state.AccountState.{AccountState}
use Rattle.glacier_vault.specs.declared.state.VaultState.{VaultState}
use Rattle.glacier_upload.specs.Bodies.{room_refusal, body_refusal}
use Rattle.glacier_upload.specs.Parts.{is_misplaced, index_of, IsPartAdmitted, found_part, IsNewPart}
use Rattle.glacier_upload.specs.declared.asks.Found.{Found}
use Rattle.glacier_upload.specs.declared.asks.PartAsk.{PartAsk}
use Rattle.glacier_upload.proofs.DrawLemmas.{room_draws, drawn_left}
use Rattle.glacier_upload.proofs.OpenLemmas.{opened}
use Rattle.glacier_upload.proofs.SameText.{body_root}

module _ (a : AccountState) (ask : PartAsk) (found : Found) (some : 1 ≤ ask.size) (admitted : IsPartAdmitted a ask) (leaves : length found.leaves ≡ need ask.size) where
  -- what admits a part
  tests : (upload : Upload) (misplaced many : Bool) → is_misplaced upload ask ≡ misplaced → nat_lt last_index (index_of upload ask) ≡ many
      → cond misplaced (Some BadRange) (cond many (Some (PartTooMany (index_of upload ask))) (room_refusal admitted.0 a ask.size)) ≡ None
      → (is_misplaced upload ask ≡ false) × (nat_lt last_index (index_of upload ask) ≡ false) × (room_refusal admitted.0 a ask.size ≡ None)
  tests upload false false p q h = (p, q, h)
  tests upload true many p q h = cc
  tests upload false true p q h = cc

  -- a part in its place isn't too long
  short : (upload : Upload) → is_misplaced upload ask ≡ false → ask.size ≤ upload.part_size
  short upload e = at (not (nat_eq (ask.first % upload.part_size) 0)) (nat_lt upload.part_size ask.size) refl e
    where
      few : nat_lt upload.part_size ask.size ≡ false → ask.size ≤ upload.part_size
      few t = grind (arith, nat_tests)

      at : (b c : Bool) → nat_lt upload.part_size ask.size ≡ c → (b || c) ≡ false → ask.size ≤ upload.part_size
      at true c t h = cc
      at false true t h = cc
      at false false t h = few t

  low_index : (upload : Upload) → nat_lt last_index (index_of upload ask) ≡ false → index_of upload ask ≤ last_index
  low_index upload e = grind (arith, nat_tests)

  abbrev by_upload : Option Upload → Option Refusal
  by_upload r = elim r [
    | None ↦ Some (NoUpload ask.upload)
    | Some upload ↦ cond (is_misplaced upload ask) (Some BadRange) (cond (nat_lt last_index (index_of upload ask)) (Some (PartTooMany (index_of upload ask))) (room_refusal admitted.0 a ask.size))
  ]

  abbrev by_vault : Option VaultState → Option Refusal
  by_vault r = elim r [ None ↦ Some (NoVault ask.vault) | Some vault ↦ by_upload (map.get vault.uploads ask.upload) ]

  module _ (vault : VaultState) (there : map.get a.vaults ask.vault ≡ Some vault) (upload : Upload) (is_open : map.get vault.uploads ask.upload ≡ Some upload) where
    right : (is_misplaced upload ask ≡ false) × (nat_lt last_index (index_of upload ask) ≡ false) × (room_refusal admitted.0 a ask.size ≡ None)
    right =
        let in_there : by_upload (map.get vault.uploads ask.upload) ≡ None = subst (λ r. by_vault r ≡ None) there admitted.1 in
        let in_open : by_upload (Some upload) ≡ None = subst (λ r. by_upload r ≡ None) is_open in_there in
        tests upload (is_misplaced upload ask) (nat_lt last_index (index_of upload ask)) refl refl in_open

    pub index_low : index_of upload ask ≤ last_index
    index_low = low_index upload right.1

    pub fits_part : body_refusal ask.linear ask.tree found ≡ None → IsNewPart a ask.vault ask.upload (index_of upload ask) (found_part a.counter ask found)
    fits_part e = record {
      upload = upload;
      there = opened a ask.vault ask.upload vault upload there is_open;
      left = drawn_left a (room_draws admitted.0 a ask.size right.2);
      right = record {
        low = index_low;
        body = record { some = some; count = leaves; root = sym (body_root ask.linear ask.tree found e) };
        most = short upload right.0;
      };
      blob = refl;
    }
