-- Records that are written out.
use Rattle.std.proofs.Common.{◌≡◌, [], ◌∷◌, refl, codes}
use Rattle.glacier_vault.specs.declared.event.Event.TheVariants.{Pass, CreateVault, DeleteVault, Complete}
use Rattle.glacier_records.specs.declared.kept.Kept.TheVariants.{Account}
use Rattle.glacier_records.specs.declared.records.Item.TheVariants as item
use Rattle.glacier_records.specs.EventFields.{plain}
use Rattle.glacier_records.specs.Spells.{spelling}

vault_made : spelling (record { account = codes "123456789012"; moment = 1; item = plain (CreateVault (codes "v")) }) ≡ 2 ∷ 49 ∷ 50 ∷ 51 ∷ 52 ∷ 53 ∷ 54 ∷ 55 ∷ 56 ∷ 57 ∷ 48 ∷ 49 ∷ 50 ∷ 0 ∷ 0 ∷ 0 ∷ 0 ∷ 0 ∷ 0 ∷ 0 ∷ 1 ∷ 1 ∷ 118 ∷ []
vault_made = refl

vault_gone : spelling (record { account = codes "123456789012"; moment = 257; item = plain (DeleteVault (codes "v")) }) ≡ 3 ∷ 49 ∷ 50 ∷ 51 ∷ 52 ∷ 53 ∷ 54 ∷ 55 ∷ 56 ∷ 57 ∷ 48 ∷ 49 ∷ 50 ∷ 0 ∷ 0 ∷ 0 ∷ 0 ∷ 0 ∷ 0 ∷ 1 ∷ 1 ∷ 1 ∷ 118 ∷ []
vault_gone = refl

time_passed : spelling (record { account = codes "123456789012"; moment = 1; item = plain Pass }) ≡ 1 ∷ 49 ∷ 50 ∷ 51 ∷ 52 ∷ 53 ∷ 54 ∷ 55 ∷ 56 ∷ 57 ∷ 48 ∷ 49 ∷ 50 ∷ 0 ∷ 0 ∷ 0 ∷ 0 ∷ 0 ∷ 0 ∷ 0 ∷ 1 ∷ []
time_passed = refl

-- a kind, the account, a moment, and eight bytes of a number
account_kept : spelling (record { account = codes "123456789012"; moment = 1; item = item.Kept (Account 258) }) ≡ 32 ∷ 49 ∷ 50 ∷ 51 ∷ 52 ∷ 53 ∷ 54 ∷ 55 ∷ 56 ∷ 57 ∷ 48 ∷ 49 ∷ 50 ∷ 0 ∷ 0 ∷ 0 ∷ 0 ∷ 0 ∷ 0 ∷ 0 ∷ 1 ∷ 0 ∷ 0 ∷ 0 ∷ 0 ∷ 0 ∷ 0 ∷ 1 ∷ 2 ∷ []
account_kept = refl

upload_completed : spelling (record { account = codes "123456789012"; moment = 1; item = plain (Complete (codes "v") 7) }) ≡ 8 ∷ 49 ∷ 50 ∷ 51 ∷ 52 ∷ 53 ∷ 54 ∷ 55 ∷ 56 ∷ 57 ∷ 48 ∷ 49 ∷ 50 ∷ 0 ∷ 0 ∷ 0 ∷ 0 ∷ 0 ∷ 0 ∷ 0 ∷ 1 ∷ 1 ∷ 118 ∷ 0 ∷ 0 ∷ 0 ∷ 0 ∷ 0 ∷ 0 ∷ 0 ∷ 7 ∷ []
upload_completed = refl
