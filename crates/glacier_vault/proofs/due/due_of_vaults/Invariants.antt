use Rattle.std.proofs.Common.{◌≡◌}
use Rattle.glacier_vault.specs.Due.{sooner, soonest, vault_due, due_in}
use Rattle.glacier_vault.proofs.due.due_of_vaults.Given as goal

abbrev pub invariant-loop-vault : goal.invariant-loop-vault
invariant-loop-vault l = sooner l.due (soonest vault_due l.vault-iterator) ≡ due_in l.vaults
