use Rattle.std.proofs.Common.{◌∙◌, ap}
use Rattle.glacier_vault.specs.Due.{held_due}
use Rattle.glacier_job.proofs.PassTwice.{held_due-left}
use Rattle.glacier_job.proofs.settling.settle_vault.Goals as goal

pub due_of_content-vault-requires : goal.due_of_content-vault-requires
due_of_content-vault-requires c = ap (λ vault. held_due vault) c.in_ok-left.ensures.vault ∙ held_due-left c.args.m c.args.vault.now
