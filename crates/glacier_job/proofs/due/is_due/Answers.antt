use Rattle.std.proofs.Common.{◌∙◌}
use Rattle.glacier_job.proofs.DueLemmas.{has_come-account}
use Rattle.glacier_job.proofs.due.is_due.Goals as goal

pub returns : goal.returns
returns c = c.has_come.ensures ∙ has_come-account c.args.m c.args.state.now c.requires.lawful
