use Rattle.std.proofs.Common.{◌∙◌, ap, sym, arith}
use Rattle.std.proofs.lemmas.Grind.{common_steps}
use Rattle.glacier_vault.specs.Named.{with_name, named_in}
use Rattle.glacier_vault.proofs.NamingLemmas.{named_in-insert}
use Rattle.glacier_restore.proofs.MomentLemmas.{content_due-job}
use Rattle.glacier_restore.proofs.putting_jobs.insert_job.Goals as goal

pub content_due-vault-requires : goal.content_due-vault-requires
content_due-vault-requires c =
    c.in_ok-add_name.ensures.ok
    ∙ ap (with_name c.args.job) c.requires.kept.1
    ∙ sym (named_in-insert c.args.vault.now.jobs c.args.number c.args.job c.requires.missing)
    ∙ ap named_in (sym c.in_ok-insert.ensures.ok)

pub returns-then-names_loose : goal.returns-then-names_loose
returns-then-names_loose c =
    let named = ap (with_name c.args.job) c.requires.kept.1 ∙ sym (named_in-insert c.args.vault.now.jobs c.args.number c.args.job c.requires.missing) in
    grind (arith, common_steps)

pub returns : goal.returns
returns c =
    let named = ap (with_name c.args.job) c.requires.kept.1 ∙ sym (named_in-insert c.args.vault.now.jobs c.args.number c.args.job c.requires.missing) in
    let due = content_due-job c.args.vault.now c.args.number c.args.job c.requires.missing c.requires.kept.1 (sym c.if-names_loose.ensures) c.requires.kept.0 in
    grind (arith, common_steps)
