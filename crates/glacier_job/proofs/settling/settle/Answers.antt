use Rattle.std.proofs.Common.{sym, subst, arith}
use Rattle.std.proofs.lemmas.Grind.{common_steps}
use Rattle.glacier_vault.specs.Lawful.{IsLawful}
use Rattle.glacier_job.proofs.NotDue.{freed-not_due, pass-not_due}
use Rattle.glacier_job.proofs.PassLawful.{lawful-pass}
use Rattle.glacier_job.proofs.PassTotals.{room_within, used-pass, ended_within, jobs-pass, uploads-pass}
use Rattle.glacier_job.proofs.settling.settle.Goals as goal

pub returns-then-not-is_due-clause-change : goal.returns-then-not-is_due-clause-change
returns-then-not-is_due-clause-change c =
    let nothing = freed-not_due c.args.m c.args.state.now (sym c.if-not-is_due.ensures) in
    grind (arith, common_steps)

pub returns-then-not-is_due-clause-state : goal.returns-then-not-is_due-clause-state
returns-then-not-is_due-clause-state c = sym (pass-not_due c.args.m c.args.state.now (sym c.if-not-is_due.ensures) c.requires.lawful)

pub release_all-requires-clause-room : goal.release_all-requires-clause-room
release_all-requires-clause-room c = omega (arith, room_within c.args.state.now c.args.m c.requires.lawful)

pub release_all-requires-clause-jobs : goal.release_all-requires-clause-jobs
release_all-requires-clause-jobs c = omega (arith, ended_within c.args.state.now c.args.m c.requires.lawful)

pub overflow_sub-state : goal.overflow_sub-state
overflow_sub-state c = omega (arith, c.in_ok-released.ensures.room, room_within c.args.state.now c.args.m c.requires.lawful)

pub overflow_sub-state-2 : goal.overflow_sub-state-2
overflow_sub-state-2 c = omega (arith, c.in_ok-released.ensures.jobs, ended_within c.args.state.now c.args.m c.requires.lawful)

pub returns-clause-state : goal.returns-clause-state
returns-clause-state c =
    let used = used-pass c.args.state.now c.args.m c.requires.lawful in
    let jobs = jobs-pass c.args.state.now c.args.m c.requires.lawful in
    let uploads = uploads-pass c.args.state.now c.args.m c.requires.lawful in
    grind (arith, common_steps)

pub returns-clause-lawful : goal.returns-clause-lawful
returns-clause-lawful c = subst IsLawful (sym (returns-clause-state c)) (lawful-pass c.args.state.now c.args.m c.requires.lawful c.requires.time)
