use Rattle.std.proofs.Common.{◌≡◌, ℕ, length, sym, ◌∙◌, ap, subst, arith}
use Rattle.std.specs.Int.{div_ceil}
use Rattle.glacier_bodies.specs.Bodies.{body_runs}
use Rattle.glacier_extents.specs.Places.{block_size}
use Rattle.glacier_http.specs.declared.reply.Reply.{Reply}
use Rattle.glacier_machine.specs.declared.action.Answer.{Answer}
use Rattle.glacier_machine.specs.declared.action.Action.TheVariants as action
use Rattle.glacier_store.specs.Endings.{room_with}
use Rattle.glacier_store.specs.Steps.{action_events}
use Rattle.glacier_store.proofs.UploadLemmas.{admitted_parts}
use Rattle.glacier_vault.specs.Accounts.{account_in}
use Rattle.glacier_server.specs.Machine.{IsPrintableIn}
use Rattle.glacier_server.proofs.EndUploadLemmas.{call_fault, ended, ended_broken}
use Rattle.glacier_server.proofs.UploadReplies.{upload_printable}
use Rattle.glacier_server.proofs.upload.end_upload.Goals as goal

pub returns-in-Ok-clause-reply : goal.returns-in-Ok-clause-reply
returns-in-Ok-clause-reply g c message taken = ap (λ (a : Answer). a.reply) (c.in-Ok.ensures.ended message taken).answer

pub returns-in-Ok-clause-printable : goal.returns-in-Ok-clause-printable
returns-in-Ok-clause-printable g c =
    let some = c.requires.some in
    subst (λ (r : Reply). IsPrintableIn 1024 r) (sym (ap (λ (a : Answer). a.reply) (c.in-Ok.ensures.ended some.0 some.1).answer))
    (upload_printable c.args.rules.now c.args.m c.args.ask.now some.0 (account_in c.args.store.accounts c.args.rules.now.account)
    c.requires.admitted c.names_are_short.ensures.account c.names_are_short.ensures.name c.names_are_short.ensures.tree)

pub returns-in-Ok-clause-ends : goal.returns-in-Ok-clause-ends
returns-in-Ok-clause-ends g c t message taken lie =
    let parts = admitted_parts c.args.rules.now.quota (account_in c.args.store.accounts c.args.rules.now.account) c.args.ask.now c.requires.admitted in
    let size : length message ≡ c.args.ask.now.size = sym taken.taken ∙ c.requires.whole.0 in
    ended c.args.store c.args.rules.now c.args.m c.args.ask.now (body_runs c.args.body) message (omega (arith, size, parts.1))
    (c.requires.whole.1 ∙ ap (λ (n : ℕ). div_ceil n block_size) (sym size)) c.in-Ok.store c.in-Ok.answer
    (c.in-Ok.ensures.ended message taken) (c.in-Ok.ensures.ends t message taken lie) (c.in-Ok.ensures.grows message taken)

pub fault_of-requires : goal.fault_of-requires
fault_of-requires g c =
    let some = c.requires.some in
    call_fault c.args.store.journal
    (room_with (body_runs c.args.body) (action_events c.args.rules.now c.args.m (action.Upload c.args.ask.now) some.0 c.args.store.accounts))
    c.in-Err.fault (c.in-Err.ensures.grows some.0 some.1)

pub returns-in-Err-clause-ends : goal.returns-in-Err-clause-ends
returns-in-Err-clause-ends g c t message taken lie =
    let parts = admitted_parts c.args.rules.now.quota (account_in c.args.store.accounts c.args.rules.now.account) c.args.ask.now c.requires.admitted in
    let size : length message ≡ c.args.ask.now.size = sym taken.taken ∙ c.requires.whole.0 in
    ended_broken c.args.store c.args.rules.now c.args.m c.args.ask.now (body_runs c.args.body) message (omega (arith, size, parts.1))
    (c.requires.whole.1 ∙ ap (λ (n : ℕ). div_ceil n block_size) (sym size)) c.in-Err.fault c.fault_of.result c.fault_of.ensures
    (c.in-Err.ensures.ends t message taken lie) (c.in-Err.ensures.grows message taken)
