use Rattle.std.proofs.Common.{[], Ok, sym, subst}
use Rattle.std.specs.Prelude.{Result}
use Rattle.glacier_machine.specs.Outcomes.{request_outcome}
use Rattle.glacier_machine.specs.declared.action.Request.{Request}
use Rattle.glacier_vault.specs.declared.refusal.Refusal.{Refusal}
use Rattle.glacier_server.specs.Events.{KeepsOutcome}
use Rattle.glacier_server.proofs.KeptLemmas.{no_events, no_memory}
use Rattle.glacier_server.proofs.service.Service.reply_to_read.Goals as goal

pub returns-in-Ok-reply_to_refused-clause-keeps : goal.returns-in-Ok-reply_to_refused-clause-keeps
returns-in-Ok-reply_to_refused-clause-keeps g c t =
    subst (λ (q : Result Request Refusal). KeepsOutcome (g.D.Disk.told c.args.disk.now) (g.D.Disk.told c.args.disk.now) c.args.store
    (request_outcome c.args.self.now.config.now c.args.store.accounts q [] c.args.reading)
    (Ok (c.only_reply.result, c.args.store))) (sym c.in-Err.is)
    (no_events (g.met.D.Disk.lawful t c.args.disk.now) c.args.store c.only_reply.result)

pub returns-in-Err-reply_to_refused-clause-keeps : goal.returns-in-Err-reply_to_refused-clause-keeps
returns-in-Err-reply_to_refused-clause-keeps g c t = no_memory (g.met.D.Disk.lawful t c.args.disk.now) c.args.store _ _
