-- What the steps of rows leave: by a refusal nothing is changed, and an event is its row's.
use Rattle.std.specs.Prelude.{◌≡◌, Option, Some, None, Ok, Err, IfSome}
use Rattle.std.proofs.Common.{refl}
use Rattle.glacier_http.specs.declared.reply.Reply.{Reply}
use Rattle.glacier_vault.specs.Rows.{Row}
use Rattle.glacier_vault.specs.declared.event.Change.{Change}
use Rattle.glacier_vault.specs.declared.state.AccountState.{AccountState}
use Rattle.glacier_machine.specs.Steps.{by_row}

if_some_of : {X P : Type 0} (r : Option X) → P → IfSome r (λ _. P)
if_some_of None p = tt
if_some_of (Some x) p = p

-- a step of a row that has an event does what the row does
pub event_is_of_row : (before : AccountState) (row : Row Change) (reply : Reply)
    → IfSome (by_row before row reply).answer.change.event
    (λ event. row ≡ Ok ((by_row before row reply).state, (by_row before row reply).answer.change))
event_is_of_row before (Ok done) reply = if_some_of done.1.event refl
event_is_of_row before (Err refusal) reply = tt
