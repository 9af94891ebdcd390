-- One step of an account: what is answered, the state after it, and the bytes that its event stores.
use Rattle.std.specs.Prelude.{ℕ, List, [], Option, Some, None, Result, Ok, Err}
use Rattle.glacier_http.specs.declared.reply.Reply.{Reply}
use Rattle.glacier_replies.specs.Replies.{refused}
use Rattle.glacier_vault.specs.Rows.{Row, no_change}
use Rattle.glacier_vault.specs.declared.event.Change.{Change}
use Rattle.glacier_vault.specs.declared.event.Event.{Event}
use Rattle.glacier_vault.specs.declared.refusal.Refusal.{Refusal}
use Rattle.glacier_vault.specs.declared.state.AccountState.{AccountState}
use Rattle.glacier_machine.specs.declared.action.Answer.{Answer}

-- what is answered, and the state after it
pub record Step : Type 0 where
  pub answer : Answer
  pub state : AccountState
  -- the bytes that come with its event: none where it stores none
  pub stored : List ℕ

-- nothing changes
abbrev pub only_replies : AccountState → Reply → Step
only_replies before reply = record {
  answer = record { reply = reply; stretch = None; change = no_change };
  state = before;
  stored = [];
}

-- a row of an operation that may change the account, with the reply where it is accepted
abbrev pub by_row : AccountState → Row Change → Reply → Step
by_row before (Ok done) reply = record {
  answer = record { reply = reply; stretch = None; change = done.1 };
  state = done.0;
  stored = [];
}
by_row before (Err refusal) reply = only_replies before (refused refusal)

-- a question, with the reply to what it finds
abbrev pub by_look : {X : Type 0} → AccountState → Result X Refusal → (X → Reply) → Step
by_look before (Ok x) reply = only_replies before (reply x)
by_look before (Err refusal) reply = only_replies before (refused refusal)

-- the bytes, where there is an event to come with
abbrev pub with_event : List ℕ → Option Event → List ℕ
with_event body None = []
with_event body (Some event) = body

-- the same step, whose event stores these bytes
abbrev pub storing : List ℕ → Step → Step
storing body step = record {
  answer = step.answer;
  state = step.state;
  stored = with_event body step.answer.change.event;
}
