-- The text that is sent for a message: a reply whose body is at hand, or a head with the bytes of an output behind it.
use Rattle.std.specs.Prelude.{ℕ, ◌-◌, Bool, List, ◌++◌, length, Option, Some, None}
use Rattle.glacier_http.specs.declared.reply.Reply.{Reply}
use Rattle.glacier_http.specs.Printed.{head_text, printed}
use Rattle.glacier_machine.specs.Outcomes.{Outcome, outcome_events}
use Rattle.glacier_machine.specs.declared.action.Output.{Output}
use Rattle.glacier_machine.specs.declared.action.Stretch.{Stretch}
use Rattle.glacier_replay.specs.Changes.{State, after_all}
use Rattle.glacier_store.specs.Outputs.{stretch_bytes}
use Rattle.glacier_server.specs.declared.answered.Answered.{Answered}

-- the text of a reply whose body is all at hand
unfoldable pub text_of_reply : Reply → ℕ → Bool → List ℕ
text_of_reply reply date close = printed reply (length reply.body) date close

-- how many bytes the head of an output promises
abbrev pub promised : Stretch → ℕ
promised stretch = stretch.end - stretch.first

-- the head of an output, at a moment, which says whether the connection closes
unfoldable pub head_of_output : Stretch → Reply → ℕ → Bool → List ℕ
head_of_output stretch reply date close = head_text reply (promised stretch) date close

-- the text of an output: its head, and the bytes of its stretch
abbrev pub text_of_output : State → Output → Reply → ℕ → Bool → List ℕ
text_of_output state output reply date close =
    head_of_output output.stretch reply date close ++ stretch_bytes state output.account output.stretch

-- the text of a reply in this state, which may have its body in an output
abbrev pub text_with : State → Option Output → Reply → ℕ → Bool → List ℕ
text_with state None reply date close = text_of_reply reply date close
text_with state (Some output) reply date close = text_of_output state output reply date close

abbrev pub text_of_answer : State → Answered → ℕ → Bool → List ℕ
text_of_answer state answered date close = text_with state answered.output answered.reply date close

-- the text of an outcome of a message that came in this state
abbrev pub text_of_outcome : State → Outcome → ℕ → Bool → List ℕ
text_of_outcome state outcome date close =
    text_with (after_all state (outcome_events outcome)) outcome.output outcome.reply date close

-- what an outcome answers
abbrev pub answered_of : Outcome → Answered
answered_of outcome = record { reply = outcome.reply; output = outcome.output }
