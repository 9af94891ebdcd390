-- What one message brings about, at a reading of the clock.
use Rattle.std.specs.Prelude.{ℕ, List, [], ◌∷◌, ◌++◌, Option, Some, None, option_map, Result, Ok, Err, max}
use Rattle.glacier_http.specs.declared.reply.Reply.{Reply}
use Rattle.glacier_http.specs.Messages.{Message, good, bad}
use Rattle.glacier_http.specs.View.{text_of}
use Rattle.glacier_sigv4.specs.Rings.{quota_at}
use Rattle.glacier_vault.specs.declared.event.Event.{Event}
use Rattle.glacier_vault.specs.declared.refusal.Refusal.{Refusal}
use Rattle.glacier_vault.specs.declared.rules.Rules.{Rules}
use Rattle.glacier_vault.specs.declared.state.AccountState.{AccountState}
use Rattle.glacier_vault.specs.Accounts.{Accounts, account_in, AccountEvent}
use Rattle.glacier_machine.specs.declared.action.Request.{Request}
use Rattle.glacier_machine.specs.declared.config.Config.{Config}
use Rattle.glacier_machine.specs.AccountSteps.{asked_step}
use Rattle.glacier_machine.specs.Moments.{after_moment, moment_change}
use Rattle.glacier_machine.specs.Steps.{Step}
use Rattle.glacier_machine.specs.declared.action.Output.{Output}
use Rattle.glacier_replies.specs.Refusals.{head_refusal}
use Rattle.glacier_replies.specs.Replies.{refused}
use Rattle.glacier_machine.specs.SignedRequests.{request_in}

-- what a message brings about
pub record Outcome : Type 0 where
  pub reply : Reply
  -- the output whose bytes are the reply's body: where there is none, the reply has its body itself
  pub output : Option Output
  -- the events of the time that passes for its account
  pub passed : List AccountEvent
  -- the events of what is asked for, behind them
  pub done : List AccountEvent

-- all its events, in order
abbrev pub outcome_events : Outcome → List AccountEvent
outcome_events outcome = outcome.passed ++ outcome.done

-- the outcome of a message that makes no request: it has no event
abbrev pub refusal_outcome : Refusal → Outcome
refusal_outcome refusal = record { reply = refused refusal; output = None; passed = []; done = [] }

-- the event of a change, if it has one, with the bytes that it stores
abbrev pub events_of : List ℕ → ℕ → Option Event → List ℕ → List AccountEvent
events_of account m None body = []
events_of account m (Some event) body = record { account = account; moment = m; event = event; body = body } ∷ []

-- the outcome of a step behind the events of the time that passed
abbrev pub step_outcome : List ℕ → ℕ → List AccountEvent → Step → Outcome
step_outcome account m passed step = record {
  reply = step.answer.reply;
  output = option_map (λ stretch. record { account = account; stretch = stretch }) step.answer.stretch;
  passed = passed;
  done = events_of account m step.answer.change.event step.stored;
}

-- the moment of a message: the clock's reading, or the account's last moment where that is later
abbrev pub moment_of : AccountState → ℕ → ℕ
moment_of before reading = max before.last reading

-- the outcome of a request with this body at the moment m: time passes until then, and the step is on the account that
-- this leaves
abbrev pub outcome_at : Rules → ℕ → Request → List ℕ → AccountState → Outcome
outcome_at rules m request body before =
    step_outcome request.account m (events_of request.account m (moment_change m before).event [])
    (asked_step rules m request.asked body (after_moment m before))

-- the outcome of a request with this body where the account's state is this
abbrev pub action_outcome : Rules → AccountState → Request → List ℕ → ℕ → Outcome
action_outcome rules before request body reading = outcome_at rules (moment_of before reading) request body before

-- what holds for the requests of an account
abbrev pub rules_of : Config → List ℕ → Rules
rules_of config account = record {
  region = config.region;
  account = account;
  quota = quota_at config.ring account;
  delays = config.delays;
}

-- the outcome of a message with a good head and this body
abbrev pub request_outcome : Config → Accounts → Result Request Refusal → List ℕ → ℕ → Outcome
request_outcome config accounts (Ok request) body reading =
    action_outcome (rules_of config request.account) (account_in accounts request.account) request body reading
request_outcome config accounts (Err refusal) body reading = refusal_outcome refusal

-- the outcome of one message, at a reading of the clock
abbrev pub one : Config → Accounts → Message → ℕ → Outcome
one config accounts (good head body) reading =
    request_outcome config accounts (request_in config (text_of head) body reading) body reading
one config accounts (bad cause) reading = refusal_outcome (head_refusal cause)
