-- The events of a message are its signer's.
use Rattle.std.proofs.Common.{◌≡◌, ℕ, List, [], Option, Some, None, Result, Ok, Err, refl, ap}
use Rattle.std.specs.Prelude.{All}
use Rattle.std.proofs.lemmas.List.Elements.{All-nil, All-cons, All-append}
use Rattle.glacier_http.specs.Messages.{Message, good, bad}
use Rattle.glacier_http.specs.View.{HeadText, text_of}
use Rattle.glacier_machine.specs.ContentHash.{named_hashes, need_refusal}
use Rattle.glacier_machine.specs.Outcomes.{action_outcome, events_of, moment_of, outcome_events, request_outcome, rules_of, one}
use Rattle.glacier_machine.specs.AccountSteps.{asked_step}
use Rattle.glacier_machine.specs.Moments.{after_moment, moment_change}
use Rattle.glacier_machine.specs.SignedRequests.{signer_of, asked_by, needed_request, request_in}
use Rattle.glacier_machine.specs.Verified.{IsSignedBy}
use Rattle.glacier_machine.specs.declared.action.Request.{Request}
use Rattle.glacier_machine.specs.declared.config.Config.{Config}
use Rattle.glacier_replies.specs.Replies.{refused}
use Rattle.glacier_sigv4.specs.Verdict.{Verdict}
use Rattle.glacier_vault.specs.Accounts.{Accounts, AccountEvent, account_in}
use Rattle.glacier_vault.specs.declared.event.Event.{Event}
use Rattle.glacier_vault.specs.declared.refusal.Refusal.{Refusal}
use Rattle.glacier_vault.specs.declared.rules.Rules.{Rules}
use Rattle.glacier_vault.specs.declared.state.AccountState.{AccountState}

-- a request is its signer's
signer_is : (head : HeadText) (length : ℕ) (body : List ℕ) (request : Request) (need : Option Refusal) (verdict : Verdict)
    → needed_request need verdict head length body ≡ Ok request → verdict ≡ Ok request.account
signer_is head length body request (Some refusal) verdict is = cc
signer_is head length body request None (Ok signer) is =
    let same : record { account = signer; asked = asked_by signer head length body } ≡ request = cc in
    ap (λ (r : Request). Ok r.account) same
signer_is head length body request None (Err fault) is = cc

events_hold : (P : List ℕ → Type 0) (account : List ℕ) (m : ℕ) (event : Option Event) (body : List ℕ) → P account
    → All (λ (e : AccountEvent). P e.account) (events_of account m event body)
events_hold P account m None body holds = All-nil (λ (e : AccountEvent). P e.account)
events_hold P account m (Some event) body holds =
    All-cons (λ (e : AccountEvent). P e.account) (record { account = account; moment = m; event = event; body = body }) [] holds
    (All-nil (λ (e : AccountEvent). P e.account))

-- the events of a request are on its account
request_holds : (P : List ℕ → Type 0) (rules : Rules) (before : AccountState) (request : Request) (body : List ℕ)
    (reading : ℕ) → P request.account
    → All (λ (e : AccountEvent). P e.account) (outcome_events (action_outcome rules before request body reading))
request_holds P rules before request body reading holds =
    let m = moment_of before reading in
    let step = asked_step rules m request.asked body (after_moment m before) in
    All-append (λ (e : AccountEvent). P e.account) (events_of request.account m (moment_change m before).event [])
    (events_of request.account m step.answer.change.event step.stored)
    (events_hold P request.account m (moment_change m before).event [] holds)
    (events_hold P request.account m step.answer.change.event step.stored holds)

pub events_are_signed : (config : Config) (accounts : Accounts) (message : Message) (reading : ℕ)
    → All (λ (e : AccountEvent). IsSignedBy config message reading e.account)
    (outcome_events (one config accounts message reading))
events_are_signed config accounts (bad cause) reading = All-nil
    (λ (e : AccountEvent). IsSignedBy config (bad cause) reading e.account)
events_are_signed config accounts (good h body) reading = go (request_in config (text_of h) body reading) refl
  where
    go : (r : Result Request Refusal) → request_in config (text_of h) body reading ≡ r
        → All (λ (e : AccountEvent). IsSignedBy config (good h body) reading e.account)
        (outcome_events (request_outcome config accounts r body reading))
    go (Err refusal) is = All-nil (λ (e : AccountEvent). IsSignedBy config (good h body) reading e.account)
    go (Ok request) is =
        request_holds (IsSignedBy config (good h body) reading) (rules_of config request.account)
        (account_in accounts request.account) request body reading (record {
          head = h;
          body = body;
          message_is = refl;
          signer = signer_is (text_of h) _ body request (need_refusal (named_hashes (text_of h)) _)
              (signer_of config (text_of h) body reading) is;
        })

module _ (rules : Rules) (before : AccountState) (request : Request) (body : List ℕ) (reading : ℕ) where
  abbrev m : ℕ
  m = moment_of before reading

  -- the events of time are those of the moment
  pub time_passes : (action_outcome rules before request body reading).passed
      ≡ events_of request.account m (moment_change m before).event []
  time_passes = refl

  module _ (refusal : Refusal) (is : request.asked ≡ Err refusal) where
    -- a refused request has no event of its own
    pub refused_does_nothing : (action_outcome rules before request body reading).done ≡ []
    refused_does_nothing =
        ap (λ asked. events_of request.account m (asked_step rules m asked body (after_moment m before)).answer.change.event
        (asked_step rules m asked body (after_moment m before)).stored) is

    pub refused_gets_its_reply : (action_outcome rules before request body reading).reply ≡ refused refusal
    refused_gets_its_reply = ap (λ asked. (asked_step rules m asked body (after_moment m before)).answer.reply) is
