-- What is kept of a body is enough for what the message asks for.
use Rattle.std.proofs.Common.{◌≡◌, ℕ, Bool, true, false, cond, List, [], ◌∷◌, length, Option, Some, None, Result, Ok, Err, refl, ap, sym, ◌∙◌}
use Rattle.std.specs.Prelude.{◌&&◌, nat_lt}
use Rattle.std.proofs.lemmas.Bool.{and_parts, ltb-false}
use Rattle.hex.specs.Hex.{encode_lower}
use Rattle.sha2.specs.Sha256.{sha256}
use Rattle.glacier_http.specs.View.{HeadText}
use Rattle.glacier_requests.specs.Routes.{route_of}
use Rattle.glacier_requests.specs.declared.routes.Op.{Op}
use Rattle.glacier_requests.specs.declared.routes.Op.TheVariants as op
use Rattle.glacier_requests.specs.declared.routes.Route.{Route}
use Rattle.glacier_requests.specs.declared.routes.RouteStep.{RouteStep}
use Rattle.glacier_requests.specs.declared.routes.RouteStep.TheVariants as found
use Rattle.glacier_sigv4.specs.Payload.{first_or, payload_of}
use Rattle.glacier_sigv4.specs.Verdict.{Verdict, verdict}
use Rattle.glacier_vault.specs.declared.refusal.Refusal.{Refusal}
use Rattle.glacier_vault.specs.declared.refusal.Refusal.TheVariants.{HashNeeded, BodyTooLong, NoRoute}
use Rattle.glacier_machine.specs.Asks.{takes_body, routes_body, some_value, is_bulk_head}
use Rattle.glacier_machine.specs.ContentHash.{named_hashes, need_refusal, content_refusal}
use Rattle.glacier_machine.specs.Requests.{first_of_two, fields_refusal, body_refusal, is_streamed, plain_refusal, is_offered, unless, action_of, routed_action}
use Rattle.glacier_machine.specs.SignedRequests.{signer_of, routed_asked, asked_by, verified_request, needed_request, request_with, request_in, IsBodyKept}
use Rattle.glacier_machine.specs.declared.action.Action.{Action}
use Rattle.glacier_machine.specs.declared.config.Config.{Config}
use Rattle.glacier_machine.specs.declared.content_hash.TheConstants.{MOST_BODY}

-- the payload text is that of the body where none is named
pub payload_unnamed : (head : HeadText) (body : List ℕ) → named_hashes head ≡ []
    → payload_of head.fields body ≡ encode_lower (sha256 body)
payload_unnamed head body none = ap (λ values. first_or values (encode_lower (sha256 body))) none

-- and else the first that is named, whatever the body is
pub payload_named : (head : HeadText) (body value : List ℕ) (more : List (List ℕ)) → named_hashes head ≡ value ∷ more
    → payload_of head.fields body ≡ value
payload_named head body value more named = ap (λ values. first_or values (encode_lower (sha256 body))) named

-- so where a hash is named, the bytes of the body don't decide who signed
pub same_signer : (config : Config) (head : HeadText) (kept whole : List ℕ) (reading : ℕ) (value : List ℕ)
    (more : List (List ℕ))
    → named_hashes head ≡ value ∷ more → signer_of config head kept reading ≡ signer_of config head whole reading
same_signer config head kept whole reading value more named =
    ap (λ payload. verdict config.ring config.region head payload reading)
    (payload_named head kept value more named ∙ sym (payload_named head whole value more named))

-- what is refused is refused whatever it asks for
unless_refused : (first : Option Refusal) (refusal : Refusal) (x y : Result Action Refusal)
    → unless (first_of_two first (Some refusal)) x ≡ unless (first_of_two first (Some refusal)) y
unless_refused None refusal x y = refl
unless_refused (Some earlier) refusal x y = refl

-- an upload asks for the same, whatever the bytes of its body are
same_upload : (o : Op) (head : HeadText) (n : ℕ) (kept whole : List ℕ) → takes_body o ≡ true
    → action_of o head n kept ≡ action_of o head n whole
same_upload (op.Upload vault) head n kept whole is = refl
same_upload _ head n kept whole is = cc

module _ (signer : List ℕ) (head : HeadText) (n : ℕ) (kept whole : List ℕ) where
  module _ (route : Route) where
    abbrev fields : Option Refusal
    fields = fields_refusal route signer head

    -- a body that is refused whatever its bytes are
    by_refusal : (refusal : Refusal) → plain_refusal route.op head n kept ≡ Some refusal
        → plain_refusal route.op head n whole ≡ Some refusal
        → routed_action route signer head n kept ≡ routed_action route signer head n whole
    by_refusal refusal k w =
        ap (λ r. unless (first_of_two fields r) (action_of route.op head n kept)) k
        ∙ unless_refused fields refusal (action_of route.op head n kept) (action_of route.op head n whole)
        ∙ sym (ap (λ r. unless (first_of_two fields r) (action_of route.op head n whole)) w)

    too_long : (body : List ℕ) → is_streamed route.op head ≡ false → nat_lt MOST_BODY n ≡ true
        → plain_refusal route.op head n body ≡ Some (BodyTooLong n)
    too_long body plain long =
        ap (λ t. cond t None (body_refusal head n body)) plain
        ∙ ap (λ t. first_of_two (cond t (Some (BodyTooLong n)) None) (content_refusal (named_hashes head) body)) long

    long_action : is_streamed route.op head ≡ false → nat_lt MOST_BODY n ≡ true
        → routed_action route signer head n kept ≡ routed_action route signer head n whole
    long_action plain long = by_refusal (BodyTooLong n) (too_long kept plain long) (too_long whole plain long)

    streamed_action : is_streamed route.op head ≡ true
        → routed_action route signer head n kept ≡ routed_action route signer head n whole
    streamed_action is =
        let parts = and_parts (takes_body route.op) (some_value (named_hashes head)) is in
        ap (λ t. unless (first_of_two fields (cond t None (body_refusal head n kept))) (action_of route.op head n kept)) is
        ∙ ap (λ a. unless (first_of_two fields None) a) (same_upload route.op head n kept whole parts.0)
        ∙ sym (ap (λ t. unless (first_of_two fields (cond t None (body_refusal head n whole))) (action_of route.op head n whole)) is)

  -- a long body that doesn't stream decides nothing by its bytes, nor does one that streams
  long_asked : (step : RouteStep) → (routes_body step && some_value (named_hashes head)) ≡ false → nat_lt MOST_BODY n ≡ true
      → routed_asked step signer head n kept ≡ routed_asked step signer head n whole
  long_asked (found.Route route) plain long =
      ap (λ r. cond (is_offered route.op) r (Err NoRoute)) (long_action route plain long)
  long_asked found.NoRoute plain long = refl
  long_asked found.BadName plain long = refl
  long_asked found.BadId plain long = refl

  pub streamed_asked : (step : RouteStep) → (routes_body step && some_value (named_hashes head)) ≡ true
      → routed_asked step signer head n kept ≡ routed_asked step signer head n whole
  streamed_asked (found.Route route) is =
      ap (λ r. cond (is_offered route.op) r (Err NoRoute)) (streamed_action route is)
  streamed_asked found.NoRoute is = refl
  streamed_asked found.BadName is = refl
  streamed_asked found.BadId is = refl

module _ (config : Config) (head : HeadText) (n : ℕ) (kept whole : List ℕ) (reading : ℕ) where
  same_verified : (verdict : Verdict)
      → ((signer : List ℕ) → asked_by signer head n kept ≡ asked_by signer head n whole)
      → verified_request verdict head n kept ≡ verified_request verdict head n whole
  same_verified (Ok signer) same = ap (λ asked. Ok (record { account = signer; asked = asked })) (same signer)
  same_verified (Err fault) same = refl

  -- where a hash is named and the bytes of the body decide nothing of what is asked for, they decide nothing
  named_request : (values : List (List ℕ)) → named_hashes head ≡ values → some_value values ≡ true
      → ((signer : List ℕ) → asked_by signer head n kept ≡ asked_by signer head n whole)
      → needed_request (need_refusal values n) (signer_of config head kept reading) head n kept
      ≡ needed_request (need_refusal values n) (signer_of config head whole reading) head n whole
  named_request [] named some same = cc
  named_request (value ∷ more) named some same =
      ap (λ v. verified_request v head n kept) (same_signer config head kept whole reading value more named)
      ∙ same_verified (signer_of config head whole reading) same

  pub streamed_request : is_bulk_head head ≡ true
      → request_with config head n kept reading ≡ request_with config head n whole reading
  streamed_request bulk =
      let parts = and_parts (routes_body (route_of head)) (some_value (named_hashes head)) bulk in
      named_request (named_hashes head) refl parts.1
      (λ signer. streamed_asked signer head n kept whole (route_of head) bulk)

  long_request : is_bulk_head head ≡ false → nat_lt MOST_BODY n ≡ true
      → request_with config head n kept reading ≡ request_with config head n whole reading
  long_request plain long = go (named_hashes head) refl
    where
      go : (values : List (List ℕ)) → named_hashes head ≡ values
          → needed_request (need_refusal values n) (signer_of config head kept reading) head n kept
          ≡ needed_request (need_refusal values n) (signer_of config head whole reading) head n whole
      go [] named =
          ap (λ t. needed_request (cond t (Some (HashNeeded n)) None) (signer_of config head kept reading) head n kept) long
          ∙ sym (ap (λ t. needed_request (cond t (Some (HashNeeded n)) None) (signer_of config head whole reading) head n whole) long)
      go (value ∷ more) named =
          named_request (value ∷ more) named refl
          (λ signer. long_asked signer head n kept whole (route_of head) plain long)

-- so what is kept of a body is enough, and nothing of one that streams need be there
pub kept_is_enough : (config : Config) (head : HeadText) (n : ℕ) (kept whole : List ℕ) (reading : ℕ)
    → length whole ≡ n → (is_bulk_head head ≡ false → IsBodyKept kept whole)
    → request_with config head n kept reading ≡ request_in config head whole reading
kept_is_enough config head n kept whole reading is kept_is =
    ap (λ k. request_with config head k kept reading) (sym is) ∙ by_bulk (is_bulk_head head) refl
  where
    by_length : is_bulk_head head ≡ false → (t : Bool) → nat_lt MOST_BODY (length whole) ≡ t
        → request_with config head (length whole) kept reading ≡ request_with config head (length whole) whole reading
    by_length plain true long = long_request config head (length whole) kept whole reading plain long
    by_length plain false short = ap (λ body. request_with config head (length whole) body reading)
        (kept_is plain (ltb-false MOST_BODY (length whole) short))

    by_bulk : (t : Bool) → is_bulk_head head ≡ t
        → request_with config head (length whole) kept reading ≡ request_with config head (length whole) whole reading
    by_bulk true bulk = streamed_request config head (length whole) kept whole reading bulk
    by_bulk false plain = by_length plain (nat_lt MOST_BODY (length whole)) refl
