-- Messages whose bodies stream into the store are decided at their heads.
use Rattle.std.proofs.Common.{◌≡◌, ℕ, true, List, [], ◌∷◌, length, Ok, Err, refl, ap, ◌∙◌}
use Rattle.std.proofs.lemmas.Bool.{and_parts}
use Rattle.httparse.specs.Grammar.{RequestHead}
use Rattle.glacier_http.specs.Messages.{good}
use Rattle.glacier_http.specs.View.{HeadText, text_of}
use Rattle.glacier_requests.specs.Routes.{route_of}
use Rattle.glacier_sigv4.specs.Verdict.{Verdict}
use Rattle.glacier_vault.specs.Accounts.{Accounts}
use Rattle.glacier_machine.specs.Asks.{routes_body, some_value, is_bulk_head}
use Rattle.glacier_machine.specs.ContentHash.{named_hashes, need_refusal}
use Rattle.glacier_machine.specs.Outcomes.{request_outcome, one}
use Rattle.glacier_machine.specs.SignedRequests.{signer_of, verified_request, needed_request, request_with, request_in}
use Rattle.glacier_machine.specs.declared.config.Config.{Config}
use Rattle.glacier_machine.proofs.RequestLemmas.{same_signer, streamed_request}

-- what is asked for depends on the length of the body alone
pub bulk_request : (config : Config) (head : HeadText) (a b : List ℕ) (reading : ℕ) → is_bulk_head head ≡ true
    → length a ≡ length b → request_in config head a reading ≡ request_in config head b reading
bulk_request config head a b reading bulk same =
    streamed_request config head (length a) a b reading bulk
    ∙ ap (λ n. request_with config head n b reading) same

module _ (config : Config) (accounts : Accounts) (head : HeadText) (a b : List ℕ) (reading : ℕ) where
  -- time passes by whose message it is
  by_verdict : (verdict : Verdict)
      → (request_outcome config accounts (verified_request verdict head (length a) a) a reading).passed
      ≡ (request_outcome config accounts (verified_request verdict head (length b) b) b reading).passed
  by_verdict (Ok signer) = refl
  by_verdict (Err fault) = refl

  by_hashes : (values : List (List ℕ)) → named_hashes head ≡ values → some_value values ≡ true
      → (request_outcome config accounts (needed_request (need_refusal values (length a)) (signer_of config head a reading) head (length a) a) a reading).passed
      ≡ (request_outcome config accounts (needed_request (need_refusal values (length b)) (signer_of config head b reading) head (length b) b) b reading).passed
  by_hashes [] named some = cc
  by_hashes (value ∷ more) named some =
      by_verdict (signer_of config head a reading)
      ∙ ap (λ v. (request_outcome config accounts (verified_request v head (length b) b) b reading).passed)
      (same_signer config head a b reading value more named)

-- what time does for a message depends on its head alone
pub bulk_head_passed : (config : Config) (accounts : Accounts) (head : HeadText) (a b : List ℕ) (reading : ℕ) → is_bulk_head head ≡ true
    → (request_outcome config accounts (request_in config head a reading) a reading).passed
    ≡ (request_outcome config accounts (request_in config head b reading) b reading).passed
bulk_head_passed config accounts head a b reading bulk =
    let parts = and_parts (routes_body (route_of head)) (some_value (named_hashes head)) bulk in
    by_hashes config accounts head a b reading (named_hashes head) refl parts.1

pub bulk_passed : (config : Config) (accounts : Accounts) (head : RequestHead) (body : List ℕ) (reading : ℕ)
    → is_bulk_head (text_of head) ≡ true
    → (one config accounts (good head body) reading).passed ≡ (one config accounts (good head []) reading).passed
bulk_passed config accounts head body reading bulk = bulk_head_passed config accounts (text_of head) body [] reading bulk
