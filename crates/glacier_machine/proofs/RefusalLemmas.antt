-- The texts of refusals are ASCII.
use Rattle.std.proofs.Common.{ℕ, Bool, true, false, cond, List, [], ◌∷◌, Option, Some, None, Result, Ok, Err, refl}
use Rattle.std.specs.Prelude.{IfSome, IfErr, IsAscii, not, bytes_eq, codes, nat_lt}
use Rattle.std.proofs.lemmas.Bool.{ltb-true}
use Rattle.sha2.specs.Sha256.{sha256}
use Rattle.glacier_base.specs.Dates.{basic_of}
use Rattle.glacier_base.specs.Digests.{digest_of}
use Rattle.glacier_http.specs.Fields.{values_of}
use Rattle.glacier_http.specs.View.{HeadText, HasNames}
use Rattle.glacier_machine.specs.ContentHash.{hash_name, named_hashes, need_refusal, digest_refusal, hash_refusal, length_refusal, mismatch, content_refusal}
use Rattle.glacier_replies.specs.Messages.{HasAsciiText}
use Rattle.glacier_machine.specs.Requests.{account_refusal, token_refusal, version_refusal, first_of_two, fields_refusal, body_refusal, is_streamed, plain_refusal, request_refusal, is_offered, unless, action_of, routed_action}
use Rattle.glacier_requests.specs.Routes.{route_of}
use Rattle.glacier_machine.specs.SignedRequests.{fault_refusal, signer_of, RefusesInAscii, routed_asked, verified_request, needed_request, request_with}
use Rattle.glacier_machine.specs.declared.config.Config.{Config}
use Rattle.glacier_machine.specs.declared.content_hash.TheConstants.{MOST_BODY}
use Rattle.glacier_requests.specs.declared.routes.Route.{Route}
use Rattle.glacier_requests.specs.declared.routes.RouteStep.{RouteStep}
use Rattle.glacier_requests.specs.declared.routes.RouteStep.TheVariants as found
use Rattle.glacier_requests.specs.declared.routes.Op.{Op}
use Rattle.glacier_machine.specs.declared.action.Action.{Action}
use Rattle.glacier_machine.proofs.AskedAscii.{action_ascii}
use Rattle.glacier_machine.proofs.HeaderLemmas.{first_is_ascii}
use Rattle.glacier_replies.proofs.NameLemmas.{ascii_by}
use Rattle.glacier_sigv4.specs.Authorization.{AuthorizationText, authorization_of, names_in}
use Rattle.glacier_sigv4.specs.Coverage.{are_present, first_unsigned}
use Rattle.glacier_sigv4.specs.Verdict.{Verdict, ClaimText, claim_from, claim_of, claim_in, is_in_scope, is_skewed, is_signed_by, unless_unsigned, judged_entry, judged_key, judged, verdict}
use Rattle.glacier_sigv4.specs.Rings.{entry_with}
use Rattle.glacier_sigv4.specs.declared.auth_fault.AuthFault.{AuthFault}
use Rattle.glacier_sigv4.specs.declared.auth_fault.AuthFault.TheVariants as fault
use Rattle.glacier_sigv4.specs.declared.ring.Entry.{Entry}
use Rattle.glacier_vault.specs.declared.refusal.Refusal.{Refusal}
use Rattle.glacier_vault.specs.declared.refusal.Refusal.TheVariants.{NoRoute, OtherAccount, BadVersion, HashNeeded, BodyTooLong, ContentMismatch}
use Rattle.glacier_base.specs.Dates.{basic_moment}

-- the name of a fault is ASCII
abbrev HasAsciiName : AuthFault → Type 0
HasAsciiName fault = HasAsciiText (fault_refusal fault)

module _ (fields : List (List ℕ × List ℕ)) where
  claim_from_ascii : (authorization : Option AuthorizationText) (moment : Option ℕ)
      → IfErr (claim_from fields authorization moment) HasAsciiName
  claim_from_ascii None moment = tt
  claim_from_ascii (Some a) None = tt
  claim_from_ascii (Some a) (Some moment) = go (are_present fields (names_in a.names))
    where
      go : (t : Bool) → IfErr {T = ClaimText}
          (cond t (Ok (record { authorization = a; moment = moment })) (Err fault.Malformed)) HasAsciiName
      go true = tt
      go false = tt

  claim_of_ascii : (values dates : List (List ℕ)) → IfErr (claim_of fields values dates) HasAsciiName
  claim_of_ascii [] dates = tt
  claim_of_ascii (a ∷ more) [] = tt
  claim_of_ascii (a ∷ []) (date ∷ []) = claim_from_ascii (authorization_of a) (basic_moment date)
  claim_of_ascii (a ∷ []) (date ∷ second ∷ dates) = tt
  claim_of_ascii (a ∷ second ∷ more) (date ∷ dates) = tt

module _ (region : List ℕ) (head : HeadText) (names : HasNames head.fields) (payload : List ℕ) (reading : ℕ) where
  entry_ascii : (claim : ClaimText) (entry : Entry)
      → IfErr (judged_entry region head payload reading claim entry) HasAsciiName
  entry_ascii claim entry =
      go (is_in_scope (basic_of claim.moment) region claim.authorization.credential)
      (first_unsigned (names_in claim.authorization.names) head.fields)
      (first_is_ascii (names_in claim.authorization.names) head.fields names)
      (is_skewed claim.moment reading) (is_signed_by entry.keys.secret region head payload claim)
    where
      go : (scope : Bool) (unsigned : Option (List ℕ)) → IfSome unsigned IsAscii → (skewed signed : Bool)
          → IfErr {T = List ℕ} (cond (not scope) (Err fault.WrongScope)
          (unless_unsigned unsigned
          (cond skewed (Err (fault.Skewed claim.moment reading))
          (cond (not signed) (Err fault.BadSignature) (Ok entry.keys.account)))))
          HasAsciiName
      go false unsigned ascii skewed signed = tt
      go true (Some header) ascii skewed signed = ascii
      go true None ascii true signed = tt
      go true None ascii false true = tt
      go true None ascii false false = tt

  verdict_ascii : (ring : List Entry) → IfErr (verdict ring region head payload reading) HasAsciiName
  verdict_ascii ring = by_claim (claim_in head)
      (claim_of_ascii head.fields (values_of (codes "authorization") head.fields)
      (values_of (codes "x-amz-date") head.fields))
    where
      by_key : (claim : ClaimText) (entry : Option Entry)
          → IfErr (judged_key region head payload reading claim entry) HasAsciiName
      by_key claim None = tt
      by_key claim (Some entry) = entry_ascii claim entry

      by_claim : (claim : Result ClaimText AuthFault) → IfErr claim HasAsciiName
          → IfErr (judged ring region head payload reading claim) HasAsciiName
      by_claim (Err fault) ascii = ascii
      by_claim (Ok claim) ascii = by_key claim (entry_with claim.authorization.credential.key ring)

hash_name_ascii : IsAscii hash_name
hash_name_ascii = ascii_by (λ b. nat_lt b 128) (λ b h. ltb-true b 128 h) hash_name refl

two_ascii : (first second : Option Refusal) → IfSome first HasAsciiText → IfSome second HasAsciiText
    → IfSome (first_of_two first second) HasAsciiText
two_ascii None second x y = y
two_ascii (Some refusal) second x y = x

hash_ascii : (values : List (List ℕ)) → IfSome (hash_refusal values) HasAsciiText
hash_ascii [] = tt
hash_ascii (value ∷ []) = go (digest_of value)
  where
    go : (digest : Option (List ℕ)) → IfSome (digest_refusal digest) HasAsciiText
    go None = hash_name_ascii
    go (Some digest) = tt
hash_ascii (value ∷ second ∷ more) = hash_name_ascii

-- a refusal without a text, if there is one
plain_ascii : (t : Bool) (refusal : Refusal) → HasAsciiText refusal → IfSome (cond t None (Some refusal)) HasAsciiText
plain_ascii true refusal ascii = tt
plain_ascii false refusal ascii = ascii

account_ascii : (signer : List ℕ) (account : Option (List ℕ)) → IfSome (account_refusal signer account) HasAsciiText
account_ascii signer None = tt
account_ascii signer (Some account) = plain_ascii (bytes_eq account signer) OtherAccount tt

token_ascii : (values : List (List ℕ)) → IfSome (token_refusal values) HasAsciiText
token_ascii [] = tt
token_ascii (value ∷ more) = tt

version_ascii : (values : List (List ℕ)) → IfSome (version_refusal values) HasAsciiText
version_ascii [] = tt
version_ascii (version ∷ []) = plain_ascii (bytes_eq version (codes "2012-06-01")) BadVersion tt
version_ascii (version ∷ second ∷ more) = tt

length_ascii : (n : ℕ) → IfSome (length_refusal n) HasAsciiText
length_ascii n = go (nat_lt MOST_BODY n)
  where
    go : (t : Bool) → IfSome (cond t (Some (BodyTooLong n)) None) HasAsciiText
    go true = tt
    go false = tt

content_ascii : (values : List (List ℕ)) (body : List ℕ) → IfSome (content_refusal values body) HasAsciiText
content_ascii [] body = tt
content_ascii (value ∷ more) body = go (digest_of value)
  where
    go : (said : Option (List ℕ)) → IfSome (mismatch (sha256 body) said) HasAsciiText
    go None = tt
    go (Some said) = plain_ascii (bytes_eq (sha256 body) said) (ContentMismatch (sha256 body) said) tt

fields_ascii : (route : Route) (signer : List ℕ) (head : HeadText)
    → IfSome (fields_refusal route signer head) HasAsciiText
fields_ascii route signer head =
    let tokens = values_of (codes "x-amz-security-token") head.fields in
    let versions = values_of (codes "x-amz-glacier-version") head.fields in
    let hash = hash_refusal (named_hashes head) in
    two_ascii (account_refusal signer route.account)
    (first_of_two (token_refusal tokens) (first_of_two (version_refusal versions) hash))
    (account_ascii signer route.account)
    (two_ascii (token_refusal tokens) (first_of_two (version_refusal versions) hash) (token_ascii tokens)
    (two_ascii (version_refusal versions) hash (version_ascii versions) (hash_ascii (named_hashes head))))

body_ascii : (head : HeadText) (n : ℕ) (body : List ℕ) → IfSome (body_refusal head n body) HasAsciiText
body_ascii head n body =
    two_ascii (length_refusal n) (content_refusal (named_hashes head) body) (length_ascii n)
    (content_ascii (named_hashes head) body)

plain_body_ascii : (o : Op) (head : HeadText) (n : ℕ) (body : List ℕ) → IfSome (plain_refusal o head n body) HasAsciiText
plain_body_ascii o head n body = go (is_streamed o head)
  where
    go : (t : Bool) → IfSome (cond t None (body_refusal head n body)) HasAsciiText
    go true = tt
    go false = body_ascii head n body

request_ascii : (route : Route) (signer : List ℕ) (head : HeadText) (n : ℕ) (body : List ℕ)
    → IfSome (request_refusal route signer head n body) HasAsciiText
request_ascii route signer head n body =
    two_ascii (fields_refusal route signer head) (plain_refusal route.op head n body) (fields_ascii route signer head)
    (plain_body_ascii route.op head n body)

routed_ascii : (step : RouteStep) (signer : List ℕ) (head : HeadText) (n : ℕ) (body : List ℕ)
    → IfErr (routed_asked step signer head n body) HasAsciiText
routed_ascii (found.Route route) signer head n body = by_offer (is_offered route.op)
  where
    by_refusal : (refusal : Option Refusal) → IfSome refusal HasAsciiText
        → IfErr (unless refusal (action_of route.op head n body)) HasAsciiText
    by_refusal None ascii = action_ascii route.op head n body
    by_refusal (Some refusal) ascii = ascii

    by_offer : (t : Bool) → IfErr {T = Action} (cond t (routed_action route signer head n body) (Err NoRoute)) HasAsciiText
    by_offer true = by_refusal (request_refusal route signer head n body) (request_ascii route signer head n body)
    by_offer false = tt
routed_ascii found.NoRoute signer head n body = tt
routed_ascii found.BadName signer head n body = tt
routed_ascii found.BadId signer head n body = tt

-- a message is refused with ASCII texts
pub refused_ascii : (config : Config) (head : HeadText) (n : ℕ) (body : List ℕ) (reading : ℕ) → HasNames head.fields
    → RefusesInAscii (request_with config head n body reading)
refused_ascii config head n body reading names =
    by_need (need_refusal (named_hashes head) n) (need_ascii (named_hashes head)) (signer_of config head body reading)
    (verdict_ascii config.region head names _ reading config.ring)
  where
    need_ascii : (values : List (List ℕ)) → IfSome (need_refusal values n) HasAsciiText
    need_ascii [] = go (nat_lt MOST_BODY n)
      where
        go : (t : Bool) → IfSome (cond t (Some (HashNeeded n)) None) HasAsciiText
        go true = tt
        go false = tt
    need_ascii (value ∷ more) = tt

    by_verdict : (verdict : Verdict) → IfErr verdict HasAsciiName
        → RefusesInAscii (verified_request verdict head n body)
    by_verdict (Ok signer) ascii = routed_ascii (route_of head) signer head n body
    by_verdict (Err fault) ascii = ascii

    by_need : (need : Option Refusal) → IfSome need HasAsciiText → (verdict : Verdict) → IfErr verdict HasAsciiName
        → RefusesInAscii (needed_request need verdict head n body)
    by_need None x verdict y = by_verdict verdict y
    by_need (Some refusal) x verdict y = x
