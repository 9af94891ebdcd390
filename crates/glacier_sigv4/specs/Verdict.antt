-- When a request is verified, and the first fault where it isn't.
use Rattle.std.specs.Prelude.{ℕ, ◌+◌, ◌-◌, Bool, not, ◌&&◌, List, [], ◌∷◌, codes, bytes_eq, Option, Some, None, unwrap_or, Result, Ok, Err, if◌then◌else◌, nat_lt}
use Rattle.glacier_base.specs.Dates.{basic_of, basic_moment}
use Rattle.glacier_http.specs.Fields.{values_of}
use Rattle.glacier_http.specs.View.{HeadText}
use Rattle.glacier_sigv4.specs.Authorization.{CredentialText, AuthorizationText, authorization_of, names_in}
use Rattle.glacier_sigv4.specs.Canonical.{RequestText, request_of, canonical_of}
use Rattle.glacier_sigv4.specs.Coverage.{are_present, first_unsigned}
use Rattle.glacier_sigv4.specs.Rings.{entry_with}
use Rattle.glacier_sigv4.specs.ToSign.{day_of, signature_of}
use Rattle.glacier_sigv4.specs.declared.auth_fault.AuthFault.{AuthFault}
use Rattle.glacier_sigv4.specs.declared.auth_fault.AuthFault.TheVariants as fault
use Rattle.glacier_sigv4.specs.declared.ring.Entry.{Entry}
use Rattle.glacier_sigv4.specs.declared.verifying.TheConstants.{MOST_SKEW}

-- an account, or why there is none
abbrev pub Verdict : Type 0
Verdict = Result (List ℕ) AuthFault

-- what a head claims: what its Authorization says, and the moment of its date
pub record ClaimText : Type 0 where
  pub authorization : AuthorizationText
  pub moment : ℕ

-- the claim of the two, where both were read, and each signed name is that of a field
abbrev pub claim_from : List (List ℕ × List ℕ) → Option AuthorizationText → Option ℕ → Result ClaimText AuthFault
claim_from fields None moment = Err fault.Malformed
claim_from fields (Some authorization) None = Err fault.Malformed
claim_from fields (Some authorization) (Some moment) =
    if are_present fields (names_in authorization.names)
    then Ok (record { authorization = authorization; moment = moment }) else Err fault.Malformed

-- the claim of the values of Authorization and x-amz-date: one of each
abbrev pub claim_of : List (List ℕ × List ℕ) → List (List ℕ) → List (List ℕ) → Result ClaimText AuthFault
claim_of fields [] dates = Err fault.Missing
claim_of fields (authorization ∷ others) [] = Err fault.Missing
claim_of fields (authorization ∷ []) (date ∷ []) = claim_from fields (authorization_of authorization) (basic_moment date)
claim_of fields (authorization ∷ []) (date ∷ second ∷ dates) = Err fault.Malformed
claim_of fields (authorization ∷ second ∷ others) (date ∷ dates) = Err fault.Malformed

-- the claim of a head
abbrev pub claim_in : HeadText → Result ClaimText AuthFault
claim_in head = claim_of head.fields (values_of (codes "authorization") head.fields) (values_of (codes "x-amz-date") head.fields)

-- the scope is the day of the date, this region, the service and the end of a scope
abbrev pub is_in_scope : List ℕ → List ℕ → CredentialText → Bool
is_in_scope date region c =
    bytes_eq c.date (day_of date)
    && (bytes_eq c.region region && (bytes_eq c.service (codes "glacier") && bytes_eq c.last (codes "aws4_request")))

-- the moments are too far apart
abbrev pub is_skewed : ℕ → ℕ → Bool
is_skewed theirs ours = nat_lt MOST_SKEW (theirs - ours + (ours - theirs))

-- a head as the request that is signed
abbrev pub request_in : HeadText → List ℕ → RequestText
request_in head payload = request_of head.method head.path (unwrap_or head.query []) head.fields payload

-- the signature is that of the head under the secret
abbrev pub is_signed_by : List ℕ → List ℕ → HeadText → List ℕ → ClaimText → Bool
is_signed_by secret region head payload claim =
    let canonical = canonical_of (request_in head payload) (names_in claim.authorization.names) in
    bytes_eq (signature_of secret (basic_of claim.moment) region canonical) claim.authorization.signature

-- the fault of a name that must be signed and isn't, and else what follows
abbrev pub unless_unsigned : Option (List ℕ) → Verdict → Verdict
unless_unsigned (Some header) rest = Err (fault.Unsigned header)
unless_unsigned None rest = rest

-- the verdict on a claim for the keys of an entry
abbrev pub judged_entry : List ℕ → HeadText → List ℕ → ℕ → ClaimText → Entry → Verdict
judged_entry region head payload reading claim entry =
    if not (is_in_scope (basic_of claim.moment) region claim.authorization.credential) then Err fault.WrongScope
    else unless_unsigned (first_unsigned (names_in claim.authorization.names) head.fields) (
    if is_skewed claim.moment reading then Err (fault.Skewed claim.moment reading)
    else if not (is_signed_by entry.keys.secret region head payload claim) then Err fault.BadSignature
    else Ok entry.keys.account)

-- the verdict on a claim whose access key has this entry, if it has one
abbrev pub judged_key : List ℕ → HeadText → List ℕ → ℕ → ClaimText → Option Entry → Verdict
judged_key region head payload reading claim None = Err fault.UnknownKey
judged_key region head payload reading claim (Some entry) = judged_entry region head payload reading claim entry

-- the verdict on what a head claims
abbrev pub judged : List Entry → List ℕ → HeadText → List ℕ → ℕ → Result ClaimText AuthFault → Verdict
judged ring region head payload reading (Err fault) = Err fault
judged ring region head payload reading (Ok claim) =
    judged_key region head payload reading claim (entry_with claim.authorization.credential.key ring)

-- the verdict on a head with this payload text, in this region and at this reading of the clock
abbrev pub verdict : List Entry → List ℕ → HeadText → List ℕ → ℕ → Verdict
verdict ring region head payload reading = judged ring region head payload reading (claim_in head)
