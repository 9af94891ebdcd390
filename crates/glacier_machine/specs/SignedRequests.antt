-- What a message with a good head asks for, by the head's text, its body and a reading of the clock.
use Rattle.std.specs.Prelude.{◌≡◌, ℕ, ◌≤◌, List, length, Option, Some, None, Result, Ok, Err, IfErr, if◌then◌else◌}
use Rattle.glacier_http.specs.View.{HeadText}
use Rattle.glacier_machine.specs.ContentHash.{named_hashes, need_refusal}
use Rattle.glacier_machine.specs.Requests.{is_offered, routed_action}
use Rattle.glacier_machine.specs.declared.action.Action.{Action}
use Rattle.glacier_machine.specs.declared.action.Request.{Request}
use Rattle.glacier_machine.specs.declared.config.Config.{Config}
use Rattle.glacier_machine.specs.declared.content_hash.TheConstants.{MOST_BODY}
use Rattle.glacier_replies.specs.Messages.{HasAsciiText}
use Rattle.glacier_requests.specs.Routes.{route_of}
use Rattle.glacier_requests.specs.declared.routes.RouteStep.{RouteStep}
use Rattle.glacier_requests.specs.declared.routes.RouteStep.TheVariants as found
use Rattle.glacier_sigv4.specs.Payload.{payload_of}
use Rattle.glacier_sigv4.specs.Verdict.{Verdict, verdict}
use Rattle.glacier_sigv4.specs.declared.auth_fault.AuthFault.{AuthFault}
use Rattle.glacier_sigv4.specs.declared.auth_fault.AuthFault.TheVariants as fault
use Rattle.glacier_vault.specs.declared.refusal.Refusal.{Refusal}
use Rattle.glacier_vault.specs.declared.refusal.Refusal.TheVariants as refusal

-- the refusal of a message that isn't verified
abbrev pub fault_refusal : AuthFault → Refusal
fault_refusal fault.Missing = refusal.Missing
fault_refusal fault.Malformed = refusal.Malformed
fault_refusal fault.UnknownKey = refusal.UnknownKey
fault_refusal fault.WrongScope = refusal.WrongScope
fault_refusal (fault.Unsigned header) = refusal.Unsigned header
fault_refusal (fault.Skewed theirs ours) = refusal.Skewed theirs ours
fault_refusal fault.BadSignature = refusal.BadSignature

-- whose message it is, or why it isn't verified
abbrev pub signer_of : Config → HeadText → List ℕ → ℕ → Verdict
signer_of config head body reading = verdict config.ring config.region head (payload_of head.fields body) reading

-- what a signer's head asks for, by its route: what isn't offered has none
abbrev pub routed_asked : RouteStep → List ℕ → HeadText → ℕ → List ℕ → Result Action Refusal
routed_asked (found.Route route) signer head length body =
    if is_offered route.op then routed_action route signer head length body else Err refusal.NoRoute
routed_asked found.NoRoute signer head length body = Err refusal.NoRoute
routed_asked found.BadName signer head length body = Err refusal.BadName
routed_asked found.BadId signer head length body = Err refusal.BadId

-- what a verified head of this signer and its body ask for, or why that is refused
abbrev pub asked_by : List ℕ → HeadText → ℕ → List ℕ → Result Action Refusal
asked_by signer head length body = routed_asked (route_of head) signer head length body

-- the request by the verdict: a message that isn't verified makes none, and one that is refused later makes one
abbrev pub verified_request : Verdict → HeadText → ℕ → List ℕ → Result Request Refusal
verified_request (Ok signer) head length body =
    Ok (record { account = signer; asked = asked_by signer head length body })
verified_request (Err fault) head length body = Err (fault_refusal fault)

-- the same, where a hash is needed and isn't named
abbrev pub needed_request : Option Refusal → Verdict → HeadText → ℕ → List ℕ → Result Request Refusal
needed_request None verdict head length body = verified_request verdict head length body
needed_request (Some refused) verdict head length body = Err refused

-- the request that a head makes, behind which a body of this length stands
abbrev pub request_with : Config → HeadText → ℕ → List ℕ → ℕ → Result Request Refusal
request_with config head length body reading =
    needed_request (need_refusal (named_hashes head) length) (signer_of config head body reading) head length body

-- the request that a head with a body makes
abbrev pub request_in : Config → HeadText → List ℕ → ℕ → Result Request Refusal
request_in config head body reading = request_with config head (length body) body reading

-- where a request is refused, or a message isn't verified, the texts of the refusal are ASCII
abbrev pub RefusesInAscii : Result Request Refusal → Type 0
RefusesInAscii (Ok request) = IfErr request.asked HasAsciiText
RefusesInAscii (Err refused) = HasAsciiText refused

-- what is kept of a body: all of it, unless it is longer than a body may be
abbrev pub IsBodyKept : List ℕ → List ℕ → Type 0
IsBodyKept kept body = length body ≤ MOST_BODY → kept ≡ body
