-- What is asked for keeps the conditions of the operations.
use Rattle.std.proofs.Common.{◌≡◌, ℕ, Bool, true, false, cond, List, [], ◌∷◌, Option, Some, None, Result, Ok, Err, refl, subst}
use Rattle.std.specs.Prelude.{◌&&◌, IfOk, codes}
use Rattle.glacier_http.specs.View.{HeadText}
use Rattle.glacier_job.specs.Work.{HasOrderedRange}
use Rattle.glacier_requests.specs.JobBodies.{job_body_of, HasRisingRange}
use Rattle.glacier_requests.specs.Reads.{and_then}
use Rattle.glacier_requests.specs.Routes.{route_of}
use Rattle.glacier_requests.specs.Uploads.{one_digest, upload_head_of}
use Rattle.glacier_requests.specs.declared.jobs.JobBody.{JobBody}
use Rattle.glacier_requests.specs.declared.jobs.JobKind.{JobKind}
use Rattle.glacier_requests.specs.declared.jobs.JobKind.TheVariants.{Archive, Inventory}
use Rattle.glacier_requests.specs.declared.routes.Op.{Op}
use Rattle.glacier_requests.specs.declared.routes.Op.TheVariants as op
use Rattle.glacier_requests.specs.declared.routes.RouteStep.{RouteStep}
use Rattle.glacier_requests.specs.declared.routes.RouteStep.TheVariants as found
use Rattle.glacier_requests.specs.declared.uploads.UploadHead.{UploadHead}
use Rattle.glacier_requests.proofs.RisingRanges.{went_on, job_range_rises, output_range_rises}
use Rattle.glacier_sigv4.specs.Verdict.{Verdict}
use Rattle.glacier_vault.specs.declared.refusal.Refusal.{Refusal}
use Rattle.glacier_vault.specs.declared.refusal.Refusal.TheVariants.{NoRoute}
use Rattle.glacier_machine.specs.Actions.{stores_body, HasOrder, HasSize}
use Rattle.glacier_machine.specs.Asks.{kind_asked, job_asked, upload_asked, takes_body, routes_body, some_value, is_bulk_head}
use Rattle.glacier_machine.specs.ContentHash.{named_hashes, need_refusal}
use Rattle.glacier_machine.specs.Requests.{request_refusal, is_offered, offered_kind, offered_job, unless, action_of}
use Rattle.glacier_machine.specs.SignedRequests.{signer_of, routed_asked, asked_by, needed_request, request_with}
use Rattle.glacier_machine.specs.declared.action.Action.{Action}
use Rattle.glacier_machine.specs.declared.action.Action.TheVariants as action
use Rattle.glacier_machine.specs.declared.config.Config.{Config}

same_range : (kind : JobKind) → HasRisingRange kind → HasOrderedRange (kind_asked kind)
same_range (Archive archive range) rises = rises
same_range (Inventory csv) rises = tt

-- a job is asked for with a range in order
pub job_ask_is_in_order : (text : List ℕ) (body : JobBody) (vault : List ℕ) → job_body_of text ≡ Ok body
    → HasOrderedRange (job_asked vault body).kind
job_ask_is_in_order text body vault is = same_range body.kind (job_range_rises text body is)

-- a body that is offered is the one that was read
offered_is : (read body : JobBody) (kind : JobKind) → offered_kind kind read ≡ Ok body → read ≡ body
offered_is read body (Archive archive range) is = cc
offered_is read body (Inventory csv) is = cc

job_order : (vault body : List ℕ) → IfOk (and_then (and_then (job_body_of body) offered_job)
    (λ said. Ok (action.BeginJob (job_asked vault said)))) HasOrder
job_order vault body = by_job (and_then (job_body_of body) offered_job) refl
  where
    by_job : (r : Result JobBody Refusal) → and_then (job_body_of body) offered_job ≡ r
        → IfOk (and_then r (λ said. Ok (action.BeginJob (job_asked vault said)))) HasOrder
    by_job (Err refusal) is = tt
    by_job (Ok said) is =
        went_on (job_body_of body) offered_job said is
        (λ read e next. subst (λ (j : JobBody). HasOrderedRange (kind_asked j.kind)) (offered_is read said read.kind next)
        (job_ask_is_in_order body read vault e))

upload_order : (vault : List ℕ) (length : ℕ) (r : Result UploadHead Refusal)
    → IfOk (and_then r (λ said. Ok (action.Upload (upload_asked vault said length)))) HasOrder
upload_order vault length (Ok said) = tt
upload_order vault length (Err refusal) = tt

action_order : (o : Op) (head : HeadText) (length : ℕ) (body : List ℕ) → IfOk (action_of o head length body) HasOrder
action_order (op.Upload vault) head length body = upload_order vault length (upload_head_of head)
action_order (op.BeginJob vault) head length body = job_order vault body
action_order (op.JobOutput vault job) head length body = output_range_rises head
action_order _ head length body = tt

-- what is stored is an upload, whose head names the body's hash
upload_streams : (vault : List ℕ) (length : ℕ) (values : List (List ℕ)) (rest : List ℕ → Result UploadHead Refusal)
    → IfOk (and_then (and_then (one_digest (codes "x-amz-content-sha256") values) rest)
    (λ said. Ok (action.Upload (upload_asked vault said length))))
    (λ a. stores_body a ≡ some_value values)
upload_streams vault length [] rest = tt
upload_streams vault length (value ∷ more) rest = go (and_then (one_digest (codes "x-amz-content-sha256") (value ∷ more)) rest)
  where
    go : (r : Result UploadHead Refusal)
        → IfOk (and_then r (λ said. Ok (action.Upload (upload_asked vault said length)))) (λ a. stores_body a ≡ true)
    go (Ok said) = refl
    go (Err refusal) = tt

-- an upload is one of as many bytes as its body has
upload_size : (vault : List ℕ) (length : ℕ) (r : Result UploadHead Refusal)
    → IfOk (and_then r (λ said. Ok (action.Upload (upload_asked vault said length)))) (HasSize length)
upload_size vault length (Ok said) = refl
upload_size vault length (Err refusal) = tt

job_size : (vault : List ℕ) (length : ℕ) (r : Result JobBody Refusal)
    → IfOk (and_then r (λ said. Ok (action.BeginJob (job_asked vault said)))) (HasSize length)
job_size vault length (Ok said) = tt
job_size vault length (Err refusal) = tt

action_size : (o : Op) (head : HeadText) (length : ℕ) (body : List ℕ) → IfOk (action_of o head length body) (HasSize length)
action_size (op.Upload vault) head length body = upload_size vault length (upload_head_of head)
action_size (op.BeginJob vault) head length body = job_size vault length (and_then (job_body_of body) offered_job)
action_size _ head length body = tt

begun_streams : (vault : List ℕ) (r : Result JobBody Refusal)
    → IfOk (and_then r (λ said. Ok (action.BeginJob (job_asked vault said)))) (λ a. stores_body a ≡ false)
begun_streams vault (Ok said) = refl
begun_streams vault (Err refusal) = tt

action_streams : (o : Op) (head : HeadText) (length : ℕ) (body : List ℕ)
    → IfOk (action_of o head length body) (λ a. stores_body a ≡ (takes_body o && some_value (named_hashes head)))
action_streams (op.Upload vault) head length body = upload_streams vault length (named_hashes head) _
action_streams (op.BeginJob vault) head length body = begun_streams vault (and_then (job_body_of body) offered_job)
action_streams (op.CreateVault vault) head length body = refl
action_streams (op.DescribeVault vault) head length body = refl
action_streams (op.DeleteVault vault) head length body = refl
action_streams (op.DeleteArchive vault archive) head length body = refl
action_streams (op.DescribeJob vault job) head length body = refl
action_streams (op.JobOutput vault job) head length body = refl
action_streams _ head length body = tt

-- what holds of each action of an operation holds of what a route asks for
module _ (P : Action → Type 0) (signer : List ℕ) (head : HeadText) (n : ℕ) (body : List ℕ) where
  unless_holds : (refused : Option Refusal) (r : Result Action Refusal) → IfOk r P → IfOk (unless refused r) P
  unless_holds None r h = h
  unless_holds (Some refusal) r h = tt

  offered_holds : (t : Bool) (r : Result Action Refusal) (refusal : Refusal) → IfOk r P → IfOk (cond t r (Err refusal)) P
  offered_holds true r refusal h = h
  offered_holds false r refusal h = tt

routed_order : (step : RouteStep) (signer : List ℕ) (head : HeadText) (n : ℕ) (body : List ℕ)
    → IfOk (routed_asked step signer head n body) HasOrder
routed_order (found.Route route) signer head n body =
    offered_holds HasOrder signer head n body (is_offered route.op) _ _
    (unless_holds HasOrder signer head n body (request_refusal route signer head n body) _ (action_order route.op head n body))
routed_order found.NoRoute signer head n body = tt
routed_order found.BadName signer head n body = tt
routed_order found.BadId signer head n body = tt

routed_streams : (step : RouteStep) (signer : List ℕ) (head : HeadText) (n : ℕ) (body : List ℕ)
    → IfOk (routed_asked step signer head n body) (λ a. stores_body a ≡ (routes_body step && some_value (named_hashes head)))
routed_streams (found.Route route) signer head n body =
    let Streams = λ (a : Action). stores_body a ≡ (takes_body route.op && some_value (named_hashes head)) in
    offered_holds Streams signer head n body (is_offered route.op) _ _
    (unless_holds Streams signer head n body (request_refusal route signer head n body) _ (action_streams route.op head n body))
routed_streams found.NoRoute signer head n body = tt
routed_streams found.BadName signer head n body = tt
routed_streams found.BadId signer head n body = tt

routed_size : (step : RouteStep) (signer : List ℕ) (head : HeadText) (n : ℕ) (body : List ℕ)
    → IfOk (routed_asked step signer head n body) (HasSize n)
routed_size (found.Route route) signer head n body =
    offered_holds (HasSize n) signer head n body (is_offered route.op) _ _
    (unless_holds (HasSize n) signer head n body (request_refusal route signer head n body) _ (action_size route.op head n body))
routed_size found.NoRoute signer head n body = tt
routed_size found.BadName signer head n body = tt
routed_size found.BadId signer head n body = tt

-- what holds of what each signer asks for holds of the request
request_holds : (P : Action → Type 0) (config : Config) (head : HeadText) (n : ℕ) (body : List ℕ) (reading : ℕ)
    → ((signer : List ℕ) → IfOk (asked_by signer head n body) P)
    → IfOk (request_with config head n body reading) (λ request. IfOk request.asked P)
request_holds P config head n body reading holds =
    by_need (need_refusal (named_hashes head) n) (signer_of config head body reading)
  where
    by_need : (need : Option Refusal) (verdict : Verdict)
        → IfOk (needed_request need verdict head n body) (λ request. IfOk request.asked P)
    by_need None (Ok signer) = holds signer
    by_need None (Err fault) = tt
    by_need (Some refusal) verdict = tt

-- an action that is asked for names a range in order
pub asked_is_in_order : (config : Config) (head : HeadText) (n : ℕ) (body : List ℕ) (reading : ℕ)
    → IfOk (request_with config head n body reading) (λ request. IfOk request.asked HasOrder)
asked_is_in_order config head n body reading =
    request_holds HasOrder config head n body reading (λ signer. routed_order (route_of head) signer head n body)

-- an upload is asked for with the size of its body
pub asked_has_size : (config : Config) (head : HeadText) (n : ℕ) (body : List ℕ) (reading : ℕ)
    → IfOk (request_with config head n body reading) (λ request. IfOk request.asked (HasSize n))
asked_has_size config head n body reading =
    request_holds (HasSize n) config head n body reading (λ signer. routed_size (route_of head) signer head n body)

-- and it stores the body exactly where its head says so
pub asked_is_bulk : (config : Config) (head : HeadText) (n : ℕ) (body : List ℕ) (reading : ℕ)
    → IfOk (request_with config head n body reading) (λ request. IfOk request.asked (λ a. stores_body a ≡ is_bulk_head head))
asked_is_bulk config head n body reading =
    request_holds (λ a. stores_body a ≡ is_bulk_head head) config head n body reading
    (λ signer. routed_streams (route_of head) signer head n body)
