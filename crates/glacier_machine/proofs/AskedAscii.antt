-- What heads and bodies are refused for names its headers and members, which are ASCII.
use Rattle.std.proofs.Common.{ℕ, ◌≡◌, true, List, [], ◌∷◌, Result, refl}
use Rattle.std.specs.Prelude.{IfErr, IsAscii, codes, nat_lt}
use Rattle.std.proofs.lemmas.Bool.{ltb-true}
use Rattle.glacier_base.specs.Digests.{digest_of}
use Rattle.glacier_base.specs.Names.{is_description, where_rule}
use Rattle.glacier_http.specs.Fields.{values_of}
use Rattle.glacier_http.specs.View.{HeadText}
use Rattle.glacier_requests.specs.JobBodies.{job_body_of}
use Rattle.glacier_requests.specs.Reads.{and_then}
use Rattle.glacier_requests.specs.Uploads.{one_digest, digest_under, description_name, one_description, description_under, upload_head_of}
use Rattle.glacier_requests.specs.declared.jobs.JobBody.{JobBody}
use Rattle.glacier_requests.specs.declared.jobs.JobKind.{JobKind}
use Rattle.glacier_requests.specs.declared.jobs.JobKind.TheVariants as kinds
use Rattle.glacier_requests.specs.declared.routes.Op.{Op}
use Rattle.glacier_requests.specs.declared.routes.Op.TheVariants as op
use Rattle.glacier_requests.proofs.RefusalLemmas.{is_low, then_refused, else_refused, body_refused}
use Rattle.glacier_replies.specs.Messages.{HasAsciiText}
use Rattle.glacier_replies.proofs.NameLemmas.{ascii_by}
use Rattle.glacier_vault.specs.declared.refusal.Refusal.{Refusal}
use Rattle.glacier_vault.specs.declared.refusal.Refusal.TheVariants.{BadHeader}
use Rattle.glacier_machine.specs.Requests.{offered_kind, offered_job, action_of}

low_ascii : (name : List ℕ) → is_low name ≡ true → IsAscii name
low_ascii name low = ascii_by (λ b. nat_lt b 128) (λ b h. ltb-true b 128 h) name low

-- what is refused is refused with ASCII
abbrev InAscii : {A : Type 0} → Result A Refusal → Type 0
InAscii r = IfErr r HasAsciiText

digest_ascii : (name : List ℕ) → is_low name ≡ true → (values : List (List ℕ)) → InAscii (one_digest name values)
digest_ascii name low [] = low_ascii name low
digest_ascii name low (value ∷ []) = else_refused HasAsciiText (BadHeader name) (digest_of value) (low_ascii name low)
digest_ascii name low (value ∷ second ∷ more) = low_ascii name low

text_ascii : (values : List (List ℕ)) → InAscii (one_description values)
text_ascii [] = tt
text_ascii (value ∷ []) =
    else_refused HasAsciiText (BadHeader description_name) (where_rule is_description value) (low_ascii description_name refl)
text_ascii (value ∷ second ∷ more) = low_ascii description_name refl

upload_ascii : (head : HeadText) → InAscii (upload_head_of head)
upload_ascii head =
    then_refused HasAsciiText (digest_under (codes "x-amz-content-sha256") head) _
    (digest_ascii (codes "x-amz-content-sha256") refl (values_of (codes "x-amz-content-sha256") head.fields))
    (λ linear. then_refused HasAsciiText (digest_under (codes "x-amz-sha256-tree-hash") head) _
    (digest_ascii (codes "x-amz-sha256-tree-hash") refl (values_of (codes "x-amz-sha256-tree-hash") head.fields))
    (λ tree. then_refused HasAsciiText (description_under head) _
    (text_ascii (values_of description_name head.fields)) (λ text. tt)))

body_ascii : (body : List ℕ) → InAscii (job_body_of body)
body_ascii body = body_refused HasAsciiText low_ascii low_ascii low_ascii tt tt body

offered_ascii : (body : JobBody) → InAscii (offered_job body)
offered_ascii body = go body.kind
  where
    go : (k : JobKind) → InAscii (offered_kind k body)
    go (kinds.Archive archive range) = tt
    go (kinds.Inventory csv) = tt

-- an operation is refused with ASCII by what its head and its body say
pub action_ascii : (o : Op) (head : HeadText) (length : ℕ) (body : List ℕ) → InAscii (action_of o head length body)
action_ascii (op.Upload vault) head length body =
    then_refused HasAsciiText (upload_head_of head) _ (upload_ascii head) (λ said. tt)
action_ascii (op.BeginJob vault) head length body =
    then_refused HasAsciiText (and_then (job_body_of body) offered_job) _
    (then_refused HasAsciiText (job_body_of body) offered_job (body_ascii body) offered_ascii) (λ said. tt)
action_ascii _ head length body = tt
