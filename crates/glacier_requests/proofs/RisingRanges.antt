-- The ranges that are read begin where they end or before.
use Rattle.std.specs.Prelude.{◌≡◌, ◌≤◌, ℕ, List, [], ◌∷◌, Option, Some, None, option_map, option_and_then, Result, Ok, Err, IfSome, codes}
use Rattle.std.proofs.Common.{◌∙◌, ap, sym, refl, subst, arith}
use Rattle.serde_json.specs.Data.{Data}
use Rattle.serde_json.specs.Find.{as_str}
use Rattle.glacier_http.specs.Fields.{values_of}
use Rattle.glacier_http.specs.View.{HeadText}
use Rattle.glacier_requests.specs.JobBodies.{optional, range_named, range_in, archive_in, is_csv_in, kind_in, type_in, description_in, tier_in, unless_there, unoffered_names, job_in, job_body_of, HasRisingRange}
use Rattle.glacier_requests.specs.Members.{object_of, present}
use Rattle.glacier_requests.specs.Parts.{range_in_values, range_or_outside, output_range_of}
use Rattle.glacier_requests.specs.Ranges.{range_of, byte_range_of}
use Rattle.glacier_requests.specs.Reads.{and_then, or_else}
use Rattle.glacier_requests.specs.declared.job_members.JobType.{JobType}
use Rattle.glacier_requests.specs.declared.job_members.JobType.TheVariants as a_job
use Rattle.glacier_requests.specs.declared.jobs.JobBody.{JobBody}
use Rattle.glacier_requests.specs.declared.jobs.JobKind.{JobKind}
use Rattle.glacier_requests.specs.declared.jobs.JobKind.TheVariants.{Archive, Inventory}
use Rattle.glacier_requests.proofs.RangeFound.{finds_range_of, finds_byte_range_of}
use Rattle.glacier_vault.specs.declared.refusal.Refusal.{Refusal}
use Rattle.glacier_vault.specs.declared.refusal.Refusal.TheVariants.{NotJson, BadMember}

abbrev IsRising : ℕ × ℕ → Type 0
IsRising range = range.0 ≤ range.1

-- what was read before something that was read
pub went_on : {A B P : Type 0} (r : Result A Refusal) (next : A → Result B Refusal) (b : B) → and_then r next ≡ Ok b
    → ((a : A) → r ≡ Ok a → next a ≡ Ok b → P) → P
went_on (Ok a) next b is then = then a refl is
went_on (Err refusal) next b is then = cc

text_range : (text : List ℕ) (r : Option (ℕ × ℕ)) → range_of text ≡ r → (range : Option (ℕ × ℕ))
    → or_else (BadMember (codes "RetrievalByteRange")) (option_map (λ (x : ℕ × ℕ). Some x) r) ≡ Ok range → IfSome range IsRising
text_range text None is range e = cc
text_range text (Some x) is range e =
    let same : Some x ≡ range = cc in
    subst (λ r. IfSome r IsRising) same (((finds_range_of text).said x).0 is).ordered

member_range : (member : Option Data) (range : Option (ℕ × ℕ))
    → optional (codes "RetrievalByteRange") None range_named member ≡ Ok range → IfSome range IsRising
member_range None range e = let same : None ≡ range = cc in subst (λ r. IfSome r IsRising) same tt
member_range (Some member) range e = by_text (as_str member) e
  where
    by_text : (text : Option (List ℕ))
        → or_else (BadMember (codes "RetrievalByteRange")) (option_and_then range_named text) ≡ Ok range → IfSome range IsRising
    by_text None e = cc
    by_text (Some text) e = text_range text (range_of text) refl range e

kind_rising : (type : JobType) (body : Data) (kind : JobKind) → kind_in type body ≡ Ok kind → HasRisingRange kind
kind_rising a_job.Retrieval body kind e =
    went_on (archive_in body) (λ archive. and_then (range_in body) (λ range. Ok (Archive archive range))) kind e
    (λ archive a next. went_on (range_in body) (λ range. Ok (Archive archive range)) kind next
    (λ range r last.
    let same : Archive archive range ≡ kind = cc in
    subst (λ k. HasRisingRange k) same (member_range (present (codes "RetrievalByteRange") body) range r)))
kind_rising a_job.Inventory body kind e =
    went_on (is_csv_in body) (λ csv. Ok (Inventory csv)) kind e
    (λ csv c last.
    let same : Inventory csv ≡ kind = cc in
    subst (λ k. HasRisingRange k) same tt)

job_rising : (body : Data) (job : JobBody) → job_in body ≡ Ok job → HasRisingRange job.kind
job_rising body job e =
    went_on (type_in body) _ job e (λ type t e1.
    went_on (unless_there unoffered_names body) _ job e1 (λ offered o e2.
    went_on (description_in body) _ job e2 (λ description d e3.
    went_on (tier_in body) _ job e3 (λ tier i e4.
    went_on (kind_in type body) (λ kind. Ok (record { tier = tier; description = description; kind = kind })) job e4 (λ kind k last.
    let same : record { tier = tier; description = description; kind = kind } ≡ job = cc in
    subst (λ (j : JobBody). HasRisingRange j.kind) same (kind_rising type body kind k))))))

-- a job is asked for with a range in order
pub job_range_rises : (text : List ℕ) (job : JobBody) → job_body_of text ≡ Ok job → HasRisingRange job.kind
job_range_rises text job e =
    went_on (or_else NotJson (object_of text)) job_in job e (λ body b next. job_rising body job next)

-- an output is asked for with one
pub output_range_rises : (head : HeadText) → IfSome (output_range_of head) IsRising
output_range_rises head = by_values (values_of (codes "Range") head.fields)
  where
    by_range : (text : List ℕ) (r : Option (ℕ × ℕ)) → byte_range_of text ≡ r → IsRising (range_or_outside r)
    by_range text None is = omega arith
    by_range text (Some range) is = let said = ((finds_byte_range_of text).said range).0 is in said.2.ordered

    by_values : (values : List (List ℕ)) → IfSome (range_in_values values) IsRising
    by_values [] = tt
    by_values (value ∷ []) = by_range value (byte_range_of value) refl
    by_values (value ∷ second ∷ more) = omega arith
