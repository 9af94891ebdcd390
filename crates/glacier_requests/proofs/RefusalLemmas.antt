-- What is known of the refusals of a job's body: each names a member, in bytes below 128, or is one of two.
use Rattle.std.proofs.Common.{ℕ, ◌≡◌, Bool, true, false, cond, List, [], ◌∷◌, Option, Some, None, Result, Ok, Err, refl}
use Rattle.std.specs.Prelude.{IfErr, codes, nat_lt, is_some, option_and_then}
use Rattle.std.specs.List.{list_all}
use Rattle.std.proofs.lemmas.Bool.{and_parts}
use Rattle.serde_json.specs.Data.{Data}
use Rattle.serde_json.specs.Find.{as_str}
use Rattle.glacier_base.specs.Names.{is_description, where_rule}
use Rattle.glacier_base.specs.declared.id.IdKind.TheVariants.{Archive as archive_id}
use Rattle.glacier_requests.specs.Ids.{id_number}
use Rattle.glacier_requests.specs.JobBodies.{type_named, tier_named, is_csv_named, range_named, needed, optional, unoffered_names, unless_there, type_in, description_in, tier_in, archive_in, range_in, is_csv_in, kind_in, job_in, job_body_of}
use Rattle.glacier_requests.specs.Members.{object_of, present}
use Rattle.glacier_requests.specs.Reads.{and_then, or_else}
use Rattle.glacier_requests.specs.declared.job_members.JobType.{JobType}
use Rattle.glacier_requests.specs.declared.job_members.JobType.TheVariants as a_job
use Rattle.glacier_vault.specs.declared.job.Tier.TheVariants.{Standard}
use Rattle.glacier_vault.specs.declared.refusal.Refusal.{Refusal}
use Rattle.glacier_vault.specs.declared.refusal.Refusal.TheVariants.{NotJson, MissingMember, BadMember, NotOffered, BadType}

-- each byte is below 128
abbrev pub is_low : List ℕ → Bool
is_low name = list_all (λ b. nat_lt b 128) name

pub then_refused : (P : Refusal → Type 0) {A B : Type 0} (r : Result A Refusal) (next : A → Result B Refusal)
    → IfErr r P → ((a : A) → IfErr (next a) P) → IfErr (and_then r next) P
then_refused P (Ok a) next h after = after a
then_refused P (Err refusal) next h after = h

pub else_refused : (P : Refusal → Type 0) {A : Type 0} (refusal : Refusal) (value : Option A) → P refusal
    → IfErr (or_else refusal value) P
else_refused P refusal None h = h
else_refused P refusal (Some value) h = tt

module _ (P : Refusal → Type 0) (missing : (name : List ℕ) → is_low name ≡ true → P (MissingMember name))
    (bad : (name : List ℕ) → is_low name ≡ true → P (BadMember name))
    (unoffered : (name : List ℕ) → is_low name ≡ true → P (NotOffered name)) (bad_type : P BadType) (not_json : P NotJson) where
  needed_refused : {A : Type 0} (name : List ℕ) (refusal : Refusal) (reading : List ℕ → Option A) (member : Option Data)
      → is_low name ≡ true → P refusal → IfErr (needed name refusal reading member) P
  needed_refused name refusal reading None low h = missing name low
  needed_refused name refusal reading (Some member) low h =
      else_refused P refusal (option_and_then reading (as_str member)) h

  optional_refused : {A : Type 0} (name : List ℕ) (default : A) (reading : List ℕ → Option A) (member : Option Data)
      → is_low name ≡ true → IfErr (optional name default reading member) P
  optional_refused name default reading None low = tt
  optional_refused name default reading (Some member) low =
      else_refused P (BadMember name) (option_and_then reading (as_str member)) (bad name low)

  there_refused : (names : List (List ℕ)) (body : Data) → list_all is_low names ≡ true → IfErr (unless_there names body) P
  there_refused [] body low = tt
  there_refused (name ∷ names) body low =
      let parts = and_parts (is_low name) (list_all is_low names) low in
      go (is_some (present name body)) parts.0 (there_refused names body parts.1)
    where
      go : (t : Bool) → is_low name ≡ true → IfErr (unless_there names body) P
          → IfErr (cond t (Err (NotOffered name)) (unless_there names body)) P
      go true name_low rest = unoffered name name_low
      go false name_low rest = rest

  kind_refused : (type : JobType) (body : Data) → IfErr (kind_in type body) P
  kind_refused a_job.Retrieval body =
      then_refused P (archive_in body) _
      (needed_refused (codes "ArchiveId") (BadMember (codes "ArchiveId")) (id_number archive_id)
      (present (codes "ArchiveId") body) refl (bad (codes "ArchiveId") refl))
      (λ archive. then_refused P (range_in body) _
      (optional_refused (codes "RetrievalByteRange") None range_named (present (codes "RetrievalByteRange") body) refl)
      (λ range. tt))
  kind_refused a_job.Inventory body =
      then_refused P (is_csv_in body) _
      (optional_refused (codes "Format") false is_csv_named (present (codes "Format") body) refl)
      (λ csv. tt)

  job_refused : (body : Data) → IfErr (job_in body) P
  job_refused body =
      then_refused P (type_in body) _
      (needed_refused (codes "Type") BadType type_named (present (codes "Type") body) refl bad_type)
      (λ type. then_refused P (unless_there unoffered_names body) _ (there_refused unoffered_names body refl)
      (λ offered. then_refused P (description_in body) _
      (optional_refused (codes "Description") [] (where_rule is_description) (present (codes "Description") body) refl)
      (λ description. then_refused P (tier_in body) _
      (optional_refused (codes "Tier") Standard tier_named (present (codes "Tier") body) refl)
      (λ tier. then_refused P (kind_in type body) _ (kind_refused type body) (λ asked. tt)))))

  pub body_refused : (body : List ℕ) → IfErr (job_body_of body) P
  body_refused body =
      then_refused P (or_else NotJson (object_of body)) job_in (else_refused P NotJson (object_of body) not_json) job_refused
