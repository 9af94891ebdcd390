-- What the body of a new job says (docs/rules/routes-and-refusals.md).
use Rattle.std.specs.Prelude.{ℕ, ◌≤◌, IfSome, Bool, true, false, List, [], ◌∷◌, Option, Some, None, option_map, option_and_then, is_some, Result, Ok, Err, codes, bytes_eq, if◌then◌else◌, ⊤}
use Rattle.serde_json.specs.Data.{Data}
use Rattle.serde_json.specs.Find.{as_str}
use Rattle.glacier_base.specs.Names.{is_description, where_rule}
use Rattle.glacier_base.specs.declared.id.IdKind.TheVariants.{Archive as archive_id}
use Rattle.glacier_requests.specs.Ids.{id_number}
use Rattle.glacier_requests.specs.Members.{object_of, present}
use Rattle.glacier_requests.specs.Ranges.{range_of}
use Rattle.glacier_requests.specs.Reads.{and_then, or_else}
use Rattle.glacier_requests.specs.declared.jobs.JobBody.{JobBody}
use Rattle.glacier_requests.specs.declared.jobs.JobKind.{JobKind}
use Rattle.glacier_requests.specs.declared.jobs.JobKind.TheVariants.{Archive, Inventory}
use Rattle.glacier_requests.specs.declared.job_members.JobType.{JobType}
use Rattle.glacier_requests.specs.declared.job_members.JobType.TheVariants as a_job
use Rattle.glacier_vault.specs.declared.job.Tier.{Tier}
use Rattle.glacier_vault.specs.declared.job.Tier.TheVariants.{Expedited, Standard, Bulk}
use Rattle.glacier_vault.specs.declared.refusal.Refusal.{Refusal}
use Rattle.glacier_vault.specs.declared.refusal.Refusal.TheVariants.{NotJson, MissingMember, BadMember, NotOffered, BadType}

abbrev pub type_named : List ℕ → Option JobType
type_named text =
    if bytes_eq text (codes "archive-retrieval") then Some a_job.Retrieval
    else if bytes_eq text (codes "inventory-retrieval") then Some a_job.Inventory
    else None

abbrev pub tier_named : List ℕ → Option Tier
tier_named text =
    if bytes_eq text (codes "Expedited") then Some Expedited
    else if bytes_eq text (codes "Standard") then Some Standard
    else if bytes_eq text (codes "Bulk") then Some Bulk
    else None

-- whether a format is CSV
abbrev pub is_csv_named : List ℕ → Option Bool
is_csv_named text =
    if bytes_eq text (codes "JSON") then Some false
    else if bytes_eq text (codes "CSV") then Some true
    else None

-- what a member that must be there says in its text: this refusal where it isn't so
abbrev pub needed : {A : Type 0} → List ℕ → Refusal → (List ℕ → Option A) → Option Data → Result A Refusal
needed name bad reading None = Err (MissingMember name)
needed name bad reading (Some member) = or_else bad (option_and_then reading (as_str member))

-- what a member that may be there says in its text, and else this
abbrev pub optional : {A : Type 0} → List ℕ → A → (List ℕ → Option A) → Option Data → Result A Refusal
optional name default reading None = Ok default
optional name default reading (Some member) = or_else (BadMember name) (option_and_then reading (as_str member))

-- the members by which a body asks for what isn't offered
abbrev pub unoffered_names : List (List ℕ)
unoffered_names =
    codes "SNSTopic" ∷ codes "SelectParameters" ∷ codes "OutputLocation" ∷ codes "InventoryRetrievalParameters" ∷ []

-- the first of these members that is there is refused
abbrev pub unless_there : List (List ℕ) → Data → Result ⊤ Refusal
unless_there [] body = Ok tt
unless_there (name ∷ names) body = if is_some (present name body) then Err (NotOffered name) else unless_there names body

abbrev pub type_in : Data → Result JobType Refusal
type_in body = needed (codes "Type") BadType type_named (present (codes "Type") body)

abbrev pub description_in : Data → Result (List ℕ) Refusal
description_in body =
    optional (codes "Description") [] (where_rule is_description) (present (codes "Description") body)

abbrev pub tier_in : Data → Result Tier Refusal
tier_in body = optional (codes "Tier") Standard tier_named (present (codes "Tier") body)

abbrev pub archive_in : Data → Result ℕ Refusal
archive_in body =
    needed (codes "ArchiveId") (BadMember (codes "ArchiveId")) (id_number archive_id) (present (codes "ArchiveId") body)

-- the range that a text says, as one that is asked for
abbrev pub range_named : List ℕ → Option (Option (ℕ × ℕ))
range_named text = option_map (λ range. Some range) (range_of text)

abbrev pub range_in : Data → Result (Option (ℕ × ℕ)) Refusal
range_in body = optional (codes "RetrievalByteRange") None range_named (present (codes "RetrievalByteRange") body)

abbrev pub is_csv_in : Data → Result Bool Refusal
is_csv_in body = optional (codes "Format") false is_csv_named (present (codes "Format") body)

-- what a job of a type asks for
abbrev pub kind_in : JobType → Data → Result JobKind Refusal
kind_in a_job.Retrieval body =
    and_then (archive_in body) (λ archive. and_then (range_in body) (λ range. Ok (Archive archive range)))
kind_in a_job.Inventory body = and_then (is_csv_in body) (λ csv. Ok (Inventory csv))

-- what an object says as the body of a job, or its first refusal
abbrev pub job_in : Data → Result JobBody Refusal
job_in body =
    and_then (type_in body) (λ type.
    and_then (unless_there unoffered_names body) (λ offered.
    and_then (description_in body) (λ description.
    and_then (tier_in body) (λ tier.
    and_then (kind_in type body) (λ kind.
    Ok (record { tier = tier; description = description; kind = kind }))))))

-- what a body says as that of a job
abbrev pub job_body_of : List ℕ → Result JobBody Refusal
job_body_of body = and_then (or_else NotJson (object_of body)) job_in

-- a range that is asked for begins where it ends or before
abbrev pub HasRisingRange : JobKind → Type 0
HasRisingRange (Archive archive range) = IfSome range (λ range. range.0 ≤ range.1)
HasRisingRange (Inventory csv) = ⊤
