-- The hash that a head names for its body.
use Rattle.std.specs.Prelude.{ℕ, List, [], ◌∷◌, Option, Some, None, codes, bytes_eq, nat_lt, if◌then◌else◌}
use Rattle.sha2.specs.Sha256.{sha256}
use Rattle.glacier_base.specs.Digests.{digest_of}
use Rattle.glacier_http.specs.Fields.{values_of}
use Rattle.glacier_http.specs.View.{HeadText}
use Rattle.glacier_machine.specs.declared.content_hash.TheConstants.{MOST_BODY}
use Rattle.glacier_vault.specs.declared.refusal.Refusal.{Refusal}
use Rattle.glacier_vault.specs.declared.refusal.Refusal.TheVariants.{HashNeeded, BodyTooLong, BadHeader, ContentMismatch}

-- the name of the field
abbrev pub hash_name : List ℕ
hash_name = codes "x-amz-content-sha256"

-- the hashes that the head names
abbrev pub named_hashes : HeadText → List (List ℕ)
named_hashes head = values_of hash_name head.fields

-- the refusal of a long body whose hash isn't named
abbrev pub need_refusal : List (List ℕ) → ℕ → Option Refusal
need_refusal [] length = if nat_lt MOST_BODY length then Some (HashNeeded length) else None
need_refusal (value ∷ more) length = None

-- the refusal of a value that is no digest
abbrev pub digest_refusal : Option (List ℕ) → Option Refusal
digest_refusal None = Some (BadHeader hash_name)
digest_refusal (Some digest) = None

-- the refusal of what is named: it is one digest, or nothing
abbrev pub hash_refusal : List (List ℕ) → Option Refusal
hash_refusal [] = None
hash_refusal (value ∷ []) = digest_refusal (digest_of value)
hash_refusal (value ∷ second ∷ more) = Some (BadHeader hash_name)

-- the refusal of a body's length
abbrev pub length_refusal : ℕ → Option Refusal
length_refusal length = if nat_lt MOST_BODY length then Some (BodyTooLong length) else None

-- the refusal of a body with the first digest, where the second one is named
abbrev pub mismatch : List ℕ → Option (List ℕ) → Option Refusal
mismatch found None = None
mismatch found (Some said) = if bytes_eq found said then None else Some (ContentMismatch found said)

-- the refusal of a body that hasn't the hash that is named
abbrev pub content_refusal : List (List ℕ) → List ℕ → Option Refusal
content_refusal [] body = None
content_refusal (value ∷ more) body = mismatch (sha256 body) (digest_of value)
