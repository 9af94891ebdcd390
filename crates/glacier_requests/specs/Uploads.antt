-- What the head of an upload says.
use Rattle.std.specs.Prelude.{ℕ, List, [], ◌∷◌, Result, Ok, Err, codes}
use Rattle.glacier_base.specs.Digests.{digest_of}
use Rattle.glacier_base.specs.Names.{is_description, where_rule}
use Rattle.glacier_http.specs.Fields.{values_of}
use Rattle.glacier_http.specs.View.{HeadText}
use Rattle.glacier_requests.specs.Reads.{and_then, or_else}
use Rattle.glacier_requests.specs.declared.uploads.UploadHead.{UploadHead}
use Rattle.glacier_vault.specs.declared.refusal.Refusal.{Refusal}
use Rattle.glacier_vault.specs.declared.refusal.Refusal.TheVariants.{MissingHeader, BadHeader}

-- the digest that the values of a header name: one value that is a digest
abbrev pub one_digest : List ℕ → List (List ℕ) → Result (List ℕ) Refusal
one_digest name [] = Err (MissingHeader name)
one_digest name (value ∷ []) = or_else (BadHeader name) (digest_of value)
one_digest name (value ∷ second ∷ more) = Err (BadHeader name)

-- the digest under a header's name
abbrev pub digest_under : List ℕ → HeadText → Result (List ℕ) Refusal
digest_under name head = one_digest name (values_of name head.fields)

abbrev pub description_name : List ℕ
description_name = codes "x-amz-archive-description"

-- the description that the values of its header are: empty where there is none
abbrev pub one_description : List (List ℕ) → Result (List ℕ) Refusal
one_description [] = Ok []
one_description (value ∷ []) = or_else (BadHeader description_name) (where_rule is_description value)
one_description (value ∷ second ∷ more) = Err (BadHeader description_name)

abbrev pub description_under : HeadText → Result (List ℕ) Refusal
description_under head = one_description (values_of description_name head.fields)

-- what the head of an upload says, or its first refusal
abbrev pub upload_head_of : HeadText → Result UploadHead Refusal
upload_head_of head =
    and_then (digest_under (codes "x-amz-content-sha256") head) (λ linear.
    and_then (digest_under (codes "x-amz-sha256-tree-hash") head) (λ tree.
    and_then (description_under head) (λ description.
    Ok (record { linear = linear; tree = tree; description = description }))))
