-- What the heads of an upload in parts say, and of an output.
use Rattle.std.specs.Prelude.{ℕ, ◌+◌, ◌-◌, ◌==◌, List, [], ◌∷◌, Option, Some, None, Result, Ok, Err, codes, nat_le, if◌then◌else◌}
use Rattle.glacier_http.specs.Fields.{number_of, values_of}
use Rattle.glacier_http.specs.View.{HeadText}
use Rattle.glacier_http.specs.declared.ranges.TheConstants.{MOST_DIGITS}
use Rattle.glacier_requests.specs.Ranges.{byte_range_of, content_range_of}
use Rattle.glacier_requests.specs.Reads.{and_then, or_else}
use Rattle.glacier_requests.specs.Uploads.{digest_under, description_under}
use Rattle.glacier_requests.specs.declared.parts.CompletionHead.{CompletionHead}
use Rattle.glacier_requests.specs.declared.parts.PartHead.{PartHead}
use Rattle.glacier_requests.specs.declared.parts.PartsHead.{PartsHead}
use Rattle.glacier_requests.specs.declared.parts.TheConstants.{OUTSIDE}
use Rattle.glacier_vault.specs.declared.refusal.Refusal.{Refusal}
use Rattle.glacier_vault.specs.declared.refusal.Refusal.TheVariants.{MissingHeader, BadHeader, BadPartSize, BadRange}

-- the number in 1 to 15 digits
abbrev pub size_of : List ℕ → Option ℕ
size_of text = number_of MOST_DIGITS text

-- the size of the parts that the values of its header name
abbrev pub part_size_in : List (List ℕ) → Result ℕ Refusal
part_size_in [] = Err (MissingHeader (codes "x-amz-part-size"))
part_size_in (value ∷ []) = or_else BadPartSize (size_of value)
part_size_in (value ∷ second ∷ more) = Err BadPartSize

-- what the head says that begins an upload in parts
abbrev pub parts_head_of : HeadText → Result PartsHead Refusal
parts_head_of head =
    and_then (description_under head) (λ description.
    and_then (part_size_in (values_of (codes "x-amz-part-size") head.fields)) (λ part_size.
    Ok (record { description = description; part_size = part_size })))

-- the first byte of a range of this length
abbrev pub first_of : ℕ → Option (ℕ × ℕ) → Result ℕ Refusal
first_of length None = Err BadRange
first_of length (Some range) = if range.1 - range.0 + 1 == length then Ok range.0 else Err BadRange

-- the first byte of the range that the values of its header name, whose length is the body's
abbrev pub first_in : ℕ → List (List ℕ) → Result ℕ Refusal
first_in length [] = Err (MissingHeader (codes "Content-Range"))
first_in length (value ∷ []) = first_of length (content_range_of value)
first_in length (value ∷ second ∷ more) = Err BadRange

-- what the head of a part with a body of this length says
abbrev pub part_head_of : HeadText → ℕ → Result PartHead Refusal
part_head_of head length =
    and_then (digest_under (codes "x-amz-content-sha256") head) (λ linear.
    and_then (digest_under (codes "x-amz-sha256-tree-hash") head) (λ tree.
    and_then (first_in length (values_of (codes "Content-Range") head.fields)) (λ first.
    Ok (record { linear = linear; tree = tree; first = first; size = length }))))

abbrev pub size_name : List ℕ
size_name = codes "x-amz-archive-size"

-- a size of at least 1
abbrev pub some_size : Option ℕ → Result ℕ Refusal
some_size None = Err (BadHeader size_name)
some_size (Some size) = if nat_le 1 size then Ok size else Err (BadHeader size_name)

abbrev pub archive_size_in : List (List ℕ) → Result ℕ Refusal
archive_size_in [] = Err (MissingHeader size_name)
archive_size_in (value ∷ []) = some_size (size_of value)
archive_size_in (value ∷ second ∷ more) = Err (BadHeader size_name)

-- what the head says that completes an upload in parts
abbrev pub completion_head_of : HeadText → Result CompletionHead Refusal
completion_head_of head =
    and_then (archive_size_in (values_of size_name head.fields)) (λ size.
    and_then (digest_under (codes "x-amz-sha256-tree-hash") head) (λ tree.
    Ok (record { size = size; tree = tree })))

-- a range that no output has
abbrev pub outside : ℕ × ℕ
outside = (OUTSIDE, OUTSIDE)

abbrev pub range_or_outside : Option (ℕ × ℕ) → ℕ × ℕ
range_or_outside None = outside
range_or_outside (Some range) = range

-- the range that the values of a Range header ask for: one that is repeated or says no range lies outside
abbrev pub range_in_values : List (List ℕ) → Option (ℕ × ℕ)
range_in_values [] = None
range_in_values (value ∷ []) = Some (range_or_outside (byte_range_of value))
range_in_values (value ∷ second ∷ more) = Some outside

abbrev pub output_range_of : HeadText → Option (ℕ × ℕ)
output_range_of head = range_in_values (values_of (codes "Range") head.fields)
