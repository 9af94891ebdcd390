-- The fields of replies.
use Rattle.std.specs.Prelude.{ℕ, ◌≤◌, List, [], ◌∷◌, ◌++◌, Option, Some, None, codes, decimal}
use Rattle.std.specs.List.{sum_by}
use Rattle.hex.specs.Hex.{encode_lower}
use Rattle.glacier_base.specs.Ids.{id_text}
use Rattle.glacier_base.specs.declared.id.Id.{Id}
use Rattle.glacier_http.specs.Printed.{field_room}
use Rattle.glacier_http.specs.declared.reply.Field.{Field}
use Rattle.glacier_http.specs.declared.reply.Reply.{Reply}
use Rattle.glacier_replies.specs.declared.fields.TheConstants.{MOST_FIELD_BYTES}

abbrev pub field : List ℕ → List ℕ → Field
field name value = record { name = name; value = value }

-- where something is
abbrev pub location_field : List ℕ → Field
location_field path = field (codes "Location") path

-- the id of an archive
abbrev pub archive_id_field : Id → Field
archive_id_field id = field (codes "x-amz-archive-id") (id_text id)

-- the id of a job
abbrev pub job_id_field : Id → Field
job_id_field id = field (codes "x-amz-job-id") (id_text id)

-- the tree hash of an archive, or of the bytes that are sent
abbrev pub tree_field : List ℕ → Field
tree_field tree = field (codes "x-amz-sha256-tree-hash") (encode_lower tree)

-- the same where there is one
abbrev pub tree_fields : Option (List ℕ) → List Field
tree_fields None = []
tree_fields (Some tree) = tree_field tree ∷ []

-- which bytes are sent, the first and the last, of how many (RFC 9110, section 14.4)
abbrev pub content_range : ℕ × ℕ → ℕ → List ℕ
content_range range length = codes "bytes " ++ decimal range.0 ++ codes "-" ++ decimal range.1 ++ codes "/" ++ decimal length

-- the same where a range is asked for
abbrev pub range_fields : Option (ℕ × ℕ) → ℕ → List Field
range_fields None length = []
range_fields (Some range) length = field (codes "Content-Range") (content_range range length) ∷ []

-- the lines of a reply's own fields have few bytes
abbrev pub HasShortFields : Reply → Type 0
HasShortFields reply = sum_by field_room reply.fields ≤ MOST_FIELD_BYTES
