-- The lines of the replies' own fields are short.
use Rattle.std.proofs.Common.{◌≡◌, ℕ, ◌^◌, ◌<◌, ◌≤◌, List, ◌++◌, length, Option, Some, None, arith, length-append, lit<, lit≤}
use Rattle.std.specs.Prelude.{codes, decimal, IfSome}
use Rattle.std.proofs.lemmas.Fmt.{length-decimal-le}
use Rattle.hex.specs.Hex.{encode_lower}
use Rattle.glacier_base.specs.Ids.{id_text}
use Rattle.glacier_base.specs.declared.id.Id.{Id}
use Rattle.glacier_base.proofs.DigitLemmas.{length-decimals}
use Rattle.glacier_vault.specs.declared.rules.Rules.{Rules}
use Rattle.glacier_replies.specs.Fields.{content_range, HasShortFields}
use Rattle.glacier_replies.specs.JobReplies.{begun, output}
use Rattle.glacier_replies.specs.Paths.{location, item_location, archive_id, job_id}
use Rattle.glacier_replies.specs.Replies.{created, uploaded}

id_length : (id : Id) → length (id_text id) ≡ 21
id_length id = omega (arith, length-decimals 20 id.number)

module _ (account name : List ℕ) (twelve : length account ≡ 12) (short : length name ≤ 255) where
  location_is_short : length (location account name) ≤ 276
  location_is_short =
      let front : length (codes "/" ++ account ++ codes "/vaults/") ≡ 21 =
      omega (arith, twelve, length-append (codes "/" ++ account) (codes "/vaults/"), length-append (codes "/") account) in
      omega (arith, front, short, length-append (codes "/" ++ account ++ codes "/vaults/") name)

  item_is_short : (word : List ℕ) (id : Id) → length word ≤ 10 → length (item_location account name word id) ≤ 307
  item_is_short word id few =
      omega (
        arith,
        few,
        location_is_short,
        id_length id,
        length-append (location account name) word,
        length-append (location account name ++ word) (id_text id),
      )

module _ (rules : Rules) (name : List ℕ) (twelve : length rules.account ≡ 12) (short : length name ≤ 255) where
  pub created_is_short : HasShortFields (created rules name)
  created_is_short = omega (arith, location_is_short rules.account name twelve short)

  pub uploaded_is_short : (number : ℕ) (tree : List ℕ) → length (encode_lower tree) ≡ 64 → HasShortFields (uploaded rules name number tree)
  uploaded_is_short number tree digest =
      let path = item_is_short rules.account name twelve short (codes "/archives/") (archive_id number) (lit≤ tt) in
      omega (arith, path, digest, id_length (archive_id number))

  pub begun_is_short : (number : ℕ) → HasShortFields (begun rules name number)
  begun_is_short number =
      let path = item_is_short rules.account name twelve short (codes "/jobs/") (job_id number) (lit≤ tt) in
      omega (arith, path, id_length (job_id number))

decimal_is_short : (n : ℕ) → n < 2 ^ 64 → length (decimal n) ≤ 20
decimal_is_short n h = length-decimal-le 20 n (lit< tt) (omega arith) h

content_range_is_short : (range : ℕ × ℕ) (size : ℕ) → range.0 < 2 ^ 64 → range.1 < 2 ^ 64 → size < 2 ^ 64
    → length (content_range range size) ≤ 68
content_range_is_short range size first last whole =
    let first_digits = decimal_is_short range.0 first in
    let last_digits = decimal_is_short range.1 last in
    let size_digits = decimal_is_short size whole in
    let front = decimal range.0 ++ codes "-" in
    let dash = length-append (decimal range.0) (codes "-") in
    let last_place = length-append front (decimal range.1) in
    let slash = length-append (front ++ decimal range.1) (codes "/") in
    let size_place = length-append (front ++ decimal range.1 ++ codes "/") (decimal size) in
    omega (arith, first_digits, last_digits, size_digits, dash, last_place, slash, size_place)

pub output_is_short : (range : Option (ℕ × ℕ)) (size : ℕ) (tree : Option (List ℕ)) → IfSome range (λ r. (r.0 < 2 ^ 64) × (r.1 < 2 ^ 64))
    → size < 2 ^ 64 → IfSome tree (λ t. length (encode_lower t) ≡ 64) → HasShortFields (output range size tree)
output_is_short None size None numbers whole digest = omega arith
output_is_short None size (Some tree) numbers whole digest = omega (arith, digest)
output_is_short (Some range) size None numbers whole digest =
    omega (arith, content_range_is_short range size numbers.0 numbers.1 whole)
output_is_short (Some range) size (Some tree) numbers whole digest =
    omega (arith, content_range_is_short range size numbers.0 numbers.1 whole, digest)
