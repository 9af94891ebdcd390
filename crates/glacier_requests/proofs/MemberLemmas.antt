-- Bodies that are JSON objects.
use Rattle.std.proofs.Common.{◌≡◌, ◌∙◌, ℕ, List, Bool, true, false, cond, Some, None, refl, ap, IsUtf8}
use Rattle.std.specs.Prelude.{is_some, option_and_then}
use Rattle.std.specs.Str.{is_utf8}
use Rattle.std.proofs.lemmas.Str.{IsUtf8-from_is_utf8, is_utf8-from_IsUtf8}
use Rattle.serde_json.specs.Data.{Data}
use Rattle.serde_json.specs.Find.{as_object}
use Rattle.serde_json.specs.Read.{read}
use Rattle.glacier_requests.specs.Members.{object_of, the_object}

false_unless : (b : Bool) → (b ≡ true → ⊥) → b ≡ false
false_unless true never = absurd (never refl)
false_unless false never = refl

-- bytes that aren't UTF-8 are no object
pub object_of-none : (text : List ℕ) → (IsUtf8 text → ⊥) → object_of text ≡ None
object_of-none text never =
    ap (λ t. cond t (option_and_then the_object (read text)) None)
    (false_unless (is_utf8 text) (λ h. never (IsUtf8-from_is_utf8 text h)))

-- a text that reads as an object is it
pub object_of-read : (text : List ℕ) (value : Data) → IsUtf8 text → read text ≡ Some value
    → is_some (as_object value) ≡ true → object_of text ≡ Some value
object_of-read text value good is object =
    ap (λ t. cond t (option_and_then the_object (read text)) None) (is_utf8-from_IsUtf8 text good)
    ∙ ap (option_and_then the_object) is ∙ ap (λ t. cond t (Some value) None) object
