-- The texts of moments, of digests and of ids are ASCII.
use Rattle.std.proofs.Common.{ℕ, zero, suc, ◌+◌, ◌/◌, ◌%◌, ◌<◌, ◌≤◌, List, [], ◌∷◌, refl, arith, lit<}
use Rattle.std.specs.Prelude.{IsAscii, nat_lt}
use Rattle.std.proofs.lemmas.Bool.{ltb-true}
use Rattle.std.proofs.lemmas.Str.{IsAscii-append}
use Rattle.std.proofs.lemmas.Str.Ascii.{IsAscii-nil, IsAscii-cons}
use Rattle.hex.specs.Hex.{encode_lower, lower_digits}
use Rattle.hex.proofs.HexLemmas.{IsAscii-encode_with}
use Rattle.glacier_base.specs.Calendar.{civil_of}
use Rattle.glacier_base.specs.Civil.{IsSmall}
use Rattle.glacier_base.specs.Dates.{basic_of, basic_shown, iso_of, iso_shown}
use Rattle.glacier_base.specs.Digits.{decimals}
use Rattle.glacier_base.specs.Ids.{letter_of, id_text}
use Rattle.glacier_base.specs.declared.civil.CivilTime.{CivilTime}
use Rattle.glacier_base.specs.declared.id.Id.{Id}
use Rattle.glacier_base.specs.declared.id.IdKind.{IdKind}
use Rattle.glacier_base.specs.declared.id.IdKind.TheVariants.{Archive, Upload, Job, Lock}
use Rattle.glacier_base.specs.declared.moment.TheConstants.{LAST_MOMENT}
use Rattle.glacier_base.proofs.CivilExists.{exists}
use Rattle.glacier_base.proofs.OneShown.{small}
use Rattle.glacier_replies.proofs.NameLemmas.{ascii_by}

-- the bytes are ASCII
record HasAscii (bytes : List ℕ) : Type 0 where
  bytes_small : IsAscii bytes

before : (b : ℕ) (bytes : List ℕ) → b < 128 → HasAscii bytes → HasAscii (b ∷ bytes)
before b bytes small rest = record { bytes_small = IsAscii-cons b bytes small rest.bytes_small }

-- two digits before an ASCII text
two : (n : ℕ) (rest : List ℕ) → n < 100 → HasAscii rest → HasAscii ((48 + n / 10) ∷ (48 + n % 10) ∷ rest)
two n rest h ascii = before (48 + n / 10) _ (omega (arith, h)) (before (48 + n % 10) _ (omega arith) ascii)

shown_is_ascii : (t : CivilTime) → IsSmall t → HasAscii (iso_shown t)
shown_is_ascii t s =
    two (t.year / 100) _ (omega (arith, s.year)) (two (t.year % 100) _ (omega arith) (before 45 _ (lit< tt)
    (two t.month _ s.month (before 45 _ (lit< tt)
    (two t.day _ s.day (before 84 _ (lit< tt)
    (two t.hour _ s.hour (before 58 _ (lit< tt)
    (two t.minute _ s.minute (before 58 _ (lit< tt)
    (two t.second _ s.second
    (before 46 _ (lit< tt) (before 48 _ (lit< tt) (before 48 _ (lit< tt)
    (before 48 _ (lit< tt) (before 90 _ (lit< tt) (record { bytes_small = IsAscii-nil })))))))))))))))))

basic_shown_is_ascii : (t : CivilTime) → IsSmall t → HasAscii (basic_shown t)
basic_shown_is_ascii t s =
    two (t.year / 100) _ (omega (arith, s.year)) (two (t.year % 100) _ (omega arith)
    (two t.month _ s.month (two t.day _ s.day (before 84 _ (lit< tt)
    (two t.hour _ s.hour (two t.minute _ s.minute (two t.second _ s.second
    (before 90 _ (lit< tt) (record { bytes_small = IsAscii-nil })))))))))

pub iso_is_ascii : (moment : ℕ) → moment ≤ LAST_MOMENT → IsAscii (iso_of moment)
iso_is_ascii moment h =
    (shown_is_ascii (civil_of moment) (small moment (civil_of moment) (exists moment h))).bytes_small

pub basic_is_ascii : (moment : ℕ) → moment ≤ LAST_MOMENT → IsAscii (basic_of moment)
basic_is_ascii moment h =
    (basic_shown_is_ascii (civil_of moment) (small moment (civil_of moment) (exists moment h))).bytes_small

lower_digits_are_ascii : IsAscii lower_digits
lower_digits_are_ascii = ascii_by (λ b. nat_lt b 128) (λ b h. ltb-true b 128 h) lower_digits refl

pub hex_is_ascii : (bytes : List ℕ) → IsAscii (encode_lower bytes)
hex_is_ascii bytes = IsAscii-encode_with lower_digits bytes lower_digits_are_ascii

decimals_are_ascii : (count n : ℕ) → IsAscii (decimals count n)
unfolding decimals
decimals_are_ascii zero n = IsAscii-nil
decimals_are_ascii (suc count) n =
    IsAscii-append (decimals count (n / 10)) ((48 + n % 10) ∷ []) (decimals_are_ascii count (n / 10))
    (IsAscii-cons (48 + n % 10) [] (omega arith) IsAscii-nil)

letter_is_ascii : (kind : IdKind) → letter_of kind < 128
letter_is_ascii Archive = lit< tt
letter_is_ascii Upload = lit< tt
letter_is_ascii Job = lit< tt
letter_is_ascii Lock = lit< tt

pub id_is_ascii : (id : Id) → IsAscii (id_text id)
id_is_ascii id =
    IsAscii-cons (letter_of id.kind) (decimals 20 id.number) (letter_is_ascii id.kind) (decimals_are_ascii 20 id.number)
