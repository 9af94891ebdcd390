-- A basic text gives back its moment.
use Rattle.std.proofs.Common.{◌≡◌, ◌∙◌, ℕ, zero, suc, ◌+◌, ◌-◌, ◌/◌, ◌%◌, ◌<◌, ◌≤◌, ◌≢◌, Bool, true, false, cond, List, length, Option, Some, None, IfSome, IfNone, inl, inr, arith, refl, sym, ap, subst}
use Rattle.std.specs.Prelude.{◌&&◌, bytes_eq, nat_le}
use Rattle.std.specs.Cmp.Lexicographic.{nat_list_eq_equiv}
use Rattle.std.specs.Str.Parse.{digits_value}
use Rattle.std.proofs.lemmas.Bool.{cases_lt, and_parts}
use Rattle.std.proofs.lemmas.Bool.Decides.{nat_tests}
use Rattle.std.proofs.lemmas.Slice.Eq.{bytes_eq-Decides}
use Rattle.httpdate.specs.Calendar.{days_in_year, days_in_month, seconds_from_civil}
use Rattle.httpdate.specs.Text.{two_digits, four_digits}
use Rattle.glacier_base.specs.Calendar.{civil_of, year_from, month_from}
use Rattle.glacier_base.specs.Civil.{IsSmall}
use Rattle.glacier_base.specs.Dates.{basic_shown, basic_of, basic_seconds, moment_with, basic_moment}
use Rattle.glacier_base.specs.declared.civil.CivilTime.{CivilTime}
use Rattle.glacier_base.specs.declared.moment.TheConstants.{LAST_MOMENT}
use Rattle.glacier_base.proofs.CivilExists.{exists}
use Rattle.glacier_base.proofs.CivilFound.{span, span-zero, span-suc, month_span, month_span-zero, month_span-suc, year_stops, year_goes, month_stops, month_goes}
use Rattle.glacier_base.proofs.DigitLemmas.{digit_value-digit}
use Rattle.glacier_base.proofs.HttpFound.{years_are, months_are}
use Rattle.glacier_base.proofs.OneShown.{small}

-- the year and the days that are found make up the days
record IsYearOf (y d : ℕ) (at : ℕ × ℕ) : Type 0 where
  late : y ≤ at.0
  sum : span (at.0 - y) y + at.1 ≡ d

year_here : (y d : ℕ) → IsYearOf y d (y, d)
year_here y d =
    let none : y - y ≡ 0 = omega arith in
    record { late = omega arith; sum = rw none (omega (arith, span-zero y)) }

year_from-sum : (n y d : ℕ) → IsYearOf y d (year_from n y d)
unfolding year_from
year_from-sum zero y d = year_here y d
year_from-sum (suc n) y d = elim (cases_lt d (days_in_year y)) [
  | inl lt ↦ subst (IsYearOf y d) (sym (year_stops n y d lt)) (year_here y d)
  | inr ge ↦ subst (IsYearOf y d) (sym (year_goes n y d ge)) (later (year_from n (suc y) (d - days_in_year y)) ge (year_from-sum n (suc y) (d - days_in_year y)))
]
  where
    later : (at : ℕ × ℕ) → days_in_year y ≤ d → IsYearOf (suc y) (d - days_in_year y) at → IsYearOf y d at
    later at ge next =
        let count : at.0 - y ≡ suc (at.0 - suc y) = omega (arith, next.late) in
        record { late = omega (arith, next.late); sum = rw count (omega (arith, span-suc (at.0 - suc y) y, next.sum)) }

-- the month and the days that are found make up the days
record IsMonthOf (y m d : ℕ) (at : ℕ × ℕ) : Type 0 where
  late : m ≤ at.0
  sum : month_span (at.0 - m) y m + at.1 ≡ d

month_here : (y m d : ℕ) → IsMonthOf y m d (m, d)
month_here y m d =
    let none : m - m ≡ 0 = omega arith in
    record { late = omega arith; sum = rw none (omega (arith, month_span-zero y m)) }

month_from-sum : (n y m d : ℕ) → IsMonthOf y m d (month_from n y m d)
unfolding month_from
month_from-sum zero y m d = month_here y m d
month_from-sum (suc n) y m d = elim (cases_lt d (days_in_month y m)) [
  | inl lt ↦ subst (IsMonthOf y m d) (sym (month_stops n y m d lt)) (month_here y m d)
  | inr ge ↦ subst (IsMonthOf y m d) (sym (month_goes n y m d ge)) (later (month_from n y (suc m) (d - days_in_month y m)) ge (month_from-sum n y (suc m) (d - days_in_month y m)))
]
  where
    later : (at : ℕ × ℕ) → days_in_month y m ≤ d → IsMonthOf y (suc m) (d - days_in_month y m) at → IsMonthOf y m d at
    later at ge next =
        let count : at.0 - m ≡ suc (at.0 - suc m) = omega (arith, next.late) in
        record { late = omega (arith, next.late); sum = rw count (omega (arith, month_span-suc (at.0 - suc m) y m, next.sum)) }

-- what a clock shows at a moment, counted back
abbrev seconds_of : CivilTime → ℕ
seconds_of t = seconds_from_civil t.year t.month t.day t.hour t.minute t.second

seconds_of-civil_of : (s : ℕ) → seconds_of (civil_of s) ≡ s
unfolding civil_of
seconds_of-civil_of s =
    let year = year_from 8030 1970 (s / 86400) in
    let years = year_from-sum 8030 1970 (s / 86400) in
    let months = month_from-sum 12 year.0 1 year.1 in
    omega (arith, years.sum, months.sum, years_are (year.0 - 1970), months_are ((month_from 12 year.0 1 year.1).0 - 1) year.0)

two_value : (n : ℕ) → n < 100 → digits_value 10 (two_digits n) ≡ n
two_value n small = omega (arith, digit_value-digit (n / 10) (omega arith), digit_value-digit (n % 10) (omega arith))

four_value : (n : ℕ) → n < 10000 → digits_value 10 (four_digits n) ≡ n
four_value n small = omega (
  arith,
  digit_value-digit (n / 100 / 10) (omega arith),
  digit_value-digit (n / 100 % 10) (omega arith),
  digit_value-digit (n % 100 / 10) (omega arith),
  digit_value-digit (n % 100 % 10) (omega arith),
)

basic_seconds-shown : (t : CivilTime) → IsSmall t → basic_seconds (basic_shown t) ≡ seconds_of t
basic_seconds-shown t is =
    rw (four_value t.year is.year, two_value t.month is.month, two_value t.day is.day, two_value t.hour is.hour, two_value t.minute is.minute, two_value t.second is.second) refl

-- the text of a moment is read as it
pub shown_is_read : (s : ℕ) (text : List ℕ) → s ≤ LAST_MOMENT → basic_of s ≡ text → basic_moment text ≡ Some s
shown_is_read s text le is =
    let same : basic_seconds (basic_of s) ≡ s = basic_seconds-shown (civil_of s) (small s (civil_of s) (exists s le)) ∙ seconds_of-civil_of s in
    ap basic_moment (sym is) ∙ ap (moment_with (basic_of s)) same ∙ grind (arith, nat_tests, le, nat_list_eq_equiv.refl (basic_of s))

-- a moment that is read has this text
pub read_is_shown : (s : ℕ) (text : List ℕ) → basic_moment text ≡ Some s → (s ≤ LAST_MOMENT) × (basic_of s ≡ text)
read_is_shown s text is = go (basic_seconds text) is
  where
    passed : (test : Bool) (m : ℕ) → cond test (Some m) None ≡ Some s → (test ≡ true) × (m ≡ s)
    passed true m found = (refl, cc)
    passed false m found = cc

    go : (m : ℕ) → moment_with text m ≡ Some s → (s ≤ LAST_MOMENT) × (basic_of s ≡ text)
    go m found =
        let tests = passed (nat_le m LAST_MOMENT && bytes_eq (basic_of m) text) m found in
        let parts = and_parts (nat_le m LAST_MOMENT) (bytes_eq (basic_of m) text) tests.0 in
        let in_range : m ≤ LAST_MOMENT = grind (arith, nat_tests, parts.0) in
        let is_text = (bytes_eq-Decides (basic_of m) text).0 parts.1 in
        subst (λ (k : ℕ). (k ≤ LAST_MOMENT) × (basic_of k ≡ text)) tests.1 (in_range, is_text)

-- nothing is read where no moment has this text
pub none_is_read : (text : List ℕ) → ((s : ℕ) → s ≤ LAST_MOMENT → basic_of s ≡ text → ⊥) → basic_moment text ≡ None
none_is_read text none = go (basic_moment text) refl
  where
    go : (o : Option ℕ) → basic_moment text ≡ o → o ≡ None
    go None is = refl
    go (Some s) is = let shown = read_is_shown s text is in absurd (none s shown.0 shown.1)

-- a text of another length is no moment's
pub other_length : (text : List ℕ) → length text ≢ 16 → basic_moment text ≡ None
other_length text other = none_is_read text (λ s le is. other (ap length (sym is)))

-- what is found is what is read
pub found_is_read : (found : Option ℕ) (text : List ℕ) → IfSome found (λ s. s ≤ LAST_MOMENT) → IfSome found (λ s. basic_of s ≡ text)
    → IfNone found ((s : ℕ) → s ≤ LAST_MOMENT → basic_of s ≡ text → ⊥) → found ≡ basic_moment text
found_is_read None text le is none = sym (none_is_read text none)
found_is_read (Some s) text le is none = sym (shown_is_read s text le is)
