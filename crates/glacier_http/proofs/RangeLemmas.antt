-- Texts that say a range of bytes.
use Rattle.std.proofs.Common.{◌≡◌, ◌≢◌, ℕ, ◌+◌, ◌<◌, ◌≤◌, ◌^◌, Bool, true, false, cond, eqb, List, [], ◌∷◌, ◌++◌, length, drop, Option, Some, None, refl, sym, ap, subst, ◌∙◌, arith, rules}
use Rattle.std.specs.Prelude.{codes, option_map, MatchOption}
use Rattle.std.specs.List.{list_all}
use Rattle.std.specs.Char.{is_ascii_digit}
use Rattle.std.specs.Str.Parse.{digits_value}
use Rattle.std.proofs.lemmas.Bool.{eqb-true}
use Rattle.std.proofs.lemmas.Int.Digits.{digits_value-lt}
use Rattle.std.proofs.lemmas.List.{append_cancel_right}
use Rattle.std.proofs.lemmas.Str.Parse.{IsDigitsTest, numerals_by_value}
use Rattle.std.proofs.lemmas.Bool.Decides.{nat_tests}
use Rattle.glacier_base.specs.Cuts.{cut_at, begun}
use Rattle.glacier_base.specs.Digits.{decimals}
use Rattle.glacier_base.specs.Names.{is_digit}
use Rattle.glacier_base.proofs.DigitLemmas.{decimals-digits_value, digits_value-decimals, list_all-decimals}
use Rattle.glacier_base.proofs.LackLemmas.{lacks, lacks_from, cut_behind}
use Rattle.glacier_http.specs.Fields.{number_of}
use Rattle.glacier_http.specs.Ranges.{Finds, IsNumber, IsRange, IsByteRange, IsContentRange}
use Rattle.glacier_http.specs.declared.ranges.TheConstants.{MOST_DIGITS}

-- a cut text is its parts with the separator between them
pub cut_joins : (separator : ℕ) (text : List ℕ) (parts : List ℕ × List ℕ) → cut_at separator text ≡ Some parts
    → text ≡ parts.0 ++ separator ∷ parts.1
cut_joins separator [] parts is = cc
cut_joins separator (b ∷ text) parts is = go (eqb b separator) refl is (cut_at separator text) refl (cut_joins separator text)
  where
    go : (t : Bool) → eqb b separator ≡ t → cond t (Some ([], text)) (option_map (begun b) (cut_at separator text)) ≡ Some parts
        → (c : Option (List ℕ × List ℕ)) → cut_at separator text ≡ c
        → ((found : List ℕ × List ℕ) → cut_at separator text ≡ Some found → text ≡ found.0 ++ separator ∷ found.1)
        → b ∷ text ≡ parts.0 ++ separator ∷ parts.1
    go true same is c cut rec =
        let parts_are : ([], text) ≡ parts = cc in
        subst (λ (p : List ℕ × List ℕ). b ∷ text ≡ p.0 ++ separator ∷ p.1) parts_are (ap (λ (x : ℕ). x ∷ text) (eqb-true b separator same))
    go false other is None cut rec = let clash : None ≡ Some parts = sym (ap (option_map (begun b)) cut) ∙ is in cc
    go false other is (Some found) cut rec =
        let parts_are : begun b found ≡ parts = (let inner : Some (begun b found) ≡ Some parts = sym (ap (option_map (begun b)) cut) ∙ is in cc) in
        subst (λ (p : List ℕ × List ℕ). b ∷ text ≡ p.0 ++ separator ∷ p.1) parts_are (ap (λ (l : List ℕ). b ∷ l) (rec found cut))

-- the digits of ASCII are those
digits_are : (text : List ℕ) → list_all is_ascii_digit text ≡ list_all is_digit text
digits_are [] = refl
digits_are (b ∷ text) = rw (digits_are text) refl

digits_test : IsDigitsTest (λ ds. list_all is_ascii_digit ds ≡ true)
digits_test = search rules

-- what is read as a number is one, and each number is read
pub number_is : (text : List ℕ) (n : ℕ) → number_of MOST_DIGITS text ≡ Some n → IsNumber text n
number_is text n is =
    let digits : list_all is_ascii_digit text ≡ true = grind (arith, nat_tests) in
    let value : digits_value 10 text ≡ n = grind (arith, nat_tests) in
    let numerals = numerals_by_value (λ ds. list_all is_ascii_digit ds ≡ true) digits_test in
    record {
      some = grind (arith, nat_tests);
      few = grind (arith, nat_tests);
      fits = subst (λ (k : ℕ). k < 10 ^ length text) value (digits_value-lt 10 text (numerals.to text digits));
      digits = subst (λ (k : ℕ). text ≡ decimals (length text) k) value (sym (decimals-digits_value text (sym (digits_are text) ∙ digits)));
    }

number_digits : (text : List ℕ) (n : ℕ) → IsNumber text n → list_all is_digit text ≡ true
number_digits text n is = subst (λ (l : List ℕ). list_all is_digit l ≡ true) (sym is.digits) (list_all-decimals (length text) n)

pub number_back : (text : List ℕ) (n : ℕ) → IsNumber text n → number_of MOST_DIGITS text ≡ Some n
number_back text n is =
    let digits : list_all is_ascii_digit text ≡ true = digits_are text ∙ number_digits text n is in
    let value : digits_value 10 text ≡ n =
    subst (λ (l : List ℕ). digits_value 10 l ≡ n) (sym is.digits) (digits_value-decimals (length text) n is.fits) in
    grind (arith, nat_tests, digits, value, is.some, is.few)

module _ (text : List ℕ) where
  -- a range is cut at its dash, and its parts are its numbers
  range_cut : (range : ℕ × ℕ) (is : IsRange text range) → cut_at 45 text ≡ Some (is.first, is.last)
  range_cut range is =
      let lack = lacks_from is_digit 45 refl is.first (number_digits is.first range.0 is.first_is) in
      subst (λ (l : List ℕ). cut_at 45 l ≡ Some (is.first, is.last)) (sym is.parts) (cut_behind 45 is.first is.last lack)

  pub no_dash : cut_at 45 text ≡ None → (range : ℕ × ℕ) → ¬ (IsRange text range)
  no_dash uncut range is = let cut = range_cut range is in cc

  module _ (parts : List ℕ × List ℕ) (cut : cut_at 45 text ≡ Some parts) where
    pub range_numbers : (range : ℕ × ℕ) → IsRange text range
        → (number_of MOST_DIGITS parts.0 ≡ Some range.0) × (number_of MOST_DIGITS parts.1 ≡ Some range.1)
    range_numbers range is =
        let same : (is.first, is.last) ≡ parts = (let at = range_cut range is in cc) in
        subst (λ (p : List ℕ × List ℕ). (number_of MOST_DIGITS p.0 ≡ Some range.0) × (number_of MOST_DIGITS p.1 ≡ Some range.1)) same
        (number_back is.first range.0 is.first_is, number_back is.last range.1 is.last_is)

    pub range_is : (range : ℕ × ℕ) → number_of MOST_DIGITS parts.0 ≡ Some range.0 → number_of MOST_DIGITS parts.1 ≡ Some range.1
        → range.0 ≤ range.1 → IsRange text range
    range_is range first last ordered = record {
      first = parts.0;
      last = parts.1;
      parts = cut_joins 45 text parts cut;
      first_is = number_is parts.0 range.0 first;
      last_is = number_is parts.1 range.1 last;
      ordered = ordered;
    }

    pub no_first : number_of MOST_DIGITS parts.0 ≡ None → (range : ℕ × ℕ) → ¬ (IsRange text range)
    no_first lacking range is = let clash : None ≡ Some range.0 = sym lacking ∙ (range_numbers range is).0 in cc

    pub no_last : number_of MOST_DIGITS parts.1 ≡ None → (range : ℕ × ℕ) → ¬ (IsRange text range)
    no_last lacking range is = let clash : None ≡ Some range.1 = sym lacking ∙ (range_numbers range is).1 in cc

    module _ (found : ℕ × ℕ) (first : number_of MOST_DIGITS parts.0 ≡ Some found.0) (last : number_of MOST_DIGITS parts.1 ≡ Some found.1) where
      -- the numbers of its parts are its own
      range_found : (range : ℕ × ℕ) → IsRange text range → found ≡ range
      range_found range is =
          let begin : found.0 ≡ range.0 = (let same : Some found.0 ≡ Some range.0 = sym first ∙ (range_numbers range is).0 in cc) in
          let end : found.1 ≡ range.1 = (let same : Some found.1 ≡ Some range.1 = sym last ∙ (range_numbers range is).1 in cc) in
          λ i. (begin i, end i)

      pub disordered : found.1 < found.0 → (range : ℕ × ℕ) → ¬ (IsRange text range)
      disordered less range is =
          let same = range_found range is in
          omega (arith, less, is.ordered, ap (λ (r : ℕ × ℕ). r.0) same, ap (λ (r : ℕ × ℕ). r.1) same)

      pub finds_range : found.0 ≤ found.1 → Finds (IsRange text) (Some found)
      finds_range ordered =
          let says = range_is found first last ordered in
          record {
            said = λ range. ((λ is. let same : found ≡ range = cc in subst (IsRange text) same says), λ is. ap Some (range_found range is));
            none = ((λ is. absurd (cc)), λ nothing. absurd (nothing found says));
          }

-- a text says one range at most
pub one_range : (text : List ℕ) (a b : ℕ × ℕ) → IsRange text a → IsRange text b → a ≡ b
one_range text a b first second =
    let cut = range_cut text a first in
    let x = range_numbers text (first.first, first.last) cut a first in
    range_found text (first.first, first.last) cut a x.0 x.1 b second

-- where nothing is said, nothing is found
pub finds_none : (Says : ℕ × ℕ → Type 0) → ((range : ℕ × ℕ) → ¬ (Says range)) → Finds Says None
finds_none Says nothing = record {
  said = λ range. ((λ is. absurd (cc)), λ says. absurd (nothing range says));
  none = ((λ _. nothing), λ _. refl);
}

-- the same is found where the same is said
pub finds_same : (Says Tells : ℕ × ℕ → Type 0) (answer : Option (ℕ × ℕ)) → ((range : ℕ × ℕ) → Says range → Tells range)
    → ((range : ℕ × ℕ) → Tells range → Says range) → Finds Says answer → Finds Tells answer
finds_same Says Tells answer to back finds = record {
  said = λ range. ((λ is. to range ((finds.said range).0 is)), λ tells. (finds.said range).1 (back range tells));
  none = ((λ is range tells. finds.none.0 is range (back range tells)), λ nothing. finds.none.1 (λ range says. nothing range (to range says)));
}

-- a range of a field, in front of which the unit stands
pub byte_range_of : (text places : List ℕ) → text ≡ codes "bytes=" ++ places → (range : ℕ × ℕ) → IsByteRange text range
    → IsRange places range
byte_range_of text places is range (other, is_other, said) =
    let same : other ≡ places = ap (drop 6) (sym is_other ∙ is) in
    subst (λ (l : List ℕ). IsRange l range) same said

pub content_range_of : (text places : List ℕ) → text ≡ codes "bytes " ++ (places ++ codes "/*") → (range : ℕ × ℕ)
    → IsContentRange text range → IsRange places range
content_range_of text places is range (other, is_other, said) =
    let same : other ≡ places = append_cancel_right other places (codes "/*") (ap (drop 6) (sym is_other ∙ is)) in
    subst (λ (l : List ℕ). IsRange l range) same said

-- so does a field
pub one_byte_range : (text : List ℕ) (a b : ℕ × ℕ) → IsByteRange text a → IsByteRange text b → a ≡ b
one_byte_range text a b first second = one_range first.0 a b first.2 (byte_range_of text first.0 first.1 b second)

pub one_content_range : (text : List ℕ) (a b : ℕ × ℕ) → IsContentRange text a → IsContentRange text b → a ≡ b
one_content_range text a b first second = one_range first.0 a b first.2 (content_range_of text first.0 first.1 b second)
