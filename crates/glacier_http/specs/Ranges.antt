-- Ranges of bytes, as texts say them by their first and last byte (RFC 9110, section 14).
use Rattle.std.specs.Prelude.{◌≡◌, ◌↔◌, ◌<◌, ◌≤◌, ◌^◌, ℕ, List, ◌++◌, length, codes, Option, Some, None}
use Rattle.glacier_base.specs.Digits.{decimals}
use Rattle.glacier_http.specs.declared.ranges.TheConstants.{MOST_DIGITS}

-- the text is the number in 1 to 15 decimal digits, as many as it has bytes: zeros may stand in front
pub record IsNumber (text : List ℕ) (n : ℕ) : Type 0 where
  pub some : 0 < length text
  pub few : length text ≤ MOST_DIGITS
  pub fits : n < 10 ^ length text
  pub digits : text ≡ decimals (length text) n

-- the text is `a-b`: the first byte, a dash, and the last byte, which isn't below the first
pub record IsRange (text : List ℕ) (range : ℕ × ℕ) : Type 0 where
  pub first : List ℕ
  pub last : List ℕ
  pub parts : text ≡ first ++ (codes "-" ++ last)
  pub first_is : IsNumber first range.0
  pub last_is : IsNumber last range.1
  pub ordered : range.0 ≤ range.1

-- the text is `bytes=a-b`
abbrev pub IsByteRange : List ℕ → ℕ × ℕ → Type 0
IsByteRange text range = (places : List ℕ) × (text ≡ codes "bytes=" ++ places) × IsRange places range

-- the text is `bytes a-b/*`
abbrev pub IsContentRange : List ℕ → ℕ × ℕ → Type 0
IsContentRange text range = (places : List ℕ) × (text ≡ codes "bytes " ++ (places ++ codes "/*")) × IsRange places range

-- the answer is the range that is said, and none exactly where none is said
pub record Finds (Says : ℕ × ℕ → Type 0) (answer : Option (ℕ × ℕ)) : Type 0 where
  pub said : (range : ℕ × ℕ) → (answer ≡ Some range) ↔ Says range
  pub none : (answer ≡ None) ↔ ((range : ℕ × ℕ) → ¬ (Says range))
