-- Ranges of bytes, read from their texts: `glacier_http` says what each text is.
use Rattle.std.specs.Prelude.{ℕ, List, [], ◌∷◌, Option, Some, None, option_and_then, codes, bytes_eq, nat_le, ◌==◌, if◌then◌else◌}
use Rattle.glacier_base.specs.Cuts.{cut_at}
use Rattle.glacier_http.specs.Fields.{number_of}
use Rattle.glacier_http.specs.declared.ranges.TheConstants.{MOST_DIGITS}

-- the number in 1 to 15 digits
abbrev pub place_of : List ℕ → Option ℕ
place_of text = number_of MOST_DIGITS text

-- both places, unless the first is above the last
abbrev pub in_order : ℕ → ℕ → Option (ℕ × ℕ)
in_order first last = if nat_le first last then Some (first, last) else None

abbrev pub between : Option ℕ → Option ℕ → Option (ℕ × ℕ)
between first last = option_and_then (λ a. option_and_then (in_order a) last) first

-- the range that is written `a-b`
abbrev pub range_of : List ℕ → Option (ℕ × ℕ)
range_of text = option_and_then (λ halves. between (place_of halves.0) (place_of halves.1)) (cut_at 45 text)

-- what stands behind this front
abbrev pub behind : List ℕ → List ℕ → Option (List ℕ)
behind [] text = Some text
behind (f ∷ front) [] = None
behind (f ∷ front) (b ∷ text) = if f == b then behind front text else None

-- the range that is written `bytes=a-b`
abbrev pub byte_range_of : List ℕ → Option (ℕ × ℕ)
byte_range_of text = option_and_then range_of (behind (codes "bytes=") text)

-- what stands before a slash and one star
abbrev pub before_star : List ℕ × List ℕ → Option (List ℕ)
before_star halves = if bytes_eq halves.1 (codes "*") then Some halves.0 else None

-- the range that is written `bytes a-b/*`
abbrev pub content_range_of : List ℕ → Option (ℕ × ℕ)
content_range_of text =
    option_and_then (λ rest. option_and_then (λ halves. option_and_then range_of (before_star halves)) (cut_at 47 rest))
    (behind (codes "bytes ") text)
