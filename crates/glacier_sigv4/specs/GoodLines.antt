-- Which key files are good, and which line is the first bad one.
use Rattle.std.specs.Prelude.{◌≡◌, ℕ, ◌+◌, ◌≤◌, ◌⊎◌, true, List, [], ◌∷◌, ◌++◌, length, map, Some}
use Rattle.glacier_sigv4.specs.declared.ring.Entry.{Entry}
use Rattle.glacier_sigv4.specs.KeyFile.{entry_of}
use Rattle.glacier_sigv4.specs.Rings.{are_apart, total_of}
use Rattle.glacier_sigv4.specs.declared.ring.TheConstants.{MOST_BLOCKS, MOST_ACCOUNTS}

-- each line is that of an entry, not too many, no two with one account or one access key, and the quotas are within bounds
pub record AreGood (lines : List (List ℕ)) (entries : List Entry) : Type 0 where
  pub each : map entry_of lines ≡ map Some entries
  pub few : length lines ≤ MOST_ACCOUNTS
  pub apart : are_apart entries ≡ true
  pub total : total_of entries ≤ MOST_BLOCKS

-- all lines are good, and there are some
abbrev pub IsKeyFile : List (List ℕ) → List Entry → Type 0
IsKeyFile lines entries = (1 ≤ length lines) × AreGood lines entries

-- the lines before this one are good, and with it they aren't
pub record IsFirstBad (lines : List (List ℕ)) (number : ℕ) : Type 0 where
  pub front : List (List ℕ)
  pub line : List ℕ
  pub rest : List (List ℕ)
  pub parts : lines ≡ front ++ line ∷ rest
  pub number_is : number ≡ length front + 1
  pub good : (entries : List Entry) × AreGood front entries
  pub bad : (entries : List Entry) → ¬ (AreGood (front ++ line ∷ []) entries)

-- there are no lines, which counts as a bad first one, or this one is the first bad one
abbrev pub IsBadLine : List (List ℕ) → ℕ → Type 0
IsBadLine lines number = ((lines ≡ []) × (number ≡ 1)) ⊎ IsFirstBad lines number
