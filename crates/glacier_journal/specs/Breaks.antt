-- Where an image stops being a list.
use Rattle.std.specs.Prelude.{◌≡◌, ◌≢◌, ◌⊎◌, ℕ, ◌+◌, ◌≤◌, List, [], ◌∷◌, ◌++◌, length, Option, Some, None, nat_eq, if◌then◌else◌}
use Rattle.glacier_disk.specs.declared.area.Area.{Area}
use Rattle.glacier_disk.specs.declared.area.Area.TheVariants.{Lead, Left, Right, Blobs}
use Rattle.glacier_disk.specs.Image.{Image}
use Rattle.glacier_journal.specs.Listed.{header, records, sized, most, AreOpen, Picks}

-- bytes that begin with no closed gate, and with no record that has a gate behind it
pub record IsBroken (bytes : List ℕ) : Type 0 where
  pub no_end : (rest : List ℕ) → bytes ≡ 0 ∷ rest → ⊥
  pub no_record : (gate next : ℕ) (payload rest : List ℕ) → gate ≢ 0 → length payload ≤ most
      → bytes ≡ gate ∷ sized payload ++ next ∷ rest → ⊥

-- behind the header and some records, each with a gate behind it, the bytes are broken, at this place
pub record BreaksBehind (bytes : List ℕ) (at : ℕ) : Type 0 where
  pub all : List (ℕ × List ℕ)
  pub tail : List ℕ
  pub spelled : bytes ≡ header ++ records all ++ tail
  pub are_open : AreOpen all
  pub at_is : at ≡ 16 + length (records all)
  pub gated : tail ≡ [] → all ≡ []
  pub broken : IsBroken tail

-- the bytes don't begin with the header
abbrev pub NoHeader : List ℕ → Type 0
NoHeader bytes = (rest : List ℕ) → bytes ≡ header ++ rest → ⊥

-- the first place that keeps an area's bytes from being a list
abbrev pub BreaksAt : List ℕ → ℕ → Type 0
BreaksAt bytes at = (NoHeader bytes × (at ≡ 0)) ⊎ BreaksBehind bytes at

-- the first place that keeps an image from listing anything
abbrev pub Breaks : Image → Area → ℕ → Type 0
Breaks image area at =
    ((image Lead ≡ []) × (area ≡ Lead) × (at ≡ 0)) ⊎ (Picks (image Lead) area × BreaksAt (image area) at)

-- the first of these areas that isn't empty, and its size
abbrev pub first_full : Image → List Area → Option (Area × ℕ)
first_full image [] = None
first_full image (area ∷ areas) =
    if nat_eq (length (image area)) 0 then first_full image areas else Some (area, length (image area))

-- all areas in their order
abbrev pub areas : List Area
areas = Lead ∷ Left ∷ Right ∷ Blobs ∷ []
