-- What stands at a place behind the header.
use Rattle.std.specs.Prelude.{◌≡◌, ◌≢◌, ℕ, ◌≤◌, List, ◌∷◌, ◌++◌, length}
use Rattle.glacier_journal.specs.Listed.{sized, most}

-- bytes that begin with a closed gate
abbrev pub IsClosed : List ℕ → Type 0
IsClosed bytes = (rest : List ℕ) × (bytes ≡ 0 ∷ rest)

-- bytes that begin with a record of this payload
abbrev pub BeginsWith : List ℕ → List ℕ → Type 0
BeginsWith bytes payload =
    (gate : ℕ) × (rest : List ℕ) × (gate ≢ 0) × (length payload ≤ most) × (bytes ≡ gate ∷ sized payload ++ rest)
