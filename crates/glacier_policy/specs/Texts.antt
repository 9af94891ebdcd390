-- The texts of a member.
use Rattle.std.specs.Prelude.{ℕ, List, [], ◌∷◌, ◌++◌, Option, Some, None}
use Rattle.serde_json.specs.Data.{Data, string, array, Items, no_items, item}

-- a text added to others, and nothing of another value
abbrev pub with_text : List (List ℕ) → Data → List (List ℕ)
with_text before (string s) = before ++ s ∷ []
with_text before _ = before

-- the texts of a list, after others
abbrev pub texts_after : List (List ℕ) → Items → List (List ℕ)
texts_after before no_items = before
texts_after before (item d ds) = texts_after (with_text before d) ds

-- a text or a list of texts
abbrev pub texts_in : Data → List (List ℕ)
texts_in (string s) = s ∷ []
texts_in (array ds) = texts_after [] ds
texts_in _ = []

abbrev pub texts_of : Option Data → List (List ℕ)
texts_of None = []
texts_of (Some d) = texts_in d
