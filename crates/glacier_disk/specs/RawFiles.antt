-- What the calls of the system do to one file.
use Rattle.std.specs.Prelude.{◌≡◌, ◌<◌, ◌≤◌, ℕ, List, [], ◌∷◌, length, take, drop}
use Rattle.glacier_disk.specs.Image.{put}

-- n bytes of a content were read from a place on, none only at its end
pub record ReadsAt (content : List ℕ) (place : ℕ) (into : List ℕ) (n : ℕ) : Type 0 where
  pub bytes : take n into ≡ take n (drop place content)
  pub within : n ≤ length (drop place content)
  pub end : 0 < length into → n ≡ 0 → drop place content ≡ []

-- a file stays as it is
pub record SameFile {F : Type 0} (content stable : F → List ℕ) (old new : F) : Type 0 where
  pub content_stays : content new ≡ content old
  pub stable_stays : stable new ≡ stable old

-- these bytes at this place; no bytes change nothing, wherever the place is
abbrev pub overwritten : ℕ → List ℕ → List ℕ → List ℕ
overwritten place [] xs = xs
overwritten place (b ∷ bytes) xs = put place (b ∷ bytes) xs
