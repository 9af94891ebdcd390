-- How values are spelled in bytes, and codecs made of others.
use Rattle.std.specs.Prelude.{◌≡◌, ◌⊎◌, ◌<◌, ◌*◌, ◌^◌, ◌==◌, ℕ, zero, suc, Bool, IsTrue, List, [], ◌∷◌, ◌++◌, length, take, drop, flat_map, Option, Some, None, nat_lt, if◌then◌else◌}
use Rattle.std.proofs.Common.{inl, inr}
use Rattle.std.specs.Int.{Width, w8, byte_len, to_be_bytes, from_be_bytes}
use Rattle.std.specs.List.{AllByRecursion}

-- what is done with a value that may be missing
infixl 10 ◌>>=◌
abbrev pub ◌>>=◌ : {A B : Type 0} → Option A → (A → Option B) → Option B
None >>= next = None
(Some x) >>= next = next x

-- which values have a spelling, their spelling, and the value at the front of bytes with the bytes behind it
pub record Codec (X : Type 0) : Type 1 where
  pub Fits : X → Type 0
  pub spell : X → List ℕ
  pub read : List ℕ → Option (X × List ℕ)

-- so many bytes
abbrev pub exactly : ℕ → Codec (List ℕ)
exactly count = record {
  Fits = λ bytes. length bytes ≡ count;
  spell = λ bytes. bytes;
  read = λ bytes. if nat_lt (length bytes) count then None else Some (take count bytes, drop count bytes);
}

-- a number of this width, its highest byte first
abbrev pub number : Width → Codec ℕ
number w = record {
  Fits = λ n. n < 2 ^ (8 * byte_len w);
  spell = λ n. to_be_bytes w n;
  read = λ bytes. if nat_lt (length bytes) (byte_len w) then None else Some (from_be_bytes w (take (byte_len w) bytes), drop (byte_len w) bytes);
}

-- one value and then another
infixr 12 ◌⊗◌
abbrev pub ◌⊗◌ : {X Y : Type 0} → Codec X → Codec Y → Codec (X × Y)
first ⊗ second = record {
  Fits = λ both. first.Fits both.0 × second.Fits both.1;
  spell = λ both. first.spell both.0 ++ second.spell both.1;
  read = λ bytes. first.read bytes >>= λ x. second.read x.1 >>= λ y. Some ((x.0, y.0), y.1);
}

-- values that pass a test
abbrev pub such_that : {X : Type 0} → (X → Bool) → Codec X → Codec X
such_that test codec = record {
  Fits = λ x. codec.Fits x × IsTrue (test x);
  spell = λ x. codec.spell x;
  read = λ bytes. codec.read bytes >>= λ x. if test x.0 then Some x else None;
}

-- bytes behind their number
abbrev pub counted : Width → Codec (List ℕ)
counted w = record {
  Fits = λ bytes. (number w).Fits (length bytes);
  spell = λ bytes. (number w).spell (length bytes) ++ bytes;
  read = λ bytes. (number w).read bytes >>= λ count. (exactly count.0).read count.1;
}

-- no bytes
abbrev pub nothing : Codec (Unit {0})
nothing = record { Fits = λ _. Unit {0}; spell = λ _. []; read = λ bytes. Some (tt, bytes) }

-- a value that a byte stands for
abbrev pub coded : {X : Type 0} → (X → ℕ) → (ℕ → Option X) → Codec X
coded code decode = record {
  Fits = λ x. Unit {0};
  spell = λ x. to_be_bytes w8 (code x);
  read = λ bytes. (number w8).read bytes >>= λ byte. decode byte.0 >>= λ x. Some (x, byte.1);
}

-- values that are other values seen in another way
abbrev pub seen : {X Y : Type 0} → (X → Y) → (Y → X) → Codec X → Codec Y
seen to back codec = record {
  Fits = λ y. codec.Fits (back y);
  spell = λ y. codec.spell (back y);
  read = λ bytes. codec.read bytes >>= λ x. Some (to x.0, x.1);
}

-- so many values
unfoldable pub read_many : {X : Type 0} → Codec X → ℕ → List ℕ → Option (List X × List ℕ)
read_many codec zero bytes = Some ([], bytes)
read_many codec (suc count) bytes =
    codec.read bytes >>= λ x. read_many codec count x.1 >>= λ xs. Some (x.0 ∷ xs.0, xs.1)

-- values behind their number
abbrev pub many : {X : Type 0} → Width → Codec X → Codec (List X)
many w codec = record {
  Fits = λ xs. (number w).Fits (length xs) × AllByRecursion codec.Fits xs;
  spell = λ xs. (number w).spell (length xs) ++ flat_map codec.spell xs;
  read = λ bytes. (number w).read bytes >>= λ count. read_many codec count.0 count.1;
}

-- at the front of bytes, a value that is made of the fields which stand there
abbrev pub with_fields : {F X : Type 0} → (F → X) → Codec F → List ℕ → Option (X × List ℕ)
with_fields {F} {X} make codec bytes = codec.read bytes >>= λ fields. let value : X × List ℕ = (make fields.0, fields.1) in Some value

-- a value fits one of two codecs
abbrev pub FitsEither : {X Y : Type 0} → Codec X → Codec Y → X ⊎ Y → Type 0
FitsEither first second (inl x) = first.Fits x
FitsEither first second (inr y) = second.Fits y

-- a value of one of two kinds, behind the byte of its kind
abbrev pub spell_either : {X Y : Type 0} → Codec X → Codec Y → X ⊎ Y → List ℕ
spell_either first second (inl x) = 0 ∷ first.spell x
spell_either first second (inr y) = 1 ∷ second.spell y

-- one of two values, behind a byte that says which
infixr 12 ◌⊕◌
abbrev pub ◌⊕◌ : {X Y : Type 0} → Codec X → Codec Y → Codec (X ⊎ Y)
first ⊕ second = record {
  Fits = FitsEither first second;
  spell = spell_either first second;
  read = λ bytes. (number w8).read bytes >>= λ tag.
      if tag.0 == 0 then with_fields inl first tag.1
      else if tag.0 == 1 then with_fields inr second tag.1
      else None;
}
