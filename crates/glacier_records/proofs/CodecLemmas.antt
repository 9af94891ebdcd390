-- What is read is spelled so, and what is spelled so is read: for each way to make a codec.
use Rattle.std.proofs.Common.{◌≡◌, inl, inr, ℕ, ◌+◌, ◌*◌, ◌/◌, ◌%◌, ◌^◌, ◌<◌, ◌≤◌, Bool, false, cond, List, [], ◌∷◌, ◌++◌, length, get_or, take, drop, Some, None, nat_lt, refl, sym, ap, subst, ◌∙◌, append_assoc, arith}
use Rattle.std.specs.Int.{Width, w8, w16, w32, w64, byte_len, from_be_bytes, to_be_bytes}
use Rattle.std.proofs.lemmas.Bool.{cases_lt, ltb-false, le-ltb}
use Rattle.std.proofs.lemmas.List.{take_at, drop_at, take-append-drop, length-append, length-take, get_or-drop, get_or-take, get_or_past}
use Rattle.std.proofs.lemmas.Nat.{be_bytes_4, be_bytes_8, from_be_bytes-to_be_bytes_4, from_be_bytes-to_be_bytes_8}
use Rattle.glacier_records.specs.Codec.{Codec, ◌>>=◌, exactly, number, counted, such_that, ◌⊗◌}
use Rattle.glacier_records.proofs.OptionLemmas.{bind_some, some_is, passed, stopped}

-- each is a byte
abbrev pub IsBytes : List ℕ → Type 0
IsBytes bytes = (i : ℕ) → get_or bytes i 0 < 256

IsBytes-drop : (n : ℕ) (bytes : List ℕ) → IsBytes bytes → IsBytes (drop n bytes)
IsBytes-drop n bytes h i = rw get_or-drop (h (n + i))

IsBytes-take : (n : ℕ) (bytes : List ℕ) → IsBytes bytes → IsBytes (take n bytes)
IsBytes-take n bytes h i =
    elim (cases_lt i n) [
      | inl lt ↦ rw (get_or-take n bytes i 0 lt) (h i)
      | inr le ↦ rw (get_or_past (take n bytes) i 0 (omega (arith, length-take n bytes))) (omega arith)
    ]

-- a value was taken from the front of bytes
pub record Took {X : Type 0} (c : Codec X) (bytes : List ℕ) (x : X) (rest : List ℕ) : Type 0 where
  pub fits : c.Fits x
  pub spelled : bytes ≡ c.spell x ++ rest
  pub left : IsBytes rest

-- what is read is spelled so, and what is spelled so is read
pub record IsSound {X : Type 0} (c : Codec X) : Type 0 where
  pub found : (bytes : List ℕ) (x : X) (rest : List ℕ) → IsBytes bytes → c.read bytes ≡ Some (x, rest) → Took c bytes x rest
  pub again : (x : X) (rest : List ℕ) → c.Fits x → c.read (c.spell x ++ rest) ≡ Some (x, rest)

pub exactly_sound : (n : ℕ) → IsSound (exactly n)
exactly_sound n = record {
  found = λ bytes x rest fits e.
      let g = stopped (nat_lt (length bytes) n) (take n bytes, drop n bytes) (x, rest) e in
      let long : n ≤ length bytes = ltb-false _ _ g.0 in
      subst (λ (p : List ℕ × List ℕ). Took (exactly n) bytes p.0 p.1) g.1 (record {
        fits = omega (arith, length-take n bytes);
        spelled = sym (take-append-drop n bytes);
        left = IsBytes-drop n bytes fits;
      });
  again = λ x rest fits.
      let long : nat_lt (length (x ++ rest)) n ≡ false = le-ltb _ _ (omega (arith, length-append x rest, fits)) in
      rw (long, take_at x rest n fits, drop_at x rest n fits) refl;
}

-- numbers of this width are read as they are spelled
pub record IsWide (w : Width) : Type 0 where
  pub len : (n : ℕ) → length (to_be_bytes w n) ≡ byte_len w
  pub back : (bytes : List ℕ) → length bytes ≡ byte_len w → IsBytes bytes → to_be_bytes w (from_be_bytes w bytes) ≡ bytes
  pub again : (n : ℕ) → n < 2 ^ (8 * byte_len w) → from_be_bytes w (to_be_bytes w n) ≡ n
  pub below : (bytes : List ℕ) → IsBytes bytes → from_be_bytes w bytes < 2 ^ (8 * byte_len w)

pub wide32 : IsWide w32
wide32 = record {
  len = λ n. refl;
  back = λ bytes len fits. be_bytes_4 bytes _ len fits refl;
  again = λ n lt. from_be_bytes-to_be_bytes_4 n lt;
  below = λ bytes fits. omega (arith, fits 0, fits 1, fits 2, fits 3);
}

pub wide64 : IsWide w64
wide64 = record {
  len = λ n. refl;
  back = λ bytes len fits. be_bytes_8 bytes _ len fits refl;
  again = λ n lt. from_be_bytes-to_be_bytes_8 n lt;
  below = λ bytes fits. omega (arith, fits 0, fits 1, fits 2, fits 3, fits 4, fits 5, fits 6, fits 7);
}

one_byte : (bytes : List ℕ) → length bytes ≡ 1 → IsBytes bytes → to_be_bytes w8 (from_be_bytes w8 bytes) ≡ bytes
one_byte [] len fits = absurd (omega arith)
one_byte (a ∷ []) len fits = let is : a % 256 ≡ a = omega (arith, fits 0) in ap (λ (n : ℕ). n ∷ []) is
one_byte (a ∷ b ∷ more) len fits = absurd (omega arith)

pub wide8 : IsWide w8
wide8 = record {
  len = λ n. refl;
  back = one_byte;
  again = λ n lt. omega (arith, lt);
  below = λ bytes fits. omega (arith, fits 0);
}

two_bytes : (bytes : List ℕ) → length bytes ≡ 2 → IsBytes bytes → to_be_bytes w16 (from_be_bytes w16 bytes) ≡ bytes
two_bytes [] len fits = absurd (omega arith)
two_bytes (a ∷ []) len fits = absurd (omega arith)
two_bytes (a ∷ b ∷ []) len fits =
    let high : (a * 256 + b) / 256 % 256 ≡ a = omega (arith, fits 0, fits 1) in
    let low : (a * 256 + b) % 256 ≡ b = omega (arith, fits 0, fits 1) in
    ap (λ (n : ℕ). n ∷ (a * 256 + b) % 256 ∷ []) high ∙ ap (λ (n : ℕ). a ∷ n ∷ []) low
two_bytes (a ∷ b ∷ c ∷ more) len fits = absurd (omega arith)

pub wide16 : IsWide w16
wide16 = record {
  len = λ n. refl;
  back = two_bytes;
  again = λ n lt. omega (arith, lt);
  below = λ bytes fits. omega (arith, fits 0, fits 1);
}

pub number_sound : (w : Width) → IsWide w → IsSound (number w)
number_sound w wide = record {
  found = λ bytes n rest fits e.
      let g = stopped (nat_lt (length bytes) (byte_len w)) (from_be_bytes w (take (byte_len w) bytes), drop (byte_len w) bytes) (n, rest) e in
      let long : byte_len w ≤ length bytes = ltb-false _ _ g.0 in
      let front = IsBytes-take (byte_len w) bytes fits in
      let back = wide.back (take (byte_len w) bytes) (omega (arith, length-take (byte_len w) bytes)) front in
      subst (λ (p : ℕ × List ℕ). Took (number w) bytes p.0 p.1) g.1 (record {
        fits = wide.below (take (byte_len w) bytes) front;
        spelled = sym (take-append-drop (byte_len w) bytes) ∙ ap (λ (l : List ℕ). l ++ drop (byte_len w) bytes) (sym back);
        left = IsBytes-drop (byte_len w) bytes fits;
      });
  again = λ n rest lt.
      let len = wide.len n in
      let long : nat_lt (length (to_be_bytes w n ++ rest)) (byte_len w) ≡ false = le-ltb _ _ (omega (arith, length-append (to_be_bytes w n) rest, len)) in
      rw (long, take_at (to_be_bytes w n) rest (byte_len w) len, drop_at (to_be_bytes w n) rest (byte_len w) len, wide.again n lt) refl;
}

pub pair_sound : {X Y : Type 0} (c : Codec X) (d : Codec Y) → IsSound c → IsSound d → IsSound (c ⊗ d)
pair_sound {X} {Y} c d sound_c sound_d = record {
  found = λ bytes p rest fits e.
      let a = bind_some (c.read bytes) (λ x. d.read x.1 >>= λ y. Some ((x.0, y.0), y.1)) (p, rest) e in
      let b = bind_some (d.read a.0.1) (λ y. Some ((a.0.0, y.0), y.1)) (p, rest) a.2 in
      let first = sound_c.found bytes a.0.0 a.0.1 fits a.1 in
      let second = sound_d.found a.0.1 b.0.0 b.0.1 first.left b.1 in
      let made : (X × Y) × List ℕ = ((a.0.0, b.0.0), b.0.1) in
      subst (λ (q : (X × Y) × List ℕ). Took (c ⊗ d) bytes q.0 q.1) (some_is made (p, rest) b.2) (record {
        fits = (first.fits, second.fits);
        spelled = first.spelled ∙ ap (λ (l : List ℕ). c.spell a.0.0 ++ l) second.spelled ∙ sym (append_assoc (c.spell a.0.0) (d.spell b.0.0) b.0.1);
        left = second.left;
      });
  again = λ p rest fits.
      let regrouped : (c.spell p.0 ++ d.spell p.1) ++ rest ≡ c.spell p.0 ++ (d.spell p.1 ++ rest) = append_assoc (c.spell p.0) (d.spell p.1) rest in
      ap (c ⊗ d).read regrouped ∙ rw (sound_c.again p.0 (d.spell p.1 ++ rest) fits.0, sound_d.again p.1 rest fits.1) refl;
}

pub such_sound : {X : Type 0} (test : X → Bool) (c : Codec X) → IsSound c → IsSound (such_that test c)
such_sound {X} test c sound = record {
  found = λ bytes x rest fits e.
      let a = bind_some (c.read bytes) (λ p. cond (test p.0) (Some p) None) (x, rest) e in
      let first = sound.found bytes a.0.0 a.0.1 fits a.1 in
      let g = passed (test a.0.0) a.0 (x, rest) a.2 in
      subst (λ (q : X × List ℕ). Took (such_that test c) bytes q.0 q.1) g.1 (record { fits = (first.fits, g.0); spelled = first.spelled; left = first.left });
  again = λ x rest fits. rw (sound.again x rest fits.0, fits.1) refl;
}

pub counted_sound : (w : Width) → IsWide w → IsSound (counted w)
counted_sound w wide = record {
  found = λ bytes x rest fits e.
      let a = bind_some ((number w).read bytes) (λ n. (exactly n.0).read n.1) (x, rest) e in
      let first = (number_sound w wide).found bytes a.0.0 a.0.1 fits a.1 in
      let second = (exactly_sound a.0.0).found a.0.1 x rest first.left a.2 in
      let count : length x ≡ a.0.0 = second.fits in
      record {
        fits = subst (λ (n : ℕ). (number w).Fits n) (sym count) first.fits;
        spelled = first.spelled ∙ ap (λ (l : List ℕ). to_be_bytes w a.0.0 ++ l) second.spelled ∙ sym (append_assoc (to_be_bytes w a.0.0) x rest) ∙ ap (λ (n : ℕ). (to_be_bytes w n ++ x) ++ rest) (sym count);
        left = second.left;
      };
  again = λ x rest fits.
      ap (counted w).read (append_assoc (to_be_bytes w (length x)) x rest)
      ∙ rw ((number_sound w wide).again (length x) (x ++ rest) fits) ((exactly_sound (length x)).again x rest refl);
}
