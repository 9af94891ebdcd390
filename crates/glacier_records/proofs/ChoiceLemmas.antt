-- Values that are seen in another way, that a byte stands for, or that are one of two: read as they are spelled.
use Rattle.std.proofs.Common.{◌≡◌, ◌⊎◌, inl, inr, ℕ, ◌==◌, ◌<◌, lit<, true, List, ◌∷◌, ◌++◌, Option, Some, refl, sym, ap, subst, ◌∙◌}
use Rattle.std.proofs.lemmas.Bool.{eqb-true}
use Rattle.std.specs.Int.{w8, to_be_bytes}
use Rattle.glacier_records.specs.Codec.{Codec, ◌>>=◌, number, nothing, coded, seen, with_fields, ◌⊕◌}
use Rattle.glacier_records.proofs.CodecLemmas.{IsBytes, IsSound, Took, number_sound, wide8}
use Rattle.glacier_records.proofs.OptionLemmas.{bind_some, some_is, either_way}

pub nothing_sound : IsSound nothing
nothing_sound = record {
  found = λ bytes x rest are e.
      let made : Unit {0} × List ℕ = (tt, bytes) in
      subst (λ (q : Unit {0} × List ℕ). Took nothing bytes q.0 q.1) (some_is made (x, rest) e)
      (record { fits = tt; spelled = refl; left = are });
  again = λ x rest fits. refl;
}

pub seen_sound : {X Y : Type 0} (to : X → Y) (back : Y → X) (c : Codec X) → ((x : X) → back (to x) ≡ x)
    → ((y : Y) → to (back y) ≡ y) → IsSound c → IsSound (seen to back c)
seen_sound {X} {Y} to back c there again sound = record {
  found = λ bytes y rest are e.
      let a = bind_some (c.read bytes) (λ p. Some (to p.0, p.1)) (y, rest) e in
      let first = sound.found bytes a.0.0 a.0.1 are a.1 in
      let made : Y × List ℕ = (to a.0.0, a.0.1) in
      let here : back (to a.0.0) ≡ a.0.0 = there a.0.0 in
      subst (λ (q : Y × List ℕ). Took (seen to back c) bytes q.0 q.1) (some_is made (y, rest) a.2) (record {
        fits = subst (λ (x : X). c.Fits x) (sym here) first.fits;
        spelled = first.spelled ∙ ap (λ (x : X). c.spell x ++ a.0.1) (sym here);
        left = first.left;
      });
  again = λ y rest fits. rw (sound.again (back y) rest fits, again y) refl;
}

pub coded_sound : {X : Type 0} (code : X → ℕ) (decode : ℕ → Option X) → ((x : X) → code x < 256)
    → ((x : X) → decode (code x) ≡ Some x) → ((n : ℕ) (x : X) → decode n ≡ Some x → code x ≡ n) → IsSound (coded code decode)
coded_sound {X} code decode small again there = record {
  found = λ bytes x rest are e.
      let a = bind_some ((number w8).read bytes) (λ byte. decode byte.0 >>= λ y. Some (y, byte.1)) (x, rest) e in
      let b = bind_some (decode a.0.0) (λ y. Some (y, a.0.1)) (x, rest) a.2 in
      let first = (number_sound w8 wide8).found bytes a.0.0 a.0.1 are a.1 in
      let made : X × List ℕ = (b.0, a.0.1) in
      subst (λ (q : X × List ℕ). Took (coded code decode) bytes q.0 q.1) (some_is made (x, rest) b.2) (record {
        fits = tt;
        spelled = first.spelled ∙ ap (λ (n : ℕ). to_be_bytes w8 n ++ a.0.1) (sym (there a.0.0 b.0 b.1));
        left = first.left;
      });
  again = λ x rest fits. rw ((number_sound w8 wide8).again (code x) rest (small x), again x) refl;
}

-- a byte that was found to be the code of a value
pub one_code : {X : Type 0} (code : X → ℕ) (n k : ℕ) (x y : X) → code x ≡ k → (n == k) ≡ true → Some x ≡ Some y → code y ≡ n
one_code code n k x y is here read = ap code (sym (some_is x y read)) ∙ is ∙ sym (eqb-true n k here)

module _ {X Y : Type 0} (c : Codec X) (d : Codec Y) (sound_c : IsSound c) (sound_d : IsSound d) where
  first_found : (bytes after : List ℕ) (x : X ⊎ Y) (rest : List ℕ) → IsBytes after → bytes ≡ 0 ∷ after
      → with_fields inl c after ≡ Some (x, rest) → Took (c ⊕ d) bytes x rest
  first_found bytes after x rest are tag read =
      let b = bind_some (c.read after) (λ f. let value : (X ⊎ Y) × List ℕ = (inl f.0, f.1) in Some value) (x, rest) read in
      let took = sound_c.found after b.0.0 b.0.1 are b.1 in
      let made : (X ⊎ Y) × List ℕ = (inl b.0.0, b.0.1) in
      subst (λ (q : (X ⊎ Y) × List ℕ). Took (c ⊕ d) bytes q.0 q.1) (some_is made (x, rest) b.2)
      (record { fits = took.fits; spelled = tag ∙ ap (λ (l : List ℕ). 0 ∷ l) took.spelled; left = took.left })

  second_found : (bytes after : List ℕ) (x : X ⊎ Y) (rest : List ℕ) → IsBytes after → bytes ≡ 1 ∷ after
      → with_fields inr d after ≡ Some (x, rest) → Took (c ⊕ d) bytes x rest
  second_found bytes after x rest are tag read =
      let b = bind_some (d.read after) (λ f. let value : (X ⊎ Y) × List ℕ = (inr f.0, f.1) in Some value) (x, rest) read in
      let took = sound_d.found after b.0.0 b.0.1 are b.1 in
      let made : (X ⊎ Y) × List ℕ = (inr b.0.0, b.0.1) in
      subst (λ (q : (X ⊎ Y) × List ℕ). Took (c ⊕ d) bytes q.0 q.1) (some_is made (x, rest) b.2)
      (record { fits = took.fits; spelled = tag ∙ ap (λ (l : List ℕ). 1 ∷ l) took.spelled; left = took.left })

  either_again : (x : X ⊎ Y) (rest : List ℕ) → (c ⊕ d).Fits x → (c ⊕ d).read ((c ⊕ d).spell x ++ rest) ≡ Some (x, rest)
  either_again (inl x) rest fits =
      rw ((number_sound w8 wide8).again 0 (c.spell x ++ rest) (lit< tt), sound_c.again x rest fits) refl
  either_again (inr y) rest fits =
      rw ((number_sound w8 wide8).again 1 (d.spell y ++ rest) (lit< tt), sound_d.again y rest fits) refl

  pub either_sound : IsSound (c ⊕ d)
  either_sound = record {
    found = λ bytes x rest are e.
        let a = bind_some ((number w8).read bytes) _ (x, rest) e in
        let tag = (number_sound w8 wide8).found bytes a.0.0 a.0.1 are a.1 in
        either_way (a.0.0 == 0) _ _ (x, rest)
        (λ here. first_found bytes a.0.1 x rest tag.left (tag.spelled ∙ ap (λ (n : ℕ). to_be_bytes w8 n ++ a.0.1) (eqb-true _ _ here)))
        (either_way (a.0.0 == 1) _ _ (x, rest)
        (λ here. second_found bytes a.0.1 x rest tag.left (tag.spelled ∙ ap (λ (n : ℕ). to_be_bytes w8 n ++ a.0.1) (eqb-true _ _ here)))
        (λ none. absurd (cc none))) a.2;
    again = either_again;
  }
