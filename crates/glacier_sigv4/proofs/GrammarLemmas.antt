-- What is read of an Authorization, and what spells one.
use Rattle.std.proofs.Common.{◌≡◌, ℕ, suc, Bool, true, false, cond, not, eqb, List, [], ◌∷◌, ◌++◌, length, take, drop, Option, Some, None, refl, ap, ap₂, sym, subst, ◌∙◌, true≢false, take-append-drop}
use Rattle.std.specs.Prelude.{bytes_eq, option_map}
use Rattle.std.proofs.lemmas.Bool.{and_parts, and_from, eqb-true}
use Rattle.glacier_base.specs.Cuts.{cut_at, begun}
use Rattle.glacier_sigv4.specs.Authorization.{behind_word, behind_spaces}
use Rattle.glacier_sigv4.specs.Grammar.{spaces}
use Rattle.glacier_base.proofs.LackLemmas.{lacks}
use Rattle.glacier_sigv4.proofs.TestLemmas.{where_true}

-- texts that are compared equal are
bytes_same : (xs ys : List ℕ) → bytes_eq xs ys ≡ true → xs ≡ ys
bytes_same [] [] is = refl
bytes_same [] (y ∷ ys) is = absurd (true≢false (sym is))
bytes_same (x ∷ xs) [] is = absurd (true≢false (sym is))
bytes_same (x ∷ xs) (y ∷ ys) is =
    let p = and_parts (eqb x y) (bytes_eq xs ys) is in
    ap₂ ◌∷◌ (eqb-true x y p.0) (bytes_same xs ys p.1)

-- a word stood at the front
pub word_was : (word text rest : List ℕ) → behind_word word text ≡ Some rest → text ≡ word ++ rest
word_was word text rest is =
    let w = where_true (bytes_eq (take (length word) text) word) (drop (length word) text) rest is in
    sym (take-append-drop (length word) text) ∙ ap₂ ◌++◌ (bytes_same _ word w.0) w.1

-- spaces stood at the front
pub spaces_were : (text : List ℕ) → (n : ℕ) × (text ≡ spaces n ++ behind_spaces text)
spaces_were [] = (0, refl)
spaces_were (b ∷ text) = go (eqb b 32) refl (spaces_were text)
  where
    go : (t : Bool) → eqb b 32 ≡ t → ((n : ℕ) × (text ≡ spaces n ++ behind_spaces text))
        → (n : ℕ) × (b ∷ text ≡ spaces n ++ cond t (behind_spaces text) (b ∷ text))
    go true e rec = (suc rec.0, ap₂ ◌∷◌ (eqb-true b 32 e) rec.1)
    go false e rec = (0, refl)

-- the separator stood between the parts, and not in the first
pub cut_was : (separator : ℕ) (text : List ℕ) (parts : List ℕ × List ℕ) → cut_at separator text ≡ Some parts
    → (text ≡ parts.0 ++ separator ∷ parts.1) × (lacks separator parts.0 ≡ true)
cut_was separator [] parts is = cc
cut_was separator (b ∷ text) parts is = go (eqb b separator) refl is (cut_at separator text) refl (λ found e. cut_was separator text found e)
  where
    go : (t : Bool) → eqb b separator ≡ t → cond t (Some ([], text)) (option_map (begun b) (cut_at separator text)) ≡ Some parts
        → (c : Option (List ℕ × List ℕ)) → cut_at separator text ≡ c
        → ((found : List ℕ × List ℕ) → cut_at separator text ≡ Some found → (text ≡ found.0 ++ separator ∷ found.1) × (lacks separator found.0 ≡ true))
        → (b ∷ text ≡ parts.0 ++ separator ∷ parts.1) × (lacks separator parts.0 ≡ true)
    go true e is c cut rec =
        let same : ([], text) ≡ parts = cc in
        subst (λ (p : List ℕ × List ℕ). (b ∷ text ≡ p.0 ++ separator ∷ p.1) × (lacks separator p.0 ≡ true)) same
        (ap (λ x. x ∷ text) (eqb-true b separator e), refl)
    go false e is None cut rec = let other : None ≡ Some parts = sym (ap (option_map (begun b)) cut) ∙ is in cc
    go false e is (Some found) cut rec =
        let inner : Some (begun b found) ≡ Some parts = sym (ap (option_map (begun b)) cut) ∙ is in
        let same : begun b found ≡ parts = cc in
        let was = rec found cut in
        subst (λ (p : List ℕ × List ℕ). (b ∷ text ≡ p.0 ++ separator ∷ p.1) × (lacks separator p.0 ≡ true)) same
        (ap (λ l. b ∷ l) was.0, and_from (not (eqb b separator)) (lacks separator found.0) (ap not e) was.1)
