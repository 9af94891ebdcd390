-- Texts that a test finds to be one, and numbers that are.
use Rattle.std.specs.Prelude.{◌≡◌, ℕ, ◌≤◌, ◌<◌, ◌+◌, ◌⊎◌, Bool, true, false, cond, not, ◌&&◌, List, [], ◌∷◌, Some, None, nat_eq, count_by}
use Rattle.std.proofs.Common.{refl, arith, inl, inr}
use Rattle.std.proofs.lemmas.Bool.{eqb-true}
use Rattle.std.proofs.lemmas.Bool.Decides.{nat_tests}
use Rattle.glacier_treehash.specs.Roots.{root_of_digests}
use Rattle.glacier_vault.specs.declared.refusal.Refusal.TheVariants.{ContentMismatch, TreeMismatch}
use Rattle.glacier_upload.specs.Bodies.{is_same, body_refusal}
use Rattle.glacier_upload.specs.declared.asks.Found.{Found}

-- a test of two texts that holds
pub same_text : (xs ys : List ℕ) → is_same xs ys ≡ true → xs ≡ ys
same_text [] [] e = refl
same_text [] (y ∷ ys) e = cc
same_text (x ∷ xs) [] e = cc
same_text (x ∷ xs) (y ∷ ys) e = both (nat_eq x y) refl e (same_text xs ys)
  where
    both : (b : Bool) → nat_eq x y ≡ b → (b && is_same xs ys) ≡ true → (is_same xs ys ≡ true → xs ≡ ys) → x ∷ xs ≡ y ∷ ys
    both true t s later = let same = eqb-true x y t in let rest = later s in λ i. same i ∷ rest i
    both false t s later = cc

-- a body that isn't refused has the root that was named
pub body_root : (linear tree : List ℕ) (found : Found) → body_refusal linear tree found ≡ None → root_of_digests found.leaves ≡ tree
body_root linear tree found = at (is_same found.linear linear) (is_same (root_of_digests found.leaves) tree) refl
  where
    at : (content root : Bool) → is_same (root_of_digests found.leaves) tree ≡ root
        → cond (not content) (Some (ContentMismatch found.linear linear)) (cond (not root) (Some (TreeMismatch (root_of_digests found.leaves) tree)) None) ≡ None → root_of_digests found.leaves ≡ tree
    at false root t e = cc
    at true false t e = cc
    at true true t e = same_text (root_of_digests found.leaves) tree t

-- 1 where two numbers are the same
abbrev pub hit : ℕ → ℕ → ℕ
hit number blob = cond (nat_eq number blob) 1 0

-- how often a blob stands in a list of one
pub count-alone : (number blob : ℕ) → count_by (λ n. nat_eq n blob) (number ∷ []) ≡ hit number blob
count-alone number blob = omega arith

pub hit-le-one : (number blob : ℕ) → hit number blob ≤ 1
hit-le-one number blob = grind (arith, nat_tests)

below_none : (number blob : ℕ) → blob < number → hit number blob ≡ 0
below_none number blob lt = grind (arith, nat_tests)

above_none : (number blob : ℕ) → number + 1 ≤ blob → hit number blob ≡ 0
above_none number blob lt = grind (arith, nat_tests)

-- a number is no other
pub hit_none : (number blob : ℕ) → (blob < number) ⊎ (number + 1 ≤ blob) → hit number blob ≡ 0
hit_none number blob side = elim side [ inl lt ↦ below_none number blob lt | inr gt ↦ above_none number blob gt ]
