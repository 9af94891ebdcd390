-- The sooner of moments: what it is told by, and what follows.
use Rattle.std.specs.Prelude.{◌≡◌, ℕ, ◌≤◌, Bool, true, false, cond, ◌||◌, List, [], ◌∷◌, Option, Some, None, nat_le}
use Rattle.std.specs.List.{list_any}
use Rattle.std.proofs.Common.{◌∙◌, ap, sym, refl, arith}
use Rattle.std.proofs.lemmas.Bool.{leb-true, leb-false, le-leb}
use Rattle.glacier_vault.specs.Due.{sooner, soonest, has_come}

-- one of a number and itself comes with it
comes_itself : (n : ℕ) → nat_le n n ≡ true
comes_itself n = le-leb n n (omega arith)

-- moments that come at the same time are the same
pub has_come_decides : (a b : Option ℕ) → ((m : ℕ) → has_come m a ≡ has_come m b) → a ≡ b
has_come_decides None None same = refl
has_come_decides None (Some b) same = let no : false ≡ true = same b ∙ comes_itself b in cc
has_come_decides (Some a) None same = let no : true ≡ false = sym (comes_itself a) ∙ same a in cc
has_come_decides (Some a) (Some b) same =
    let low : b ≤ a = leb-true b a (sym (same a) ∙ comes_itself a) in
    let high : a ≤ b = leb-true a b (same b ∙ comes_itself b) in
    let is : a ≡ b = omega arith in
    ap (λ n. Some n) is

-- the sooner of two has come where one of them has
pub has_come-sooner : (m : ℕ) (a b : Option ℕ) → has_come m (sooner a b) ≡ (has_come m a || has_come m b)
has_come-sooner m None b = refl
has_come-sooner m (Some a) None = at (nat_le a m)
  where
    at : (x : Bool) → x ≡ (x || false)
    at true = refl
    at false = refl
has_come-sooner m (Some a) (Some b) = at (nat_le a b) refl (nat_le a m) refl (nat_le b m) refl
  where
    at : (c : Bool) → nat_le a b ≡ c → (x : Bool) → nat_le a m ≡ x → (y : Bool) → nat_le b m ≡ y → nat_le (cond c a b) m ≡ (x || y)
    at true e true x y f = x
    at true e false x false f = x
    at true e false x true f = absurd (omega (arith, leb-true a b e, leb-false a m x, leb-true b m f))
    at false e true x true f = f
    at false e true x false f = absurd (omega (arith, leb-false a b e, leb-true a m x, leb-false b m f))
    at false e false x y f = f

-- the soonest has come where one of all has
pub has_come-soonest : {X : Type 0} (m : ℕ) (f : X → Option ℕ) (xs : List X) → has_come m (soonest f xs) ≡ list_any (λ x. has_come m (f x)) xs
has_come-soonest m f [] = refl
has_come-soonest m f (x ∷ xs) = has_come-sooner m (f x) (soonest f xs) ∙ ap (λ b. has_come m (f x) || b) (has_come-soonest m f xs)

-- what is told by whether it has come
or-assoc : (x y z : Bool) → ((x || y) || z) ≡ (x || (y || z))
or-assoc true y z = refl
or-assoc false y z = refl

or-comm : (x y : Bool) → (x || y) ≡ (y || x)
or-comm true true = refl
or-comm true false = refl
or-comm false true = refl
or-comm false false = refl

or-same : (x : Bool) → (x || x) ≡ x
or-same true = refl
or-same false = refl

pub sooner-none : (a : Option ℕ) → sooner a None ≡ a
sooner-none None = refl
sooner-none (Some a) = refl

pub sooner-assoc : (a b c : Option ℕ) → sooner (sooner a b) c ≡ sooner a (sooner b c)
sooner-assoc a b c = has_come_decides _ _ (λ m.
    has_come-sooner m (sooner a b) c ∙ ap (λ x. x || has_come m c) (has_come-sooner m a b)
    ∙ or-assoc (has_come m a) (has_come m b) (has_come m c)
    ∙ sym (has_come-sooner m a (sooner b c) ∙ ap (λ x. has_come m a || x) (has_come-sooner m b c)))

pub sooner-comm : (a b : Option ℕ) → sooner a b ≡ sooner b a
sooner-comm a b = has_come_decides _ _ (λ m. has_come-sooner m a b ∙ or-comm (has_come m a) (has_come m b) ∙ sym (has_come-sooner m b a))

pub sooner-same : (a : Option ℕ) → sooner a a ≡ a
sooner-same a = has_come_decides _ _ (λ m. has_come-sooner m a a ∙ or-same (has_come m a))

-- the last of three put between the others
pub sooner-swap : (a b c : Option ℕ) → sooner (sooner a b) c ≡ sooner (sooner a c) b
sooner-swap a b c = sooner-assoc a b c ∙ ap (sooner a) (sooner-comm b c) ∙ sym (sooner-assoc a c b)

-- a moment that one of the two is anyway adds nothing
pub sooner-again : (a b : Option ℕ) → sooner a (sooner a b) ≡ sooner a b
sooner-again a b = sym (sooner-assoc a a b) ∙ ap (λ x. sooner x b) (sooner-same a)

pub ruleset adding = (sooner-none, sooner-assoc)
