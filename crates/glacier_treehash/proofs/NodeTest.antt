-- The test of a node decides what a node is.
use Rattle.std.specs.Prelude.{◌≡◌, ◌↔◌, ◌⊎◌, ℕ, zero, suc, ◌+◌, ◌-◌, ◌*◌, ◌/◌, ◌%◌, ◌^◌, ◌<◌, ◌≤◌, max, Bool, true, false, cond, ◌&&◌, ◌||◌, IsTrue, nat_eq, nat_lt, nat_le}
use Rattle.std.specs.Int.{div_ceil}
use Rattle.std.proofs.Common.{◌∙◌, ap, refl, subst, arith, inl, inr, eq-eqb, pow-suc}
use Rattle.std.proofs.lemmas.Bool.{eqb-true, leb-true, leb-false, ltb-true, lt-ltb, le-leb}
use Rattle.std.proofs.Math.Pow.{pow_pos}
use Rattle.glacier_treehash.specs.Nodes.{IsNode, doubled_to, least_power, is_node_of}
use Rattle.glacier_treehash.specs.Tree.{mib}
use Rattle.glacier_treehash.proofs.Widths.{IsLeast, Passes, passing_node, node_passes}

-- doubling from a power of two below n leads to the least that is as great
doubled_least : (steps k n : ℕ) → 2 ^ k / 2 < max 1 n → n ≤ 2 ^ k + steps → IsLeast n (doubled_to steps (2 ^ k) n)
unfolding doubled_to
doubled_least zero k n below enough = record { power = (k, refl); enough = omega arith; least = below }
doubled_least (suc steps) k n below enough = at (nat_le n (2 ^ k)) refl (λ next fits. doubled_least steps (suc k) n next fits)
  where
    at : (b : Bool) → nat_le n (2 ^ k) ≡ b → (2 ^ suc k / 2 < max 1 n → n ≤ 2 ^ suc k + steps → IsLeast n (doubled_to steps (2 ^ suc k) n))
        → IsLeast n (cond b (2 ^ k) (doubled_to steps (2 ^ k * 2) n))
    at true t later = let fits : n ≤ 2 ^ k = leb-true n (2 ^ k) t in record { power = (k, refl); enough = fits; least = below }
    at false t later =
        let twice : 2 ^ suc k ≡ 2 ^ k * 2 = pow-suc 2 k ∙ omega arith in
        let some = pow_pos k in
        let above : 2 ^ k < n = leb-false n (2 ^ k) t in
        subst (λ w. IsLeast n (doubled_to steps w n)) twice (later (omega arith) (omega arith))

least : (n : ℕ) → IsLeast n (least_power n)
unfolding least_power
least n = doubled_least n 0 n (omega arith) (omega arith)

both : (a b : Bool) → (a && b) ≡ true → (a ≡ true) × (b ≡ true)
both true b e = (refl, e)
both false b e = cc

either : (a b : Bool) → (a || b) ≡ true → (a ≡ true) ⊎ (b ≡ true)
either true b e = inl refl
either false b e = inr e

last : (a b : Bool) → b ≡ true → (a || b) ≡ true
last true b e = refl
last false b e = e

module _ (size first end : ℕ) where
  test_passes : is_node_of size first end ≡ true → Passes size first end (least_power (div_ceil (end - first) mib))
  unfolding is_node_of
  test_passes e =
      let w : ℕ = least_power (div_ceil (end - first) mib) in
      let ends = both (nat_lt first end && nat_le end size && nat_eq (first % mib) 0 && nat_eq (first / mib % w) 0) (nat_eq end size || nat_eq ((end - first) / mib) w) e in
      let placed = both (nat_lt first end && nat_le end size && nat_eq (first % mib) 0) (nat_eq (first / mib % w) 0) ends.0 in
      let whole = both (nat_lt first end && nat_le end size) (nat_eq (first % mib) 0) placed.0 in
      let within = both (nat_lt first end) (nat_le end size) whole.0 in
      record {
        filled = ltb-true first end within.0;
        within = leb-true end size within.1;
        whole = eqb-true (first % mib) 0 whole.1;
        placed = eqb-true (first / mib % w) 0 placed.1;
        ends = elim (either (nat_eq end size) (nat_eq ((end - first) / mib) w) ends.1) [ inl is ↦ inl (eqb-true end size is) | inr is ↦ inr (eqb-true ((end - first) / mib) w is) ];
      }

  passes_test : Passes size first end (least_power (div_ceil (end - first) mib)) → is_node_of size first end ≡ true
  unfolding is_node_of
  passes_test p =
      let w : ℕ = least_power (div_ceil (end - first) mib) in
      let filled : nat_lt first end ≡ true = lt-ltb first end p.filled in
      let within : nat_le end size ≡ true = le-leb end size p.within in
      let whole = eq-eqb (first % mib) 0 p.whole in
      let placed = eq-eqb (first / mib % w) 0 p.placed in
      let ends : (nat_eq end size || nat_eq ((end - first) / mib) w) ≡ true = elim p.ends [ inl is ↦ ap (λ b. b || nat_eq ((end - first) / mib) w) (eq-eqb end size is) | inr is ↦ last (nat_eq end size) (nat_eq ((end - first) / mib) w) (eq-eqb ((end - first) / mib) w is) ] in
      rw (filled, within, whole, placed, ends) refl

  -- what tells a node is the test
  pub decided : (b : Bool) → IsTrue b ↔ IsNode size first end → b ≡ is_node_of size first end
  decided b node = at b (is_node_of size first end) refl node
    where
      at : (b c : Bool) → is_node_of size first end ≡ c → IsTrue b ↔ IsNode size first end → b ≡ c
      at true true e node = refl
      at false false e node = refl
      at true false e node = let is : is_node_of size first end ≡ true = passes_test (node_passes size first end (least_power (div_ceil (end - first) mib)) (least (div_ceil (end - first) mib)) (node.0 refl)) in cc
      at false true e node = let no : IsTrue false = node.1 (passing_node size first end (least_power (div_ceil (end - first) mib)) (least (div_ceil (end - first) mib)) (test_passes e)) in cc
