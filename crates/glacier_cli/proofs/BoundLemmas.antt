-- What a server is told by its words is within its bounds.
use Rattle.std.proofs.Common.{◌≡◌, ℕ, ◌≤◌, Bool, true, false, cond, List, [], ◌∷◌, Option, Some, None, refl, sym, ap, subst, ◌∙◌, arith}
use Rattle.std.specs.Prelude.{bytes_eq, codes, option_map, option_and_then, unwrap_or, IfSome, IsTrue, nat_le, ◌&&◌}
use Rattle.std.proofs.lemmas.Bool.{and_parts}
use Rattle.std.proofs.lemmas.Bool.Decides.{nat_tests}
use Rattle.glacier_base.specs.Names.{is_region, where_rule}
use Rattle.glacier_http.specs.Fields.{number_of}
use Rattle.glacier_cli.specs.declared.options.TheConstants.{MOST_CONNECTIONS, MOST_DELAY}
use Rattle.glacier_cli.specs.Options.{Said, nothing_said, is_address, within, number_within, once, with_address, with_region, with_delay, with_connections, with_new, with_value, options_of}
use Rattle.glacier_cli.specs.Forms.{Form, ServeWords, InBounds, hash, serve, told_at, region_of, serve_form, form_of}

-- what is said has its rule
record HasRules (said : Said) : Type 0 where
  address : IfSome said.address (λ a. is_address a ≡ true)
  delay : IfSome said.delay (λ n. n ≤ MOST_DELAY)
  connections : IfSome said.connections (λ n. (1 ≤ n) × (n ≤ MOST_CONNECTIONS))

some_is : {A : Type 0} (x y : A) → Some x ≡ Some y → x ≡ y
some_is x y is = ap (λ o. unwrap_or o x) is

chained : {A B : Type 0} (f : A → Option B) (o : Option A) (y : B) → option_and_then f o ≡ Some y
    → (x : A) × (o ≡ Some x) × (f x ≡ Some y)
chained f None y is = absurd (cc)
chained f (Some x) y is = (x, refl, is)

mapped : {A B : Type 0} (f : A → B) (o : Option A) (y : B) → option_map f o ≡ Some y → (x : A) × (o ≡ Some x) × (f x ≡ y)
mapped f None y is = absurd (cc)
mapped f (Some x) y is = (x, refl, some_is (f x) y is)

said_now : {A : Type 0} (before now : Option A) (x : A) → once before now ≡ Some x → now ≡ Some x
said_now None now x is = is
said_now (Some old) now x is = absurd (cc)

ruled : (rule : List ℕ → Bool) (text x : List ℕ) → where_rule rule text ≡ Some x → rule x ≡ true
ruled rule text x is = go (rule text) refl is
  where
    go : (t : Bool) → rule text ≡ t → cond t (Some text) None ≡ Some x → rule x ≡ true
    go true e s = subst (λ (l : List ℕ). rule l ≡ true) (some_is text x s) e
    go false e s = absurd (cc)

bounded : (least most n : ℕ) (o : Option ℕ) → within least most o ≡ Some n → (least ≤ n) × (n ≤ most)
bounded least most n None is = absurd (cc)
bounded least most n (Some k) is = go (nat_le least k && nat_le k most) refl is
  where
    go : (t : Bool) → (nat_le least k && nat_le k most) ≡ t → cond t (Some k) None ≡ Some n → (least ≤ n) × (n ≤ most)
    go true e s =
        let parts = and_parts (nat_le least k) (nat_le k most) e in
        let low : least ≤ k = grind (arith, nat_tests, parts.0) in
        let high : k ≤ most = grind (arith, nat_tests, parts.1) in
        subst (λ (m : ℕ). (least ≤ m) × (m ≤ most)) (some_is k n s) (low, high)
    go false e s = absurd (cc)

module _ (said next : Said) (rules : HasRules said) where
  address_rules : (value : List ℕ) → with_address value said ≡ Some next → HasRules next
  address_rules value is =
      let m = mapped (λ address. record said { address = Some address }) (once said.address (where_rule is_address value)) next is in
      let rule = ruled is_address value m.0 (said_now said.address (where_rule is_address value) m.0 m.1) in
      subst HasRules m.2 (record { address = rule; delay = rules.delay; connections = rules.connections })

  region_rules : (value : List ℕ) → with_region value said ≡ Some next → HasRules next
  region_rules value is =
      let m = mapped (λ region. record said { region = Some region }) (once said.region (Some value)) next is in
      subst HasRules m.2 (record { address = rules.address; delay = rules.delay; connections = rules.connections })

  delay_rules : (value : List ℕ) → with_delay value said ≡ Some next → HasRules next
  delay_rules value is =
      let m = mapped (λ delay. record said { delay = Some delay }) (once said.delay (number_within 0 MOST_DELAY value)) next is in
      let rule = bounded 0 MOST_DELAY m.0 (number_of 8 value) (said_now said.delay (number_within 0 MOST_DELAY value) m.0 m.1) in
      subst HasRules m.2 (record { address = rules.address; delay = rule.1; connections = rules.connections })

  connections_rules : (value : List ℕ) → with_connections value said ≡ Some next → HasRules next
  connections_rules value is =
      let m = mapped (λ connections. record said { connections = Some connections }) (once said.connections (number_within 1 MOST_CONNECTIONS value)) next is in
      let rule = bounded 1 MOST_CONNECTIONS m.0 (number_of 8 value) (said_now said.connections (number_within 1 MOST_CONNECTIONS value) m.0 m.1) in
      subst HasRules m.2 (record { address = rules.address; delay = rules.delay; connections = rule })

  new_rules : with_new said ≡ Some next → HasRules next
  new_rules is = go said.is_new is
    where
      go : (t : Bool) → cond t None (Some (record said { is_new = true })) ≡ Some next → HasRules next
      go true s = absurd (cc)
      go false s = subst HasRules (some_is (record said { is_new = true }) next s) (record { address = rules.address; delay = rules.delay; connections = rules.connections })

  value_rules : (name value : List ℕ) → with_value name value said ≡ Some next → HasRules next
  value_rules name value is = go (bytes_eq name (codes "--listen")) (bytes_eq name (codes "--region")) (bytes_eq name (codes "--delay")) (bytes_eq name (codes "--connections")) is
    where
      go : (a b c d : Bool) → cond a (with_address value said) (cond b (with_region value said) (cond c (with_delay value said) (cond d (with_connections value said) None))) ≡ Some next
          → HasRules next
      go true b c d s = address_rules value s
      go false true c d s = region_rules value s
      go false false true d s = delay_rules value s
      go false false false true s = connections_rules value s
      go false false false false s = absurd (cc)

options_rules : (words : List (List ℕ)) (said next : Said) → HasRules said → options_of words said ≡ Some next → HasRules next
options_rules [] said next rules is = subst HasRules (some_is said next is) rules
options_rules (name ∷ []) said next rules is = go (bytes_eq name (codes "--new")) is
  where
    go : (t : Bool) → cond t (with_new said) None ≡ Some next → HasRules next
    go true s = new_rules said next rules s
    go false s = absurd (cc)
options_rules (name ∷ value ∷ words) said next rules is =
    go (bytes_eq name (codes "--new")) is (λ mid r s. options_rules (value ∷ words) mid next r s) (λ mid r s. options_rules words mid next r s)
  where
    go : (t : Bool) → cond t (option_and_then (options_of (value ∷ words)) (with_new said)) (option_and_then (options_of words) (with_value name value said)) ≡ Some next
        → ((mid : Said) → HasRules mid → options_of (value ∷ words) mid ≡ Some next → HasRules next)
        → ((mid : Said) → HasRules mid → options_of words mid ≡ Some next → HasRules next)
        → HasRules next
    go true s one two = let m = chained (options_of (value ∷ words)) (with_new said) next s in one m.0 (new_rules said m.0 rules m.1) m.2
    go false s one two = let m = chained (options_of words) (with_value name value said) next s in two m.0 (value_rules said m.0 rules name value m.1) m.2

connections_bounds : (o : Option ℕ) → IfSome o (λ n. (1 ≤ n) × (n ≤ MOST_CONNECTIONS))
    → (1 ≤ unwrap_or o MOST_CONNECTIONS) × (unwrap_or o MOST_CONNECTIONS ≤ MOST_CONNECTIONS)
connections_bounds None rule = (omega arith, omega arith)
connections_bounds (Some n) rule = rule

address_of : (o : Option (List ℕ)) (address : List ℕ) → o ≡ Some address → IfSome o (λ a. is_address a ≡ true) → is_address address ≡ true
address_of o address is rule = subst (λ (x : Option (List ℕ)). IfSome x (λ a. is_address a ≡ true)) is rule

told_bounds : (folder keys : List ℕ) (said : Said) (told : ServeWords) → HasRules said → serve_form folder keys said ≡ Some (serve told) → InBounds told
told_bounds folder keys said told rules is =
    let m = chained (λ address. option_map (λ region. serve (told_at folder keys said address region)) (region_of said)) said.address (serve told) is in
    let n = mapped (λ region. serve (told_at folder keys said m.0 region)) (region_of said) (serve told) m.2 in
    let same : told_at folder keys said m.0 n.0 ≡ told = (let forms = n.2 in cc) in
    let counted = connections_bounds said.connections rules.connections in
    subst InBounds same (record {
      address = address_of said.address m.0 m.1 rules.address;
      region = ruled is_region (unwrap_or said.region (codes "us-east-1")) n.0 n.1;
      delay = rules.delay;
      some = counted.0;
      most = counted.1;
    })

-- what a server is told is within its bounds
pub in_bounds : (words : List (List ℕ)) (told : ServeWords) → form_of words ≡ Some (serve told) → InBounds told
in_bounds [] told is = absurd (cc)
in_bounds (name ∷ []) told is = go (bytes_eq name (codes "hash")) is
  where
    go : (t : Bool) → cond t (Some (hash None)) None ≡ Some (serve told) → InBounds told
    go true s = let clash = some_is (hash None) (serve told) s in absurd (cc)
    go false s = absurd (cc)
in_bounds (name ∷ file ∷ []) told is = go (bytes_eq name (codes "hash")) is
  where
    go : (t : Bool) → cond t (Some (hash (Some file))) None ≡ Some (serve told) → InBounds told
    go true s = let clash = some_is (hash (Some file)) (serve told) s in absurd (cc)
    go false s = absurd (cc)
in_bounds (name ∷ folder ∷ keys ∷ options) told is = go (bytes_eq name (codes "serve")) is
  where
    go : (t : Bool) → cond t (option_and_then (serve_form folder keys) (options_of options nothing_said)) None ≡ Some (serve told) → InBounds told
    go true s =
        let m = chained (serve_form folder keys) (options_of options nothing_said) (serve told) s in
        let none : HasRules nothing_said = record { address = tt; delay = tt; connections = tt } in
        told_bounds folder keys m.0 told (options_rules options nothing_said m.0 none m.1) m.2
    go false s = absurd (cc)
