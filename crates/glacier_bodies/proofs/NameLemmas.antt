-- What a map by account and number has, when a blob comes or goes.
use Rattle.std.specs.Prelude.{◌≡◌, ◌⊎◌, ℕ, Bool, true, false, cond, List, Option, Some, None, unwrap_or, option_and_then}
use Rattle.std.specs.Option.{option_map}
use Rattle.std.specs.Cmp.{eq_by_cmp_equiv}
use Rattle.std.specs.Cmp.Lexicographic.{nat_list_cmp_total, slice_cmp}
use Rattle.std.specs.FinMap as map
use Rattle.std.specs.FinMap.{FinMap, nat_cmp-IsAntisymmetric}
use Rattle.std.specs.Cmp.{nat_cmp_total}
use Rattle.std.specs.Ordering.{nat_cmp, eq_by_cmp}
use Rattle.std.proofs.Common.{sym, ◌∙◌, ap, subst, refl, inl, inr}
use Rattle.glacier_base.specs.Maps.{with_value}
use Rattle.glacier_base.proofs.Changed.{get-changed_at}
use Rattle.glacier_base.proofs.Finite.{bytes_cmp-IsAntisymmetric}
use Rattle.glacier_base.proofs.Sorted.{tied}
use Rattle.glacier_bodies.specs.BlobAreas.{with_blob, without_blob}
use Rattle.glacier_bodies.specs.Stands.{ByBlob, at_blob}

module _ {X : Type 0} where
  -- in one account
  inner_after : (inner : FinMap nat_cmp X) (n other : ℕ) (x y : X) → map.get (map.insert inner n x) other ≡ Some y
      → ((other ≡ n) × (y ≡ x)) ⊎ (map.get inner other ≡ Some y)
  inner_after inner n other x y is = at (eq_by_cmp nat_cmp other n) refl
    where
      at : (b : Bool) → eq_by_cmp nat_cmp other n ≡ b → ((other ≡ n) × (y ≡ x)) ⊎ (map.get inner other ≡ Some y)
      at true t =
          let same : Some x ≡ Some y = sym (map.get-insert nat_cmp_total inner n x other ∙ ap (λ b. cond b (Some x) (map.get inner other)) t) ∙ is in
          inl ((nat_cmp-IsAntisymmetric other n (tied _ t), (cc)))
      at false t = inr (sym (map.get-insert nat_cmp_total inner n x other ∙ ap (λ b. cond b (Some x) (map.get inner other)) t) ∙ is)

  -- what is there, where no map is
  of_none : (r : Option (FinMap nat_cmp X)) (n : ℕ) (y : X) → map.get (unwrap_or r map.empty) n ≡ Some y
      → option_and_then (λ inner. map.get inner n) r ≡ Some y
  of_none (Some inner) n y is = is
  of_none None n y is = absurd (let no : map.get (map.empty {X = X} {R = nat_cmp}) n ≡ None = map.get-empty nat_cmp n in cc)

  -- a blob came in: it is that one, or was there
  pub blob_after : (m : ByBlob X) (account other : List ℕ) (number other_number : ℕ) (x y : X)
      → at_blob (with_blob m account number x) other other_number ≡ Some y
      → ((other ≡ account) × (other_number ≡ number) × (y ≡ x)) ⊎ (at_blob m other other_number ≡ Some y)
  blob_after m account other number other_number x y is = at (eq_by_cmp (slice_cmp nat_cmp) other account) refl
    where
      inner : FinMap nat_cmp X
      inner = map.insert (unwrap_or (map.get m account) map.empty) number x

      look : Option (FinMap nat_cmp X) → Option X
      look r = option_and_then (λ i. map.get i other_number) r

      at : (b : Bool) → eq_by_cmp (slice_cmp nat_cmp) other account ≡ b
          → ((other ≡ account) × (other_number ≡ number) × (y ≡ x)) ⊎ (at_blob m other other_number ≡ Some y)
      at true t =
          let same : other ≡ account = bytes_cmp-IsAntisymmetric other account (tied _ t) in
          let here : map.get inner other_number ≡ Some y =
          sym (ap (λ r. option_and_then (λ i. map.get i other_number) r) (map.get-insert nat_list_cmp_total m account inner other ∙ ap (λ b. cond b (Some inner) (map.get m other)) t)) ∙ is in
          elim (inner_after (unwrap_or (map.get m account) map.empty) number other_number x y here) [
            | inl new ↦ inl ((same, new.0, new.1))
            | inr old ↦ inr (ap (λ a. at_blob m a other_number) same ∙ of_none (map.get m account) other_number y old)
          ]
      at false t = inr (sym (ap (λ r. option_and_then (λ i. map.get i other_number) r) (map.get-insert nat_list_cmp_total m account inner other ∙ ap (λ b. cond b (Some inner) (map.get m other)) t)) ∙ is)

  -- a blob went out: what is there was there, and is another
  inner_without : (inner : FinMap nat_cmp X) (n other : ℕ) (y : X) → map.get (map.remove inner n) other ≡ Some y
      → (map.get inner other ≡ Some y) × (n ≡ other → ⊥)
  inner_without inner n other y is = at (eq_by_cmp nat_cmp other n) refl
    where
      at : (b : Bool) → eq_by_cmp nat_cmp other n ≡ b → (map.get inner other ≡ Some y) × (n ≡ other → ⊥)
      at true t = absurd (let no : None ≡ Some y = sym (map.get-remove nat_cmp_total inner n other ∙ ap (λ b. cond b None (map.get inner other)) t) ∙ is in cc)
      at false t = (
        sym (map.get-remove nat_cmp_total inner n other ∙ ap (λ b. cond b None (map.get inner other)) t) ∙ is,
        λ same. (let yes : eq_by_cmp nat_cmp other n ≡ true = subst (λ k. eq_by_cmp nat_cmp other k ≡ true) (sym same) ((eq_by_cmp_equiv nat_cmp_total).refl other) in cc),
      )

  of_map : (r : Option (FinMap nat_cmp X)) (n other : ℕ) (y : X)
      → option_and_then (λ inner. map.get inner other) (option_map (λ inner. map.remove inner n) r) ≡ Some y
      → (option_and_then (λ inner. map.get inner other) r ≡ Some y) × (n ≡ other → ⊥)
  of_map (Some inner) n other y is = inner_without inner n other y is
  of_map None n other y is = cc

  pub blob_without : (m : ByBlob X) (account other : List ℕ) (number other_number : ℕ) (y : X)
      → at_blob (without_blob m account number) other other_number ≡ Some y
      → (at_blob m other other_number ≡ Some y) × (account ≡ other → number ≡ other_number → ⊥)
  blob_without m account other number other_number y is = at (eq_by_cmp (slice_cmp nat_cmp) other account) refl
    where
      got : map.get (without_blob m account number) other ≡ cond (eq_by_cmp (slice_cmp nat_cmp) other account) (option_map (λ inner. map.remove inner number) (map.get m other)) (map.get m other)
      got = get-changed_at nat_list_cmp_total (λ inner. map.remove inner number) m account other

      at : (b : Bool) → eq_by_cmp (slice_cmp nat_cmp) other account ≡ b
          → (at_blob m other other_number ≡ Some y) × (account ≡ other → number ≡ other_number → ⊥)
      at true t =
          let here : option_and_then (λ inner. map.get inner other_number) (option_map (λ inner. map.remove inner number) (map.get m other)) ≡ Some y =
          sym (ap (λ r. option_and_then (λ i. map.get i other_number) r) (got ∙ ap (λ b. cond b (option_map (λ inner. map.remove inner number) (map.get m other)) (map.get m other)) t)) ∙ is in
          let both = of_map (map.get m other) number other_number y here in
          (both.0, λ same. both.1)
      at false t = (
        sym (ap (λ r. option_and_then (λ i. map.get i other_number) r) (got ∙ ap (λ b. cond b (option_map (λ inner. map.remove inner number) (map.get m other)) (map.get m other)) t))
            ∙ is,
        λ same. absurd (let yes : eq_by_cmp (slice_cmp nat_cmp) other account ≡ true = subst (λ k. eq_by_cmp (slice_cmp nat_cmp) other k ≡ true) (sym same) ((eq_by_cmp_equiv nat_list_cmp_total).refl other) in cc),
      )

-- what is put back at its place changes nothing
pub with_value-same : {X : Type 0} (m : FinMap (slice_cmp nat_cmp) X) (k : List ℕ) (v : X) → map.get m k ≡ Some v
    → with_value m k v ≡ m
with_value-same {X} m k v is = ap (λ r. elim r [ None ↦ m | Some _ ↦ map.insert m k v ]) is ∙ map.same_map nat_list_cmp_total bytes_cmp-IsAntisymmetric (map.insert m k v) m each
  where
    at : (q : List ℕ) (b : Bool) → eq_by_cmp (slice_cmp nat_cmp) q k ≡ b → cond b (Some v) (map.get m q) ≡ map.get m q
    at q true t = sym (ap (map.get m) (bytes_cmp-IsAntisymmetric q k (tied _ t)) ∙ is)
    at q false t = refl

    each : (q : List ℕ) → map.get (map.insert m k v) q ≡ map.get m q
    each q = map.get-insert nat_list_cmp_total m k v q ∙ at q (eq_by_cmp (slice_cmp nat_cmp) q k) refl

-- a blob that came in is there
pub blob_here : {X : Type 0} (m : ByBlob X) (account : List ℕ) (number : ℕ) (x : X)
    → at_blob (with_blob m account number x) account number ≡ Some x
blob_here {X} m account number x =
    let inner : FinMap nat_cmp X = map.insert (unwrap_or (map.get m account) map.empty) number x in
    ap (λ r. option_and_then (λ i. map.get i number) r)
    (map.get-insert nat_list_cmp_total m account inner account ∙ ap (λ b. cond b (Some inner) (map.get m account)) ((eq_by_cmp_equiv nat_list_cmp_total).refl account))
    ∙ map.get-insert nat_cmp_total (unwrap_or (map.get m account) map.empty) number x number
    ∙ ap (λ b. cond b (Some x) (map.get (unwrap_or (map.get m account) map.empty) number)) ((eq_by_cmp_equiv nat_cmp_total).refl number)

-- and in no blob there is none
pub no_blob_at : {X : Type 0} (account : List ℕ) (number : ℕ) → at_blob {X = X} map.empty account number ≡ None
no_blob_at {X} account number = ap (λ r. option_and_then (λ (i : FinMap nat_cmp X). map.get i number) r) (map.get-empty (slice_cmp nat_cmp) account)
