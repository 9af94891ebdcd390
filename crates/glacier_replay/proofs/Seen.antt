-- What is seen of the vault of a name, after a change of other vaults or of what isn't seen.
use Rattle.std.specs.Prelude.{◌≡◌, ℕ, Bool, true, false, cond, not, ◌&&◌, List, Option, Some, None, is_some, is_none}
use Rattle.std.specs.Cmp.Lexicographic.{nat_list_cmp_total, slice_cmp}
use Rattle.std.specs.FinMap as map
use Rattle.std.specs.Option.{option_map}
use Rattle.std.specs.Ordering.{nat_cmp, eq_by_cmp}
use Rattle.std.proofs.Common.{◌∙◌, ap, sym, refl, subst}
use Rattle.glacier_base.specs.Maps.{changed_at}
use Rattle.glacier_base.proofs.Changed.{get-changed_at}
use Rattle.glacier_base.proofs.Finite.{bytes_cmp-IsAntisymmetric}
use Rattle.glacier_base.proofs.Sorted.{tied}
use Rattle.glacier_vault.specs.Totals.{Vaults}
use Rattle.glacier_vault.specs.declared.refusal.Refusal.TheVariants.{VaultNotEmpty, VaultLocked}
use Rattle.glacier_vault.specs.declared.state.AccountState.{AccountState}
use Rattle.glacier_vault.specs.declared.state.VaultState.{VaultState}
use Rattle.glacier_replay.specs.Replayed.{Replay, where_fits, with_found}

-- what fits gives what it was to give
pub fitted : (b : Bool) (x p : AccountState × List ℕ) → where_fits b x ≡ Some p → (b ≡ true) × (x ≡ p)
fitted true x p e = (refl, cc)
fitted false x p e = cc

pub both : (a b : Bool) → (a && b) ≡ true → (a ≡ true) × (b ≡ true)
both true b e = (refl, e)
both false b e = cc

pub not_true : (b : Bool) → not b ≡ true → b ≡ false
not_true true e = cc
not_true false e = refl

-- a vault that may go has no content, and no lock that is locked
pub may_go : (full fixed : Bool) → is_none (cond full (Some VaultNotEmpty) (cond fixed (Some VaultLocked) None)) ≡ true → (full ≡ false) × (fixed ≡ false)
may_go true fixed e = cc
may_go false true e = cc
may_go false false e = (refl, refl)

-- what is seen of a vault, if it is there
abbrev pub seen_in : {Y : Type 0} → (VaultState → Option Y) → Option VaultState → Option Y
seen_in view r = elim r [ None ↦ None | Some vault ↦ view vault ]

module _ {Y : Type 0} (vaults : Vaults) (name : List ℕ) (view : VaultState → Option Y) (y : Y) (is_seen : seen_in view (map.get vaults name) ≡ Some y) where
  -- the vault of the name is there
  pub there : (P : Type 0) → ((vault : VaultState) → map.get vaults name ≡ Some vault → view vault ≡ Some y → P) → P
  there P f = at (map.get vaults name) refl is_seen
    where
      at : (r : Option VaultState) → map.get vaults name ≡ r → seen_in view r ≡ Some y → P
      at None e l = cc
      at (Some vault) e l = f vault e l

  -- a change that keeps what is seen of the vault that it is made in, if that is the one
  pub in_vault_keeps : (other : List ℕ) (f : VaultState → VaultState) → ((vault : VaultState) → name ≡ other → map.get vaults other ≡ Some vault → view vault ≡ Some y → view (f vault) ≡ Some y)
      → seen_in view (map.get (changed_at f vaults other) name) ≡ Some y
  in_vault_keeps other f keeps = there _ (λ vault e l. ap (seen_in view) (get-changed_at nat_list_cmp_total f vaults other name) ∙ at vault e l (eq_by_cmp (slice_cmp nat_cmp) name other) refl)
    where
      at : (vault : VaultState) → map.get vaults name ≡ Some vault → view vault ≡ Some y → (b : Bool) → eq_by_cmp (slice_cmp nat_cmp) name other ≡ b
          → seen_in view (cond b (option_map f (map.get vaults name)) (map.get vaults name)) ≡ Some y
      at vault e l true t =
          let same : name ≡ other = bytes_cmp-IsAntisymmetric name other (tied _ t) in
          ap (λ r. seen_in view (option_map f r)) e ∙ keeps vault same (ap (λ n. map.get vaults n) (sym same) ∙ e) l
      at vault e l false t = is_seen

  -- one that leaves what is seen of each vault
  pub stays : (other : List ℕ) (f : VaultState → VaultState) → ((vault : VaultState) → view (f vault) ≡ view vault) → seen_in view (map.get (changed_at f vaults other) name) ≡ Some y
  stays other f same = in_vault_keeps other f (λ vault _ _ l. same vault ∙ l)

  pub inserted : (other : List ℕ) (vault : VaultState) → map.contains_key vaults other ≡ false → seen_in view (map.get (map.insert vaults other vault) name) ≡ Some y
  inserted other vault absent = ap (seen_in view) (map.get-insert nat_list_cmp_total vaults other vault name) ∙ at (eq_by_cmp (slice_cmp nat_cmp) name other) refl
    where
      at : (b : Bool) → eq_by_cmp (slice_cmp nat_cmp) name other ≡ b → seen_in view (cond b (Some vault) (map.get vaults name)) ≡ Some y
      at true t =
          let same : name ≡ other = bytes_cmp-IsAntisymmetric name other (tied _ t) in
          there _ (λ found e l. let here : true ≡ false = ap is_some (sym e) ∙ ap (λ n. map.contains_key vaults n) same ∙ absent in cc)
      at false t = is_seen

  -- a vault of which this isn't seen is removed
  pub removed : (other : List ℕ) (vault : VaultState) → map.get vaults other ≡ Some vault → (view vault ≡ Some y → ⊥) → seen_in view (map.get (map.remove vaults other) name) ≡ Some y
  removed other vault found free = ap (seen_in view) (map.get-remove nat_list_cmp_total vaults other name) ∙ at (eq_by_cmp (slice_cmp nat_cmp) name other) refl
    where
      at : (b : Bool) → eq_by_cmp (slice_cmp nat_cmp) name other ≡ b → seen_in view (cond b None (map.get vaults name)) ≡ Some y
      at true t =
          let same : name ≡ other = bytes_cmp-IsAntisymmetric name other (tied _ t) in
          there _ (λ here e l.
          let one : Some here ≡ Some vault = sym e ∙ ap (λ n. map.get vaults n) same ∙ found in
          let is : here ≡ vault = cc in
          absurd (free (ap view (sym is) ∙ l)))
      at false t = is_seen

-- the same of what fits
module _ {Y : Type 0} (name : List ℕ) (view : VaultState → Option Y) (y : Y) where
  pub of_fitted : (b : Bool) (x p : AccountState × List ℕ) → where_fits b x ≡ Some p → (b ≡ true → seen_in view (map.get x.0.vaults name) ≡ Some y) → seen_in view (map.get p.0.vaults name) ≡ Some y
  of_fitted b x p e keeps = let h = fitted b x p e in subst (λ (q : AccountState × List ℕ). seen_in view (map.get q.0.vaults name) ≡ Some y) h.1 (keeps h.0)

  pub of_some : (x p : AccountState × List ℕ) → ◌≡◌ {A = Replay} (Some x) (Some p) → seen_in view (map.get x.0.vaults name) ≡ Some y → seen_in view (map.get p.0.vaults name) ≡ Some y
  of_some x p e keeps = let same : x ≡ p = cc in subst (λ (q : AccountState × List ℕ). seen_in view (map.get q.0.vaults name) ≡ Some y) same keeps

  pub of_found : {X : Type 0} (r : Option X) (next : X → Replay) (p : AccountState × List ℕ) → with_found r next ≡ Some p
      → ((x : X) → r ≡ Some x → next x ≡ Some p → seen_in view (map.get p.0.vaults name) ≡ Some y) → seen_in view (map.get p.0.vaults name) ≡ Some y
  of_found None next p e f = cc
  of_found (Some x) next p e f = f x refl e
