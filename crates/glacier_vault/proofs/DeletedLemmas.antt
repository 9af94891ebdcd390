-- What the deletion of a vault does.
use Rattle.std.specs.Prelude.{◌≡◌, ◌≢◌, ℕ, ◌+◌, Bool, true, false, cond, List, Option, Some, None, Ok, IsOk, is_some}
use Rattle.std.specs.Cmp.{eq_by_cmp_equiv}
use Rattle.std.specs.Cmp.Lexicographic.{nat_list_cmp_total, slice_cmp}
use Rattle.std.specs.FinMap as map
use Rattle.std.specs.Ordering.{nat_cmp, eq_by_cmp}
use Rattle.std.proofs.Common.{◌∙◌, ap, refl, sym, subst}
use Rattle.glacier_base.proofs.Finite.{bytes_cmp-IsAntisymmetric}
use Rattle.glacier_base.proofs.Sorted.{tied}
use Rattle.glacier_vault.proofs.CreatedLemmas.{found_or, event_of}
use Rattle.glacier_vault.proofs.DeletionLemmas.{by_refusal, by_vault}
use Rattle.glacier_vault.specs.Deleted.{Deletes, after_delete}
use Rattle.glacier_vault.specs.Rows.{answer, state_after, no_change, changed_freeing, with_vaults}
use Rattle.glacier_vault.specs.Deletions.{deletion_refusal, delete_row}
use Rattle.glacier_vault.specs.declared.event.Event.TheVariants.{DeleteVault}
use Rattle.glacier_vault.specs.declared.refusal.Refusal.{Refusal}
use Rattle.glacier_vault.specs.declared.state.AccountState.{AccountState}
use Rattle.glacier_vault.specs.declared.state.VaultState.{VaultState}

module _ (a : AccountState) (m : ℕ) (name : List ℕ) where
  abbrev without_vault : AccountState
  without_vault = with_vaults a m (map.remove a.vaults name)

  no_vault : map.get without_vault.vaults name ≡ None
  no_vault = map.get-remove nat_list_cmp_total a.vaults name name ∙ ap (λ b. cond b None (map.get a.vaults name)) ((eq_by_cmp_equiv nat_list_cmp_total).refl name)

  other_vault : (other : List ℕ) → other ≢ name → map.get without_vault.vaults other ≡ map.get a.vaults other
  other_vault other apart = map.get-remove nat_list_cmp_total a.vaults name other ∙ at (eq_by_cmp (slice_cmp nat_cmp) other name) refl
    where
      at : (b : Bool) → eq_by_cmp (slice_cmp nat_cmp) other name ≡ b → cond b None (map.get a.vaults other) ≡ map.get a.vaults other
      at true t = absurd (apart (bytes_cmp-IsAntisymmetric other name (tied _ t)))
      at false t = refl

  -- the vault put back makes the account that was
  put_back : (v : VaultState) → map.get a.vaults name ≡ Some v → map.insert without_vault.vaults name v ≡ a.vaults
  put_back v e = map.same_map nat_list_cmp_total bytes_cmp-IsAntisymmetric _ _ (λ q. map.get-insert nat_list_cmp_total without_vault.vaults name v q
      ∙ ap (cond (eq_by_cmp (slice_cmp nat_cmp) q name) (Some v)) (map.get-remove nat_list_cmp_total a.vaults name q) ∙ at q (eq_by_cmp (slice_cmp nat_cmp) q name) refl)
    where
      at : (q : List ℕ) (b : Bool) → eq_by_cmp (slice_cmp nat_cmp) q name ≡ b → cond b (Some v) (cond b None (map.get a.vaults q)) ≡ map.get a.vaults q
      at q true t = sym (ap (map.get a.vaults) (bytes_cmp-IsAntisymmetric q name (tied _ t)) ∙ e)
      at q false t = refl

  one_less_vault : (v : VaultState) → map.get a.vaults name ≡ Some v → map.len without_vault.vaults + 1 ≡ map.len a.vaults
  one_less_vault v e =
      sym (map.len-insert nat_list_cmp_total without_vault.vaults name v
      ∙ ap (λ r. cond (is_some r) (map.len without_vault.vaults) (map.len without_vault.vaults + 1)) no_vault)
      ∙ ap map.len (put_back v e)

  deletes : (v : VaultState) → map.get a.vaults name ≡ Some v → Deletes a without_vault m name
  deletes v e = record {
    was = subst (λ r. IsOk (found_or name r)) (sym e) refl;
    gone = ap (found_or name) no_vault;
    others = λ other apart. ap (found_or other) (other_vault other apart);
    one_less = one_less_vault v e;
    last = refl;
    counter = refl;
  }

  pub event_deletes : (freed : List ℕ) → answer (delete_row a m name) ≡ Ok (changed_freeing (DeleteVault name) freed) → Deletes a (after_delete a m name) m name
  event_deletes freed = at (map.get a.vaults name) refl
    where
      by : (v : VaultState) → map.get a.vaults name ≡ Some v → (r : Option Refusal) → answer (by_refusal a m name v r) ≡ Ok (changed_freeing (DeleteVault name) freed) → Deletes a (state_after a (by_refusal a m name v r)) m name
      by v e None h = deletes v e
      by v e (Some refusal) h = let none : None ≡ Some (DeleteVault name) = ap event_of h in cc

      at : (r : Option VaultState) → map.get a.vaults name ≡ r → answer (by_vault a m name r) ≡ Ok (changed_freeing (DeleteVault name) freed) → Deletes a (state_after a (by_vault a m name r)) m name
      at (Some v) e h = by v e (deletion_refusal v) h
      at None e h = let none : None ≡ Some (DeleteVault name) = ap event_of h in cc

  -- a vault that isn't there isn't deleted
  away : (b : AccountState) (again : ℕ) → map.get b.vaults name ≡ None → delete_row b again name ≡ Ok (b, no_change)
  away b again e = ap (by_vault b again name) e

  pub deleted_once : (again : ℕ) → IsOk (delete_row a m name) → delete_row (after_delete a m name) again name ≡ Ok (after_delete a m name, no_change)
  deleted_once again = at (map.get a.vaults name) refl
    where
      by : (v : VaultState) (r : Option Refusal) → IsOk (by_refusal a m name v r) → delete_row (state_after a (by_refusal a m name v r)) again name ≡ Ok (state_after a (by_refusal a m name v r), no_change)
      by v None h = away without_vault again no_vault
      by v (Some refusal) h = cc

      at : (r : Option VaultState) → map.get a.vaults name ≡ r → IsOk (by_vault a m name r) → delete_row (state_after a (by_vault a m name r)) again name ≡ Ok (state_after a (by_vault a m name r), no_change)
      at (Some v) e h = by v (deletion_refusal v) h
      at None e h = away a again e
