-- What the creation of a vault does.
use Rattle.std.specs.Prelude.{◌≡◌, ◌≢◌, ℕ, ◌≤◌, ◌+◌, Bool, true, false, cond, List, Option, Some, None, Ok, Err, Result, IsOk, is_some, nat_le}
use Rattle.std.specs.Cmp.{eq_by_cmp_equiv}
use Rattle.std.specs.Cmp.Lexicographic.{nat_list_cmp_total, slice_cmp}
use Rattle.std.specs.FinMap as map
use Rattle.std.specs.Ordering.{nat_cmp, eq_by_cmp}
use Rattle.std.proofs.Common.{◌∙◌, ap, refl, arith}
use Rattle.std.proofs.lemmas.Bool.{leb-false}
use Rattle.glacier_base.proofs.Finite.{bytes_cmp-IsAntisymmetric}
use Rattle.glacier_base.proofs.Sorted.{tied}
use Rattle.glacier_vault.specs.Account.{new_vault}
use Rattle.glacier_vault.specs.Created.{Creates, after_create}
use Rattle.glacier_vault.specs.Rows.{Row, answer, state_after, create_row, no_change, changed, with_vaults}
use Rattle.glacier_vault.specs.declared.event.Change.{Change}
use Rattle.glacier_vault.specs.declared.event.Event.{Event}
use Rattle.glacier_vault.specs.declared.event.Event.TheVariants.{CreateVault}
use Rattle.glacier_vault.specs.declared.refusal.Refusal.{Refusal}
use Rattle.glacier_vault.specs.declared.refusal.Refusal.TheVariants.{NoVault, VaultLimit}
use Rattle.glacier_vault.specs.declared.state.AccountState.{AccountState}
use Rattle.glacier_vault.specs.declared.state.VaultState.{VaultState}
use Rattle.glacier_vault.specs.declared.vault.TheConstants.{MOST_VAULTS}

abbrev pub found_or : List ℕ → Option VaultState → Result VaultState Refusal
found_or name r = elim r [ None ↦ Err (NoVault name) | Some vault ↦ Ok vault ]

abbrev pub event_of : Result Change Refusal → Option Event
event_of (Ok change) = change.event
event_of (Err refusal) = None

module _ (a : AccountState) (m : ℕ) (name : List ℕ) where
  abbrev with_vault : AccountState
  with_vault = with_vaults a m (map.insert a.vaults name (new_vault m))

  -- the row, by what is there and by whether there are as many vaults as there may be
  abbrev row_of : Option VaultState → Bool → Row Change
  row_of r full = cond (is_some r) (Ok (a, no_change)) (cond full (Err VaultLimit) (Ok (with_vault, changed (CreateVault name))))

  abbrev full : Bool
  full = nat_le MOST_VAULTS (map.len a.vaults)

  this_vault : map.get with_vault.vaults name ≡ Some (new_vault m)
  this_vault = map.get-insert nat_list_cmp_total a.vaults name (new_vault m) name ∙ ap (λ b. cond b (Some (new_vault m)) (map.get a.vaults name)) ((eq_by_cmp_equiv nat_list_cmp_total).refl name)

  other_vault : (other : List ℕ) → other ≢ name → map.get with_vault.vaults other ≡ map.get a.vaults other
  other_vault other apart = map.get-insert nat_list_cmp_total a.vaults name (new_vault m) other ∙ at (eq_by_cmp (slice_cmp nat_cmp) other name) refl
    where
      at : (b : Bool) → eq_by_cmp (slice_cmp nat_cmp) other name ≡ b → cond b (Some (new_vault m)) (map.get a.vaults other) ≡ map.get a.vaults other
      at true t = absurd (apart (bytes_cmp-IsAntisymmetric other name (tied _ t)))
      at false t = refl

  one_more_vault : map.get a.vaults name ≡ None → map.len with_vault.vaults ≡ map.len a.vaults + 1
  one_more_vault e = map.len-insert nat_list_cmp_total a.vaults name (new_vault m) ∙ ap (λ r. cond (is_some r) (map.len a.vaults) (map.len a.vaults + 1)) e

  creates : map.get a.vaults name ≡ None → Creates a with_vault m name
  creates e = record {
    missed = ap (found_or name) e;
    made = ap (found_or name) this_vault;
    others = λ other apart. ap (found_or other) (other_vault other apart);
    one_more = one_more_vault e;
    last = refl;
    counter = refl;
  }

  pub event_creates : answer (create_row a m name) ≡ Ok (changed (CreateVault name)) → Creates a (after_create a m name) m name
  event_creates = at (map.get a.vaults name) full refl
    where
      at : (r : Option VaultState) (b : Bool) → map.get a.vaults name ≡ r → answer (row_of r b) ≡ Ok (changed (CreateVault name)) → Creates a (state_after a (row_of r b)) m name
      at (Some v) b e h = let none : None ≡ Some (CreateVault name) = ap event_of h in cc
      at None true e h = let none : None ≡ Some (CreateVault name) = ap event_of h in cc
      at None false e h = creates e

  -- a vault that is there isn't made again
  there : (b : AccountState) (v : VaultState) (again : ℕ) → map.get b.vaults name ≡ Some v → create_row b again name ≡ Ok (b, no_change)
  there b v again e = ap (λ r. cond (is_some r) (Ok (b, no_change)) (cond (nat_le MOST_VAULTS (map.len b.vaults)) (Err VaultLimit) (Ok (with_vaults b again (map.insert b.vaults name (new_vault again)), changed (CreateVault name))))) e

  pub again_changes_nothing : (again : ℕ) → IsOk (create_row a m name) → create_row (after_create a m name) again name ≡ Ok (after_create a m name, no_change)
  again_changes_nothing again = at (map.get a.vaults name) full refl
    where
      at : (r : Option VaultState) (b : Bool) → map.get a.vaults name ≡ r → IsOk (row_of r b) → create_row (state_after a (row_of r b)) again name ≡ Ok (state_after a (row_of r b), no_change)
      at (Some v) b e h = there a v again e
      at None true e h = cc
      at None false e h = there with_vault (new_vault m) again this_vault

  pub limit_stays : map.len a.vaults ≤ MOST_VAULTS → map.len (after_create a m name).vaults ≤ MOST_VAULTS
  limit_stays h = at (map.get a.vaults name) full refl refl
    where
      at : (r : Option VaultState) (b : Bool) → map.get a.vaults name ≡ r → full ≡ b → map.len (state_after a (row_of r b)).vaults ≤ MOST_VAULTS
      at (Some v) b e f = h
      at None true e f = h
      at None false e f = omega (arith, one_more_vault e, leb-false MOST_VAULTS (map.len a.vaults) f)
