-- What time does to an account that was never changed.
use Rattle.std.proofs.Common.{◌≡◌, ℕ, false, List, [], ◌∷◌, length, refl, sym, ◌∙◌}
use Rattle.std.specs.Cmp.Lexicographic.{slice_cmp}
use Rattle.std.specs.FinMap as map
use Rattle.std.specs.List.{list_any}
use Rattle.std.specs.Ordering.{nat_cmp}
use Rattle.std.specs.Prelude.{map as each}
use Rattle.glacier_job.specs.Pass.{pass_is_event, vault_is_due}
use Rattle.glacier_vault.specs.Account.{empty_account}
use Rattle.glacier_vault.specs.declared.state.VaultState.{VaultState}

-- it waits for nothing
pub none_due : (m : ℕ) → pass_is_event m empty_account ≡ false
none_due m = at (map.entries (map.empty {X = VaultState} {R = slice_cmp nat_cmp})) (sym (map.len-entries (map.empty {X = VaultState} {R = slice_cmp nat_cmp})) ∙ map.len-empty (slice_cmp nat_cmp) VaultState)
  where
    at : (es : List (List ℕ × VaultState)) → length es ≡ 0 → list_any (vault_is_due m) (each (λ e. e.1) es) ≡ false
    at [] none = refl
    at (e ∷ es) none = absurd (cc none)
