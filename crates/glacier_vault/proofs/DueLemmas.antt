-- The moment that is due in an account's vaults, after a change of them, and in a vault.
use Rattle.std.specs.Prelude.{◌≡◌, ℕ, Bool, true, false, not, cond, ◌||◌, List, Option, Some, None}
use Rattle.std.specs.Cmp.{nat_cmp_total}
use Rattle.std.specs.Cmp.Lexicographic.{nat_list_cmp_total, slice_cmp}
use Rattle.std.specs.FinMap as map
use Rattle.std.specs.List.{list_any}
use Rattle.std.specs.Ordering.{nat_cmp}
use Rattle.std.proofs.Common.{◌∙◌, ap, sym, refl, arith}
use Rattle.std.proofs.lemmas.Bool.{le-leb}
use Rattle.glacier_base.specs.Maps.{changed_at}
use Rattle.glacier_vault.specs.Account.{new_vault}
use Rattle.glacier_vault.specs.Due.{sooner, soonest, has_come, job_due, finished_due, held_due, content_due, vault_due, due_in}
use Rattle.glacier_vault.specs.Named.{is_named}
use Rattle.glacier_vault.specs.Totals.{Vaults}
use Rattle.glacier_vault.specs.declared.archive.Archive.{Archive}
use Rattle.glacier_vault.specs.declared.state.VaultState.{VaultState}
use Rattle.glacier_vault.proofs.SoonerLemmas.{sooner-none}
use Rattle.glacier_vault.proofs.SoonestLemmas.{soonest-empty, soonest-missing, soonest-changed_at, any-keys-insert, any-keys-empty}

pub due_in-empty : due_in map.empty ≡ None
due_in-empty = soonest-empty (slice_cmp nat_cmp) vault_due

module _ (vaults : Vaults) (name : List ℕ) (vault : VaultState) where
  -- one vault more
  pub due_in-insert : map.get vaults name ≡ None → due_in (map.insert vaults name vault) ≡ sooner (due_in vaults) (vault_due vault)
  due_in-insert none = soonest-missing nat_list_cmp_total vault_due vaults name vault none

  module _ (there : map.get vaults name ≡ Some vault) (f : VaultState → VaultState) where
    -- a vault whose moment becomes x if that is sooner
    pub due_in-sooner : (x : Option ℕ) → vault_due (f vault) ≡ sooner (vault_due vault) x → due_in (changed_at f vaults name) ≡ sooner (due_in vaults) x
    due_in-sooner x h = soonest-changed_at nat_list_cmp_total vault_due vaults name f vault x there h

    -- a vault whose moment stays
    pub due_in-same : vault_due (f vault) ≡ vault_due vault → due_in (changed_at f vaults name) ≡ due_in vaults
    due_in-same h = due_in-sooner None (h ∙ sym (sooner-none (vault_due vault))) ∙ sooner-none (due_in vaults)

-- whether a held archive goes at once
pub has_come-held_due : (m : ℕ) (vault : VaultState) → has_come m (held_due vault) ≡ list_any (λ number. not (is_named vault.jobs number)) (map.keys vault.held)
has_come-held_due m vault = at (list_any (λ number. not (is_named vault.jobs number)) (map.keys vault.held))
  where
    at : (b : Bool) → has_come m (cond b (Some 0) None) ≡ b
    at true = le-leb 0 m (omega arith)
    at false = refl

-- a vault that is made has nothing that is due
pub content_due-new_vault : (m : ℕ) → content_due (new_vault m) ≡ None
content_due-new_vault m =
    ap (λ x. sooner x (sooner (soonest finished_due (map.values (new_vault m).finished)) (held_due (new_vault m)))) (soonest-empty nat_cmp job_due)
    ∙ ap (λ x. sooner x (held_due (new_vault m))) (soonest-empty nat_cmp finished_due)
    ∙ ap (λ b. cond b (Some 0) None) (any-keys-empty Archive nat_cmp (λ number. not (is_named (new_vault m).jobs number)))

-- an archive that is held for a finished job moves nothing
pub held_due-kept : (vault : VaultState) (number : ℕ) (archive : Archive) → is_named vault.jobs number ≡ true
    → held_due (record vault { held = map.insert vault.held number archive }) ≡ held_due vault
held_due-kept vault number archive named =
    let test = λ (n : ℕ). not (is_named vault.jobs n) in
    ap (λ b. cond b (Some 0) None) (any-keys-insert nat_cmp_total map.nat_cmp-IsAntisymmetric test vault.held number archive ∙ ap (λ b. not b || list_any test (map.keys vault.held)) named)
