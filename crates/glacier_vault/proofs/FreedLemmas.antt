-- What deletions free.
use Rattle.std.specs.Prelude.{◌≡◌, ℕ, ◌+◌, ◌-◌, true, false, cond, List, [], ◌∷◌, ◌++◌, Option, Some, None, IsSome, nat_eq, sum_by}
use Rattle.std.specs.FinMap as map
use Rattle.std.proofs.Common.{◌∙◌, ap, refl, subst, arith}
use Rattle.std.proofs.lemmas.List.Sums.{sum_by-cons}
use Rattle.glacier_base.specs.Maps.{changed_at}
use Rattle.glacier_vault.specs.Deletions.{has_content, deletion_refusal, delete_row, without_archive, freed_by_deletion, live_archive, deletion}
use Rattle.glacier_vault.specs.Freed.{times_in, FreesJust, RowFreesJust}
use Rattle.glacier_vault.specs.Lawful.{IsLawful}
use Rattle.glacier_vault.specs.Named.{is_named, blobs_of}
use Rattle.glacier_vault.specs.Rows.{no_change, changed_freeing, with_vaults, in_vault}
use Rattle.glacier_vault.specs.Totals.{naming, times_named}
use Rattle.glacier_vault.specs.declared.archive.Archive.{Archive}
use Rattle.glacier_vault.specs.declared.event.Change.{Change}
use Rattle.glacier_vault.specs.declared.event.Event.TheVariants as events
use Rattle.glacier_vault.specs.declared.refusal.Refusal.{Refusal}
use Rattle.glacier_vault.specs.declared.state.AccountState.{AccountState}
use Rattle.glacier_vault.specs.declared.state.VaultState.{VaultState}
use Rattle.glacier_vault.proofs.DeletionLemmas.{bare_where, held_total, by_refusal, by_vault}
use Rattle.glacier_vault.proofs.TotalsLemmas.{naming_of_bodies, total-remove, total-changed_at}
use Rattle.glacier_vault.proofs.WithoutArchive.{of_live, balance}

-- how often a number stands in two lists together
pub times_in-append : (blob : ℕ) (xs ys : List ℕ) → times_in blob (xs ++ ys) ≡ times_in blob xs + times_in blob ys
times_in-append blob [] ys = omega arith
times_in-append blob (x ∷ xs) ys =
    let hit = λ (n : ℕ). cond {A = ℕ} (nat_eq n blob) 1 0 in
    let goal : sum_by hit (x ∷ (xs ++ ys)) ≡ sum_by hit (x ∷ xs) + sum_by hit ys = omega (arith, times_in-append blob xs ys, sum_by-cons hit x (xs ++ ys), sum_by-cons hit x xs) in
    goal

-- how often it stands among the blobs of archives
pub times_in-blobs_of : (blob : ℕ) (archives : List Archive) → times_in blob (blobs_of archives) ≡ sum_by (naming blob).archive archives
times_in-blobs_of blob [] = refl
times_in-blobs_of blob (archive ∷ archives) =
    omega (arith, times_in-append blob archive.blobs (blobs_of archives), times_in-blobs_of blob archives, sum_by-cons (naming blob).archive archive archives)

-- what stays as it was frees nothing
pub same-frees : (a : AccountState) → FreesJust a a []
same-frees a blob = omega arith

module _ (a : AccountState) (m : ℕ) (name : List ℕ) (lawful : IsLawful a) where
  frees-removed : (vault : VaultState) → map.get a.vaults name ≡ Some vault → has_content vault ≡ false
      → FreesJust a (with_vaults a m (map.remove a.vaults name)) (blobs_of (map.values vault.held))
  frees-removed vault there bare blob = omega (arith, times_in-blobs_of blob (map.values vault.held), held_total vault (naming blob) bare (naming_of_bodies blob), total-remove (naming blob) a.vaults name vault there)

  frees-by_refusal : (vault : VaultState) → map.get a.vaults name ≡ Some vault → (r : Option Refusal) → deletion_refusal vault ≡ r → RowFreesJust a (by_refusal a m name vault r)
  frees-by_refusal vault there (Some refusal) e = same-frees a
  frees-by_refusal vault there None e = frees-removed vault there (bare_where vault e)

  frees-by_vault : (r : Option VaultState) → map.get a.vaults name ≡ r → RowFreesJust a (by_vault a m name r)
  frees-by_vault None there = same-frees a
  frees-by_vault (Some vault) there = frees-by_refusal vault there (deletion_refusal vault) refl

  pub delete-frees : RowFreesJust a (delete_row a m name)
  delete-frees = frees-by_vault (map.get a.vaults name) refl

  module _ (number : ℕ) where
    abbrev freed_in : Option VaultState → List ℕ
    freed_in r = (elim r as (λ _. Change) [ None ↦ no_change | Some vault ↦ changed_freeing (events.DeleteArchive name number) (freed_by_deletion number vault) ]).freed

    freed_at : (vault : VaultState) (archive : Archive) → map.get vault.archives number ≡ Some archive → (blob : ℕ) → times_in blob (freed_by_deletion number vault) ≡ cond (is_named vault.jobs number) 0 ((naming blob).archive archive)
    freed_at vault archive live blob =
        ap (λ r. times_in blob (cond (is_named vault.jobs number) [] (elim r [ None ↦ [] | Some a ↦ a.blobs ]))) live
        ∙ elim (is_named vault.jobs number) as (λ b. times_in blob (cond b [] archive.blobs) ≡ cond b 0 (times_in blob archive.blobs)) [ true ↦ refl | false ↦ refl ]

    frees-archive : (vault : VaultState) → map.get a.vaults name ≡ Some vault → IsSome (live_archive a name number) → (blob : ℕ)
        → times_in blob (freed_by_deletion number vault) ≡ times_named blob a.vaults - times_named blob (changed_at (without_archive number) a.vaults name)
    frees-archive vault there some blob = of_live a m lawful name number vault there some _ (λ archive live.
        omega (arith, freed_at vault archive live blob, balance a m lawful name number vault there archive live (naming blob), total-changed_at (naming blob) a.vaults name vault there (without_archive number)))

    pub archive-frees : IsSome (live_archive a name number) → FreesJust a (in_vault a m name (without_archive number)) (deletion a name number).freed
    archive-frees some blob = at (map.get a.vaults name) refl
      where
        at : (r : Option VaultState) → map.get a.vaults name ≡ r → times_in blob (freed_in r) ≡ times_named blob a.vaults - times_named blob (changed_at (without_archive number) a.vaults name)
        at (Some vault) there = frees-archive vault there some blob
        at None there = absurd (none_live None refl (subst (λ r. IsSome (elim r as (λ _. Option Archive) [ None ↦ None | Some vault ↦ map.get vault.archives number ])) there some))
          where
            none_live : (r : Option Archive) → r ≡ None → IsSome r → ⊥
            none_live None e s = cc
            none_live (Some archive) e s = cc
