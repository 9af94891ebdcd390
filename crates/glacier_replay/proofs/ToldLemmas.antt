-- What a body's blobs hold, when other blobs come and go; and what names them.
use Rattle.std.specs.Prelude.{◌≡◌, ℕ, ◌≤◌, Bool, true, false, cond, ◌||◌, List, [], ◌∷◌, ◌++◌, Some, IfSome, length, nat_eq, unwrap_or}
use Rattle.std.specs.Cmp.{nat_cmp_total, eq_by_cmp_equiv}
use Rattle.std.specs.Cmp.Lexicographic.{nat_list_cmp_total}
use Rattle.std.specs.FinMap as map
use Rattle.std.specs.List.{list_any}
use Rattle.std.specs.Ordering.{nat_cmp, eq_by_cmp}
use Rattle.std.proofs.Common.{sym, ◌∙◌, ap, subst, refl, inl, arith, eq-eqb}
use Rattle.std.proofs.lemmas.Bool.{eqb-true}
use Rattle.std.proofs.lemmas.List.Sums.{sum_by-cons}
use Rattle.glacier_base.proofs.Finite.{bytes_cmp-IsAntisymmetric}
use Rattle.glacier_bodies.specs.BlobAreas.{bytes_of}
use Rattle.glacier_bodies.specs.Stands.{Bodies, at_blob}
use Rattle.glacier_treehash.specs.Leaves.{leaves_of}
use Rattle.glacier_vault.specs.Freed.{times_in}
use Rattle.glacier_vault.specs.Totals.{naming, times_named, upload_total, vault_total}
use Rattle.glacier_vault.specs.declared.archive.Archive.{Archive}
use Rattle.glacier_vault.specs.declared.archive.Part.{Part}
use Rattle.glacier_vault.specs.declared.archive.Upload.{Upload}
use Rattle.glacier_vault.specs.declared.state.AccountState.{AccountState}
use Rattle.glacier_vault.specs.declared.state.VaultState.{VaultState}
use Rattle.glacier_vault.proofs.Later.{weaker_there}
use Rattle.glacier_upload.proofs.SameText.{count-alone}
use Rattle.glacier_replay.specs.Standing.{AreThere, IsTold, InVault, InAccount}
use Rattle.glacier_replay.proofs.BlobMaps.{number_is}
use Rattle.glacier_replay.proofs.NamedLemmas.{value_within}

-- the first of some numbers stands among them, and so do the others
pub among_first : (k : ℕ) (ks : List ℕ) → 1 ≤ times_in k (k ∷ ks)
among_first k ks = omega (arith, sum_by-cons (λ (j : ℕ). cond {A = ℕ} (nat_eq j k) 1 0) k ks, ap (λ b. cond {A = ℕ} b 1 0) (eq-eqb k k refl))

pub among_more : (n k : ℕ) (ks : List ℕ) → times_in n ks ≤ times_in n (k ∷ ks)
among_more n k ks = omega (arith, sum_by-cons (λ (j : ℕ). cond {A = ℕ} (nat_eq j n) 1 0) k ks)

-- what stands nowhere isn't found, and what isn't found stands nowhere
pub none_any : (n : ℕ) (ks : List ℕ) → times_in n ks ≡ 0 → list_any (eq_by_cmp nat_cmp n) ks ≡ false
none_any n [] e = refl
none_any n (k ∷ ks) e = at (eq_by_cmp nat_cmp n k) refl (none_any n ks)
  where
    at : (b : Bool) → eq_by_cmp nat_cmp n k ≡ b → (times_in n ks ≡ 0 → list_any (eq_by_cmp nat_cmp n) ks ≡ false) → (b || list_any (eq_by_cmp nat_cmp n) ks) ≡ false
    at true t later =
        let is : n ≡ k = number_is k n t in
        let some : 1 ≤ times_in n (k ∷ ks) = subst (λ (j : ℕ). 1 ≤ times_in j (k ∷ ks)) (sym is) (among_first k ks) in
        absurd (omega (arith, some, e))
    at false t later = later (omega (arith, e, among_more n k ks))

pub any_none : (n : ℕ) (ks : List ℕ) → list_any (eq_by_cmp nat_cmp n) ks ≡ false → times_in n ks ≡ 0
any_none n [] e = refl
any_none n (k ∷ ks) e = at (eq_by_cmp nat_cmp n k) refl e (any_none n ks)
  where
    at : (b : Bool) → eq_by_cmp nat_cmp n k ≡ b → (b || list_any (eq_by_cmp nat_cmp n) ks) ≡ false → (list_any (eq_by_cmp nat_cmp n) ks ≡ false → times_in n ks ≡ 0) → times_in n (k ∷ ks) ≡ 0
    at true t f later = cc
    at false t f later = by (nat_eq k n) refl
      where
        by : (c : Bool) → nat_eq k n ≡ c → times_in n (k ∷ ks) ≡ 0
        by true u =
            let is : k ≡ n = eqb-true k n u in
            let no : true ≡ false = sym ((eq_by_cmp_equiv nat_cmp_total).refl k) ∙ ap (λ j. eq_by_cmp nat_cmp j k) is ∙ t in
            cc
        by false u = omega (arith, later f, sum_by-cons (λ (j : ℕ). cond {A = ℕ} (nat_eq j n) 1 0) k ks, ap (λ c. cond {A = ℕ} c 1 0) u)

module _ (one other : Bodies) (account : List ℕ) where
  bytes_same : (blobs : List ℕ) → ((n : ℕ) → 1 ≤ times_in n blobs → at_blob one account n ≡ at_blob other account n) → bytes_of one account blobs ≡ bytes_of other account blobs
  bytes_same [] same = refl
  bytes_same (k ∷ ks) same =
      ap (λ r. unwrap_or r [] ++ bytes_of one account ks) (same k (among_first k ks))
      ∙ ap (λ l. unwrap_or (at_blob other account k) [] ++ l) (bytes_same ks (λ n among. same n (omega (arith, among, among_more n k ks))))

  there_same : (blobs : List ℕ) → ((n : ℕ) → 1 ≤ times_in n blobs → at_blob one account n ≡ at_blob other account n) → AreThere one account blobs → AreThere other account blobs
  there_same [] same there = tt
  there_same (k ∷ ks) same there = (
    (there.0.0, sym (same k (among_first k ks)) ∙ there.0.1, there.0.2),
    there_same ks (λ n among. same n (omega (arith, among, among_more n k ks))) there.1,
  )

  -- a body is told where its own blobs stay
  pub told_same : (size : ℕ) (leaves : List (List ℕ)) (blobs : List ℕ) → ((n : ℕ) → 1 ≤ times_in n blobs → at_blob one account n ≡ at_blob other account n)
      → IsTold one account size leaves blobs → IsTold other account size leaves blobs
  told_same size leaves blobs same told = record {
    there = there_same blobs same told.there;
    size_is = told.size_is ∙ ap length (bytes_same blobs same);
    leaves_are = told.leaves_are ∙ ap leaves_of (bytes_same blobs same);
  }

-- a body in one blob of its own
pub told_alone : (bodies : Bodies) (account : List ℕ) (size : ℕ) (leaves : List (List ℕ)) (number : ℕ) (bytes : List ℕ) → at_blob bodies account number ≡ Some bytes
    → size ≡ length bytes → leaves ≡ leaves_of bytes → IsTold bodies account size leaves (number ∷ [])
told_alone bodies account size leaves number bytes there size_is leaves_are = record {
  there = ((bytes, there, inl refl), tt);
  size_is = size_is ∙ ap length whole;
  leaves_are = leaves_are ∙ ap leaves_of whole;
}
  where
    none_more : (l : List ℕ) → l ≡ l ++ []
    none_more [] = refl
    none_more (x ∷ xs) = ap (λ l. x ∷ l) (none_more xs)

    whole : bytes ≡ bytes_of bodies account (number ∷ [])
    whole = none_more bytes ∙ ap (λ r. unwrap_or r [] ++ []) (sym there)

-- what is known of each body, with what names it
module _ {P Q : ℕ → List (List ℕ) → List ℕ → Type 0} (a : AccountState)
    (goes : (size : ℕ) (leaves : List (List ℕ)) (blobs : List ℕ) → ((n : ℕ) → 1 ≤ times_in n blobs → 1 ≤ times_named n a.vaults) → P size leaves blobs → Q size leaves blobs) where
  module _ (vault : VaultState) (within : (n : ℕ) → vault_total (naming n) vault ≤ times_named n a.vaults) where
    live_named : (k : ℕ) (archive : Archive) → map.get vault.archives k ≡ Some archive → (n : ℕ) → 1 ≤ times_in n archive.blobs → 1 ≤ times_named n a.vaults
    live_named k archive there n among = omega (arith, among, within n, value_within nat_cmp_total map.nat_cmp-IsAntisymmetric (naming n).archive vault.archives k archive there)

    held_named : (k : ℕ) (archive : Archive) → map.get vault.held k ≡ Some archive → (n : ℕ) → 1 ≤ times_in n archive.blobs → 1 ≤ times_named n a.vaults
    held_named k archive there n among = omega (arith, among, within n, value_within nat_cmp_total map.nat_cmp-IsAntisymmetric (naming n).archive vault.held k archive there)

    part_named : (k : ℕ) (upload : Upload) → map.get vault.uploads k ≡ Some upload → (index : ℕ) (part : Part) → map.get upload.parts index ≡ Some part → (n : ℕ) → 1 ≤ times_in n (part.blob ∷ []) → 1 ≤ times_named n a.vaults
    part_named k upload is_open index part there n among =
        omega (
          arith,
          among,
          within n,
          count-alone part.blob n,
          value_within nat_cmp_total map.nat_cmp-IsAntisymmetric (naming n).part upload.parts index part there,
          value_within nat_cmp_total map.nat_cmp-IsAntisymmetric (upload_total (naming n)) vault.uploads k upload is_open,
        )

    goes_vault : InVault P vault → InVault Q vault
    goes_vault told = record {
      archives = λ k. weaker_there (λ (archive : Archive). P archive.size archive.leaves archive.blobs) (λ (archive : Archive). Q archive.size archive.leaves archive.blobs) (map.get vault.archives k)
          (λ archive there p. goes archive.size archive.leaves archive.blobs (live_named k archive there) p) (told.archives k);
      held = λ k. weaker_there (λ (archive : Archive). P archive.size archive.leaves archive.blobs) (λ (archive : Archive). Q archive.size archive.leaves archive.blobs) (map.get vault.held k)
          (λ archive there p. goes archive.size archive.leaves archive.blobs (held_named k archive there) p) (told.held k);
      parts = λ k. weaker_there (λ (upload : Upload). (index : ℕ) → IfSome (map.get upload.parts index) (λ part. P part.size part.leaves (part.blob ∷ []))) (λ (upload : Upload). (index : ℕ) → IfSome (map.get upload.parts index) (λ part. Q part.size part.leaves (part.blob ∷ []))) (map.get vault.uploads k)
          (λ upload is_open known index. weaker_there (λ (part : Part). P part.size part.leaves (part.blob ∷ [])) (λ (part : Part). Q part.size part.leaves (part.blob ∷ [])) (map.get upload.parts index)
          (λ part there p. goes part.size part.leaves (part.blob ∷ []) (part_named k upload is_open index part there) p) (known index)) (told.parts k);
    }

  pub told_goes : InAccount P a → InAccount Q a
  told_goes told name = weaker_there (InVault P) (InVault Q) (map.get a.vaults name)
      (λ vault there. goes_vault vault (λ n. value_within nat_list_cmp_total bytes_cmp-IsAntisymmetric (vault_total (naming n)) a.vaults name vault there)) (told name)
