-- What names a blob: the body of an archive or of a part.
use Rattle.std.specs.Prelude.{◌≡◌, ℕ, ◌≤◌, Bool, true, false, cond, List, [], ◌∷◌, Some, None, IfSome, Option, nat_le, sum_by}
use Rattle.std.specs.Cmp.{IsTotalOrder, nat_cmp_total, eq_by_cmp_equiv}
use Rattle.std.specs.Cmp.Lexicographic.{nat_list_cmp_total}
use Rattle.std.specs.declared.cmp.Ordering.{Ordering}
use Rattle.std.specs.declared.cmp.Ordering.TheVariants.{Less}
use Rattle.std.specs.FinMap as map
use Rattle.std.specs.List.{AllByRecursion}
use Rattle.std.specs.List.Sorted.{IsStrictlySortedBy}
use Rattle.std.specs.Map.{keys_of, values_of}
use Rattle.std.specs.Ordering.{nat_cmp, eq_by_cmp, is_eq}
use Rattle.std.proofs.Common.{◌∙◌, ap, refl, arith}
use Rattle.std.proofs.lemmas.Bool.Decides.{nat_tests}
use Rattle.std.proofs.lemmas.List.Sums.{sum_by-cons}
use Rattle.std.proofs.lemmas.Map.Keys.{sorted_head, sorted_tail}
use Rattle.glacier_base.proofs.Finite.{bytes_cmp-IsAntisymmetric}
use Rattle.glacier_base.proofs.Sorted.{rising, tied}
use Rattle.glacier_base.proofs.Sums.{weight, sum_by-remove}
use Rattle.glacier_vault.specs.Freed.{times_in}
use Rattle.glacier_vault.specs.Totals.{naming, times_named, upload_total, vault_total}
use Rattle.glacier_vault.specs.declared.archive.Archive.{Archive}
use Rattle.glacier_vault.specs.declared.archive.Upload.{Upload}
use Rattle.glacier_vault.specs.declared.job.Job.{Job}
use Rattle.glacier_vault.specs.declared.state.AccountState.{AccountState}
use Rattle.glacier_vault.specs.declared.state.VaultState.{VaultState}
use Rattle.glacier_vault.proofs.TotalsLemmas.{sum_by-none, lock_total-zero}
use Rattle.glacier_upload.proofs.SameText.{count-alone}
use Rattle.glacier_replay.specs.Standing.{InVault, InAccount}
use Rattle.glacier_replay.proofs.Options.{of_some}

module _ {K X : Type 0} {R : K → K → Ordering} (o : IsTotalOrder R) (same : map.IsAntisymmetric R) (f : X → ℕ) where
  -- a key below all others has no value
  pub absent : (q : K) (es : List (K × X)) → AllByRecursion (λ y. R q y ≡ Less) (keys_of es) → map.find R q es ≡ None
  absent q [] h = refl
  absent q (e ∷ es) h = ap (λ b. cond b (Some e.1) (map.find R q es)) (ap is_eq h.0) ∙ absent q es h.1

  found : (G : Type 0) (es : List (K × X)) → IsStrictlySortedBy R (keys_of es) → 1 ≤ sum_by f (values_of es) → ((k : K) (v : X) → map.find R k es ≡ Some v → 1 ≤ f v → G) → G
  found G [] sorted some h = absurd (omega arith)
  found G (e ∷ es) sorted some h = at (nat_le 1 (f e.1)) refl (λ rest. found G es (sorted_tail R e.0 (keys_of es) sorted) rest (λ k v there more. h k v (behind k v there (eq_by_cmp R k e.0) refl) more))
    where
      behind : (k : K) (v : X) → map.find R k es ≡ Some v → (b : Bool) → eq_by_cmp R k e.0 ≡ b → cond b (Some e.1) (map.find R k es) ≡ Some v
      behind k v there true t =
          let is : k ≡ e.0 = same k e.0 (tied _ t) in
          let none : map.find R k es ≡ None = ap (λ q. map.find R q es) is ∙ absent e.0 es (sorted_head R e.0 (keys_of es) sorted) in
          cc
      behind k v there false t = there

      at : (b : Bool) → nat_le 1 (f e.1) ≡ b → (1 ≤ sum_by f (values_of es) → G) → G
      at true t later = h e.0 e.1 (ap (λ b. cond b (Some e.1) (map.find R e.0 es)) ((eq_by_cmp_equiv o).refl e.0)) (grind (arith, nat_tests))
      at false t later =
          let none : f e.1 ≡ 0 = grind (arith, nat_tests) in
          later (omega (arith, some, none, sum_by-cons f e.1 (values_of es)))

  -- a sum that is some has a value that adds to it
  pub some_value : (G : Type 0) (m : map.FinMap R X) → 1 ≤ sum_by f (map.values m) → ((k : K) (v : X) → map.get m k ≡ Some v → 1 ≤ f v → G) → G
  some_value G m some h = found G (map.entries m) (rising R (map.entries m) (map.entries_sorted m)) some (λ k v there more. h k v (map.get-entries m k ∙ there) more)

  -- a value adds to the sum
  pub value_within : (m : map.FinMap R X) (k : K) (v : X) → map.get m k ≡ Some v → f v ≤ sum_by f (map.values m)
  value_within m k v there = omega (arith, sum_by-remove o f same m k, ap (weight f) there)

  -- and so does each
  pub each_within : (m : map.FinMap R X) (k : K) → IfSome (map.get m k) (λ v. f v ≤ sum_by f (map.values m))
  each_within m k = at (map.get m k) refl
    where
      at : (r : Option X) → map.get m k ≡ r → IfSome r (λ v. f v ≤ sum_by f (map.values m))
      at None e = tt
      at (Some v) e = value_within m k v e

module _ (blob : ℕ) where
  -- a blob that a body names, from how often its vault names it
  module _ (G : Type 0) where
    abbrev Gives : ℕ → List (List ℕ) → List ℕ → Type 0
    Gives size leaves blobs = 1 ≤ times_in blob blobs → G

    in_archives : (m : map.FinMap nat_cmp Archive) → ((n : ℕ) → IfSome (map.get m n) (λ archive. Gives archive.size archive.leaves archive.blobs)) → 1 ≤ sum_by (naming blob).archive (map.values m) → G
    in_archives m told some = some_value nat_cmp_total map.nat_cmp-IsAntisymmetric (naming blob).archive G m some (λ n archive there more. of_some _ (map.get m n) archive there (told n) more)

    in_upload : (upload : Upload) → ((index : ℕ) → IfSome (map.get upload.parts index) (λ part. Gives part.size part.leaves (part.blob ∷ []))) → 1 ≤ upload_total (naming blob) upload → G
    in_upload upload told some = some_value nat_cmp_total map.nat_cmp-IsAntisymmetric (naming blob).part G upload.parts (omega (arith, some)) (λ index part there more.
        of_some _ (map.get upload.parts index) part there (told index) (omega (arith, more, count-alone part.blob blob)))

    in_vault : (vault : VaultState) → InVault Gives vault → 1 ≤ vault_total (naming blob) vault → G
    in_vault vault told some = at (nat_le 1 (sum_by (naming blob).archive (map.values vault.archives))) (nat_le 1 (sum_by (naming blob).archive (map.values vault.held))) refl refl
      where
        at : (b c : Bool) → nat_le 1 (sum_by (naming blob).archive (map.values vault.archives)) ≡ b → nat_le 1 (sum_by (naming blob).archive (map.values vault.held)) ≡ c → G
        at true c t u = in_archives vault.archives told.archives (grind (arith, nat_tests))
        at false true t u = in_archives vault.held told.held (grind (arith, nat_tests))
        at false false t u =
            let no_live : sum_by (naming blob).archive (map.values vault.archives) ≡ 0 = grind (arith, nat_tests) in
            let no_held : sum_by (naming blob).archive (map.values vault.held) ≡ 0 = grind (arith, nat_tests) in
            let open_parts : 1 ≤ sum_by (upload_total (naming blob)) (map.values vault.uploads) = omega (arith, some, sum_by-none {X = Job} (map.values vault.jobs), sum_by-none (map.values vault.finished), lock_total-zero (naming blob) (λ lock. refl) vault.lock) in
            some_value nat_cmp_total map.nat_cmp-IsAntisymmetric (upload_total (naming blob)) G vault.uploads open_parts (λ n upload there more. in_upload upload (of_some _ (map.get vault.uploads n) upload there (told.parts n)) more)

    pub named_gives : (a : AccountState) → InAccount Gives a → 1 ≤ times_named blob a.vaults → G
    named_gives a told some = some_value nat_list_cmp_total bytes_cmp-IsAntisymmetric (vault_total (naming blob)) G a.vaults some (λ name vault there more. in_vault vault (of_some _ (map.get a.vaults name) vault there (told name)) more)
