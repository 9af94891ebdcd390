-- A number for each blob, summed over the blobs that an account names.
use Rattle.std.specs.Prelude.{◌≡◌, ℕ, ◌+◌, Bool, true, false, cond, List, [], ◌∷◌, Option, Some, None, nat_eq, sum_by}
use Rattle.std.specs.Cmp.{nat_cmp_total, eq_by_cmp_equiv}
use Rattle.std.specs.FinMap as map
use Rattle.std.specs.List.Sorted.{IsStrictlySortedBy}
use Rattle.std.specs.Map.{keys_of, values_of}
use Rattle.std.specs.Ordering.{nat_cmp, eq_by_cmp}
use Rattle.std.proofs.Common.{zero, suc, ◌∙◌, ap, refl, arith, eq-eqb}
use Rattle.std.proofs.lemmas.Bool.{eqb-true}
use Rattle.std.proofs.lemmas.List.Sums.{sum_by-cons}
use Rattle.std.proofs.lemmas.Map.Keys.{sorted_head, sorted_tail}
use Rattle.glacier_base.proofs.Sorted.{rising}
use Rattle.glacier_base.proofs.Sums.{weight}
use Rattle.glacier_vault.specs.Totals.{Vaults, Weight, lock_total, times_named, total, upload_total, vault_total}
use Rattle.glacier_vault.specs.declared.archive.Archive.{Archive}
use Rattle.glacier_vault.specs.declared.archive.Finished.{Finished}
use Rattle.glacier_vault.specs.declared.archive.Upload.{Upload}
use Rattle.glacier_vault.specs.declared.job.Job.{Job}
use Rattle.glacier_vault.specs.declared.lock.Lock.{Lock}
use Rattle.glacier_vault.specs.declared.state.VaultState.{VaultState}
use Rattle.glacier_vault.proofs.TotalsLemmas.{sum_by-none}
use Rattle.glacier_replay.proofs.BlobMaps.{number_is}
use Rattle.glacier_replay.proofs.NamedLemmas.{absent}

-- a weight by the blobs that archives and parts name
abbrev pub by_blob : (ℕ → ℕ) → Weight
by_blob g = record {
  vault = 0;
  archive = λ archive. sum_by g archive.blobs;
  part = λ part. g part.blob;
  upload = λ _. 0;
  finished = λ _. 0;
  job = λ _. 0;
  lock = λ _. 0;
}

sum_by-add : {X : Type 0} (f g h : X → ℕ) → ((x : X) → f x ≡ g x + h x) → (xs : List X) → sum_by f xs ≡ sum_by g xs + sum_by h xs
sum_by-add f g h each [] = refl
sum_by-add f g h each (x ∷ xs) = omega (arith, each x, sum_by-cons f x xs, sum_by-cons g x xs, sum_by-cons h x xs, sum_by-add f g h each xs)

module _ (f g h : ℕ → ℕ) (each : (n : ℕ) → f n ≡ g n + h n) where
  of_upload : (upload : Upload) → upload_total (by_blob f) upload ≡ upload_total (by_blob g) upload + upload_total (by_blob h) upload
  of_upload upload = omega (arith, sum_by-add (by_blob f).part (by_blob g).part (by_blob h).part (λ part. each part.blob) (map.values upload.parts))

  of_vault : (vault : VaultState) → vault_total (by_blob f) vault ≡ vault_total (by_blob g) vault + vault_total (by_blob h) vault
  of_vault vault =
      let archives : (archive : Archive) → (by_blob f).archive archive ≡ (by_blob g).archive archive + (by_blob h).archive archive = λ archive. sum_by-add f g h each archive.blobs in
      omega (
        arith,
        sum_by-add (by_blob f).archive (by_blob g).archive (by_blob h).archive archives (map.values vault.archives),
        sum_by-add (by_blob f).archive (by_blob g).archive (by_blob h).archive archives (map.values vault.held),
        sum_by-add (upload_total (by_blob f)) (upload_total (by_blob g)) (upload_total (by_blob h)) of_upload (map.values vault.uploads),
        sum_by-none {X = Finished} (map.values vault.finished),
        sum_by-none {X = Job} (map.values vault.jobs),
        no_lock vault.lock f,
        no_lock vault.lock g,
        no_lock vault.lock h,
      )
    where
      no_lock : (lock : Option Lock) (k : ℕ → ℕ) → lock_total (by_blob k) lock ≡ 0
      no_lock None k = refl
      no_lock (Some lock) k = refl

  -- it is linear
  pub named-add : (vaults : Vaults) → total (by_blob f) vaults ≡ total (by_blob g) vaults + total (by_blob h) vaults
  named-add vaults = sum_by-add (vault_total (by_blob f)) (vault_total (by_blob g)) (vault_total (by_blob h)) of_vault (map.values vaults)

named-none : (vaults : Vaults) → total (by_blob (λ n. 0)) vaults ≡ 0
named-none vaults = omega (arith, named-add (λ n. 0) (λ n. 0) (λ n. 0) (λ n. refl) vaults)

named-same : (f g : ℕ → ℕ) → ((n : ℕ) → f n ≡ g n) → (vaults : Vaults) → total (by_blob f) vaults ≡ total (by_blob g) vaults
named-same f g each vaults = omega (arith, named-add f g (λ n. 0) (λ n. omega (arith, each n)) vaults, named-none vaults)

-- a number for one blob
abbrev at_one : ℕ → ℕ → ℕ → ℕ
at_one k c n = cond {A = ℕ} (nat_eq n k) c 0

-- counts once where the blob is named once
named-at_one : (k : ℕ) (vaults : Vaults) → times_named k vaults ≡ 1 → (c : ℕ) → total (by_blob (at_one k c)) vaults ≡ c
named-at_one k vaults once zero = named-same (at_one k 0) (λ n. 0) (λ n. none (nat_eq n k)) vaults ∙ named-none vaults
  where
    none : (b : Bool) → cond {A = ℕ} b 0 0 ≡ 0
    none true = refl
    none false = refl
named-at_one k vaults once (suc c) =
    let single : total (by_blob (at_one k 1)) vaults ≡ 1 = once in
    omega (arith, single, named-add (at_one k (suc c)) (at_one k 1) (at_one k c) (λ n. more (nat_eq n k)) vaults, named-at_one k vaults once c)
  where
    more : (b : Bool) → cond {A = ℕ} b (suc c) 0 ≡ cond {A = ℕ} b 1 0 + cond {A = ℕ} b c 0
    more true = omega arith
    more false = refl

module _ {X : Type 0} (f : X → ℕ) (vaults : Vaults) where
  -- the number that a blob has in a list
  abbrev listed : List (ℕ × X) → ℕ → ℕ
  listed es n = weight f (map.find nat_cmp n es)

  named-listed : (es : List (ℕ × X)) → IsStrictlySortedBy nat_cmp (keys_of es) → ((n : ℕ) (x : X) → map.find nat_cmp n es ≡ Some x → times_named n vaults ≡ 1)
      → total (by_blob (listed es)) vaults ≡ sum_by f (values_of es)
  named-listed [] sorted once = named-none vaults
  named-listed (e ∷ es) sorted once =
      omega (
        arith,
        named-add (listed (e ∷ es)) (at_one e.0 (f e.1)) (listed es) (λ n. split n (eq_by_cmp nat_cmp n e.0) (nat_eq n e.0) refl refl) vaults,
        named-at_one e.0 vaults (once e.0 e.1 (ap (λ b. cond b (Some e.1) (map.find nat_cmp e.0 es)) ((eq_by_cmp_equiv nat_cmp_total).refl e.0))) (f e.1),
        named-listed es (sorted_tail nat_cmp e.0 (keys_of es) sorted) (λ n x there. once n x (behind n x there (eq_by_cmp nat_cmp n e.0) refl)),
        sum_by-cons f e.1 (values_of es),
      )
    where
      none_here : map.find nat_cmp e.0 es ≡ None
      none_here = absent nat_cmp_total map.nat_cmp-IsAntisymmetric f e.0 es (sorted_head nat_cmp e.0 (keys_of es) sorted)

      behind : (n : ℕ) (x : X) → map.find nat_cmp n es ≡ Some x → (b : Bool) → eq_by_cmp nat_cmp n e.0 ≡ b → cond b (Some e.1) (map.find nat_cmp n es) ≡ Some x
      behind n x there true t = let none : map.find nat_cmp n es ≡ None = ap (λ k. map.find nat_cmp k es) (number_is e.0 n t) ∙ none_here in cc
      behind n x there false t = there

      split : (n : ℕ) (b c : Bool) → eq_by_cmp nat_cmp n e.0 ≡ b → nat_eq n e.0 ≡ c → weight f (cond b (Some e.1) (map.find nat_cmp n es)) ≡ cond {A = ℕ} c (f e.1) 0 + weight f (map.find nat_cmp n es)
      split n true true t u = omega (arith, ap (weight f) (ap (λ k. map.find nat_cmp k es) (number_is e.0 n t) ∙ none_here))
      split n true false t u = let is : nat_eq n e.0 ≡ true = eq-eqb n e.0 (number_is e.0 n t) in cc
      split n false true t u = let is : eq_by_cmp nat_cmp n e.0 ≡ true = ap (λ k. eq_by_cmp nat_cmp k e.0) (eqb-true n e.0 u) ∙ (eq_by_cmp_equiv nat_cmp_total).refl e.0 in cc
      split n false false t u = omega arith

  -- where each blob of a map is named once, the numbers of all are what they come to
  pub named-all : (m : map.FinMap nat_cmp X) → ((n : ℕ) (x : X) → map.get m n ≡ Some x → times_named n vaults ≡ 1)
      → total (by_blob (λ n. weight f (map.get m n))) vaults ≡ sum_by f (map.values m)
  named-all m once =
      named-same (λ n. weight f (map.get m n)) (listed (map.entries m)) (λ n. ap (weight f) (map.get-entries m n)) vaults
      ∙ named-listed (map.entries m) (rising nat_cmp (map.entries m) (map.entries_sorted m)) (λ n x there. once n x (map.get-entries m n ∙ there))

  pub named-empty : total (by_blob (λ n. 0)) vaults ≡ 0
  named-empty = named-none vaults
