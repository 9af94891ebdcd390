-- An event that fits leaves its account lawful.
use Rattle.std.specs.Prelude.{◌≡◌, ℕ, ◌+◌, ◌<◌, ◌≤◌, Bool, true, false, cond, not, ◌&&◌, List, Option, Some, None, Result, Ok, Err, is_none, is_some, nat_le, nat_lt}
use Rattle.std.specs.FinMap as map
use Rattle.std.proofs.Common.{sym, refl, subst, arith}
use Rattle.std.proofs.lemmas.Bool.Decides.{nat_tests}
use Rattle.glacier_policy.specs.Policies.{policy_of}
use Rattle.glacier_policy.specs.declared.policy.Policy.{Policy}
use Rattle.glacier_policy.specs.declared.policy.PolicyFault.{PolicyFault}
use Rattle.glacier_vault.specs.Deletions.{deletion_refusal}
use Rattle.glacier_vault.specs.Lawful.{IsLawful, IsLawfulArchive, IsLawfulJob}
use Rattle.glacier_vault.specs.PartSizes.{is_part_size, last_index}
use Rattle.glacier_vault.specs.Rows.{draw_refusal}
use Rattle.glacier_vault.specs.declared.archive.Archive.{Archive}
use Rattle.glacier_vault.specs.declared.event.Event.{Event}
use Rattle.glacier_vault.specs.declared.event.Event.TheVariants as events
use Rattle.glacier_vault.specs.declared.job.Job.{Job}
use Rattle.glacier_vault.specs.declared.job.Work.TheVariants as works
use Rattle.glacier_vault.specs.declared.lock.Lock.{Lock}
use Rattle.glacier_vault.specs.declared.refusal.Refusal.{Refusal}
use Rattle.glacier_vault.specs.declared.refusal.Refusal.TheVariants.{NoVault}
use Rattle.glacier_vault.specs.declared.state.AccountState.{AccountState}
use Rattle.glacier_vault.specs.declared.state.VaultState.{VaultState}
use Rattle.glacier_vault.specs.Accounts.{Accounts, AllLawful, account_in}
use Rattle.glacier_vault.proofs.DeletionLemmas.{lawful-removal}
use Rattle.glacier_vault.proofs.KeepsLawful.{lawful_there}
use Rattle.glacier_vault.proofs.RowLemmas as row
use Rattle.glacier_vault.proofs.WithoutArchive.{lawful-deletion}
use Rattle.glacier_upload.specs.Completion.{covered, has_gap}
use Rattle.glacier_upload.specs.Uploads.{new_upload}
use Rattle.glacier_upload.proofs.ArchiveLemmas.{lawful-with_archive}
use Rattle.glacier_upload.proofs.CompletionLemmas.{lawful-completed}
use Rattle.glacier_upload.proofs.MultipartLemmas.{lawful-aborted, lawful-begun}
use Rattle.glacier_upload.proofs.OpenLemmas.{opened}
use Rattle.glacier_upload.proofs.PartLemmas.{fits_right, lawful-with_part}
use Rattle.glacier_job.specs.Beginning.{FitsIn}
use Rattle.glacier_job.specs.Work.{retrieval}
use Rattle.glacier_job.proofs.BeginLemmas as job
use Rattle.glacier_job.proofs.PassLawful.{lawful-pass}
use Rattle.glacier_lock.specs.Locks.{initiate_refusal, lock_refusal, locked, new_lock}
use Rattle.glacier_lock.proofs.LockLemmas.{lawful-with_lock, right_lock}
use Rattle.glacier_replay.specs.Changes.{accounts_after, change_in}
use Rattle.glacier_replay.specs.Replayed.{Replay, after_event, can_draw, in_progress, is_body, policy_or_none, progress_of, recorded_archive, recorded_job, recorded_part}
use Rattle.glacier_replay.proofs.CounterLemmas.{of_done, of_fit, of_replayed, of_there}
use Rattle.glacier_replay.proofs.FitLemmas.{fits_begun, fits_recorded, le_of, right_body}
use Rattle.glacier_replay.proofs.Options.{there_is}
use Rattle.glacier_replay.proofs.PutLemmas.{inserted_lawful, lawful_in}
use Rattle.glacier_replay.proofs.Seen.{both, not_true}

absent : (r : Option VaultState) → not (is_some r) ≡ true → r ≡ None
absent None t = refl
absent (Some vault) t = cc

lt_of : (n m : ℕ) → nat_lt n m ≡ true → n < m
lt_of n m t = grind (arith, nat_tests)

-- the policy that is read is that of the text
policy_is : (text : List ℕ) (policy : Policy) → policy_or_none text ≡ Some policy → policy_of text ≡ Ok policy
policy_is text policy e = at (policy_of text) e
  where
    at : (r : Result Policy PolicyFault) → elim r as (λ _. Option Policy) [ Ok policy ↦ Some policy | Err fault ↦ None ] ≡ Some policy → r ≡ Ok policy
    at (Ok read) e = cc
    at (Err fault) e = cc

-- a lock in progress is that of its vault
in_vault_there : {P : Type 0} (a : AccountState) (name : List ℕ) (lock : Lock) → progress_of a name ≡ Some lock → ((vault : VaultState) → map.get a.vaults name ≡ Some vault → vault.lock ≡ Some lock → P) → P
in_vault_there {P} a name lock e f = at (map.get a.vaults name) refl e
  where
    own : (r : Option Lock) → in_progress r ≡ Some lock → r ≡ Some lock
    own None e = cc
    own (Some l) e = by l.locked e
      where
        by : (b : Bool) → cond b None (Some l) ≡ Some lock → Some l ≡ Some lock
        by true e = cc
        by false e = e

    at : (r : Option VaultState) → map.get a.vaults name ≡ r → (elim r as (λ _. Option Lock) [ None ↦ None | Some vault ↦ in_progress vault.lock ]) ≡ Some lock → P
    at None there e = cc
    at (Some vault) there e = f vault there (own vault.lock e)

-- a lock is begun in a vault
begun_in : {P : Type 0} (a : AccountState) (name : List ℕ) → is_none (initiate_refusal a name) ≡ true → ((vault : VaultState) → map.get a.vaults name ≡ Some vault → P) → P
begun_in {P} a name none f = there_is (map.get a.vaults name) (at (map.get a.vaults name) none) f
  where
    at : (r : Option VaultState)
        → is_none (elim r as (λ _. Option Refusal) [ None ↦ Some (NoVault name) | Some vault ↦ elim (lock_refusal vault.lock) [ Some refusal ↦ Some refusal | None ↦ draw_refusal a ] ]) ≡ true
        → is_some r ≡ true
    at None t = cc
    at (Some vault) t = refl

module _ (a : AccountState) (m : ℕ) (le : a.last ≤ m) (lawful : IsLawful a) (p : AccountState × List ℕ) where
  abbrev Right : AccountState × List ℕ → Type 0
  Right q = IsLawful q.0

  right_archive : (size : ℕ) (description : List ℕ) (leaves : List (List ℕ)) → is_body size leaves ≡ true → IsLawfulArchive m (recorded_archive a.counter m size description leaves)
  right_archive size description leaves fits = record { body = right_body size leaves fits; created = omega arith; blob = omega arith }

  fits_in : (name : List ℕ) (job : Job) (vault : VaultState) → map.get a.vaults name ≡ Some vault → IsLawfulJob (a.counter + 1) m vault.archives vault.held job → FitsIn a m name job
  fits_in name job vault there right =
      subst (λ (r : Option VaultState). elim r as (λ _. Type 0) [ None ↦ ⊥ | Some vault ↦ IsLawfulJob (a.counter + 1) m vault.archives vault.held job ]) (sym there) right

  pub lawful_after : (event : Event) → after_event a m event ≡ Some p → IsLawful p.0
  lawful_after events.Pass e = of_done Right p _ e (lawful-pass a m lawful le)
  lawful_after (events.CreateVault name) e = of_fit Right p (not (map.contains_key a.vaults name)) _ e (λ free. row.lawful-put a m name lawful (absent (map.get a.vaults name) free) le)
  lawful_after (events.DeleteVault name) e = of_there Right p (map.get a.vaults name) _ e (λ vault there next.
      of_fit Right p (is_none (deletion_refusal vault)) _ next (λ _. lawful-removal a m name lawful le vault there))
  lawful_after (events.Upload name size description leaves) e = of_fit Right p (map.contains_key a.vaults name && is_body size leaves && can_draw a) _ e (λ fits.
      let front = (both (map.contains_key a.vaults name && is_body size leaves) (can_draw a) fits).0 in
      let parts = both (map.contains_key a.vaults name) (is_body size leaves) front in
      there_is (map.get a.vaults name) parts.0 (λ vault there.
      lawful-with_archive a m le lawful name vault there (recorded_archive a.counter m size description leaves) (right_archive size description leaves parts.1) refl))
  lawful_after (events.DeleteArchive name archive) e = of_there Right p (map.get a.vaults name) _ e (λ vault there next.
      of_fit Right p (map.contains_key vault.archives archive) _ next (λ live.
      lawful-deletion a m lawful name archive vault there
      (subst (λ (r : Option VaultState). is_some (elim r as (λ _. Option Archive) [ None ↦ None | Some v ↦ map.get v.archives archive ]) ≡ true) (sym there) live) le))
  lawful_after (events.BeginUpload name part_size description) e = of_fit Right p (map.contains_key a.vaults name && is_part_size part_size && can_draw a) _ e (λ fits.
      let last = both (map.contains_key a.vaults name && is_part_size part_size) (can_draw a) fits in
      let parts = both (map.contains_key a.vaults name) (is_part_size part_size) last.0 in
      there_is (map.get a.vaults name) parts.0 (λ vault there.
      lawful-begun a m le lawful name vault there (new_upload m part_size description) refl (fits_begun a m name part_size description parts.0 parts.1 last.1).right))
  lawful_after (events.Part name upload index size leaves) e = of_there Right p (map.get a.vaults name) _ e (λ vault there next. of_there Right p (map.get vault.uploads upload) _ next (λ found is_open last.
      of_fit Right p (nat_le index last_index && nat_le size found.part_size && is_body size leaves && can_draw a) _ last (λ fits.
      lawful-with_part a m le lawful name vault there upload found is_open index (recorded_part a.counter size leaves)
      (fits_right a m le lawful name vault there upload found is_open index (recorded_part a.counter size leaves)
      (fits_recorded a name upload found (opened a name upload vault found there is_open) index size leaves fits)) refl)))
  lawful_after (events.Complete name upload) e = of_there Right p (map.get a.vaults name) _ e (λ vault there next. of_there Right p (map.get vault.uploads upload) _ next (λ found is_open last.
      of_fit Right p (nat_le 1 (covered found) && not (has_gap found) && can_draw a) _ last (λ fits.
      let parts = both (nat_le 1 (covered found)) (not (has_gap found)) (both (nat_le 1 (covered found) && not (has_gap found)) (can_draw a) fits).0 in
      lawful-completed a lawful name vault there upload found is_open m (not_true (has_gap found) parts.1) (le_of 1 (covered found) parts.0) le)))
  lawful_after (events.Abort name upload) e = of_there Right p (map.get a.vaults name) _ e (λ vault there next. of_there Right p (map.get vault.uploads upload) _ next (λ found is_open last.
      of_done Right p _ last (lawful-aborted a m le lawful name vault there upload found is_open)))
  lawful_after (events.BeginRetrieval name archive first end tier ready description) e = of_there Right p (map.get a.vaults name) _ e (λ vault there next. of_there Right p (map.get vault.archives archive) _ next (λ found is_there last.
      of_fit Right p (nat_lt first end && nat_le end found.size && can_draw a) _ last (λ fits.
      let parts = both (nat_lt first end) (nat_le end found.size) (both (nat_lt first end && nat_le end found.size) (can_draw a) fits).0 in
      job.lawful-put a m le lawful name (recorded_job m tier ready description (retrieval archive found first end)) refl
      (fits_in name (recorded_job m tier ready description (retrieval archive found first end)) vault there (record {
        created = omega arith;
        work = job.lawful-retrieval a.counter a.last vault (lawful_there a a.counter a.last (omega arith) (omega arith) lawful name vault there) archive found is_there first end
            (lt_of first end parts.0) (le_of end found.size parts.1);
      })))))
  lawful_after (events.BeginInventory name csv tier ready description) e = of_fit Right p (map.contains_key a.vaults name && can_draw a) _ e (λ fits.
      there_is (map.get a.vaults name) (both (map.contains_key a.vaults name) (can_draw a) fits).0 (λ vault there.
      job.lawful-put a m le lawful name (recorded_job m tier ready description (works.Inventory csv)) refl
      (fits_in name (recorded_job m tier ready description (works.Inventory csv)) vault there (record { created = omega arith; work = tt }))))
  lawful_after (events.InitiateLock name policy) e = of_there Right p (policy_or_none policy) _ e (λ read is_read last.
      of_fit Right p (is_none (initiate_refusal a name)) _ last (λ free. begun_in a name free (λ vault there.
      lawful-with_lock a m le lawful name vault there (Some (new_lock a.counter m policy read)) (a.counter + 1) (omega arith)
      (record { number = omega arith; created = omega arith; policy = policy_is policy read is_read }))))
  lawful_after (events.CompleteLock name) e = of_there Right p (progress_of a name) _ e (λ lock progress last. of_done Right p _ last (in_vault_there a name lock progress (λ vault there is.
      let right = right_lock a m le lawful name vault there lock is in
      lawful-with_lock a m le lawful name vault there (Some (locked lock)) a.counter (omega arith) (record { number = right.number; created = omega (arith, right.created); policy = right.policy }))))
  lawful_after (events.AbortLock name) e = of_there Right p (progress_of a name) _ e (λ lock progress last. of_done Right p _ last (in_vault_there a name lock progress (λ vault there is.
      lawful-with_lock a m le lawful name vault there None a.counter (omega arith) tt)))

-- so all accounts stay lawful
pub accounts_lawful : (accounts : Accounts) (account : List ℕ) (m : ℕ) (event : Event) → AllLawful accounts → AllLawful (accounts_after accounts account (change_in accounts account m event))
accounts_lawful accounts account m event lawful = at (change_in accounts account m event) refl
  where
    at : (r : Replay) → change_in accounts account m event ≡ r → AllLawful (accounts_after accounts account r)
    at None e = lawful
    at (Some done) e =
        let fits = of_replayed (account_in accounts account) m event done e in
        inserted_lawful accounts account done.0 lawful (lawful_after (account_in accounts account) m fits.0 (lawful_in accounts lawful account) done event fits.1)
