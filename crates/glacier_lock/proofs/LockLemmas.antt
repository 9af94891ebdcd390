-- What a change of a vault's lock leaves.
use Rattle.std.specs.Prelude.{◌≡◌, ℕ, ◌≤◌, ◌+◌, false, cond, List, length, Option, Some, None, Result, Ok, Err, IfSome, IfOk}
use Rattle.std.specs.FinMap as map
use Rattle.std.proofs.Common.{◌∙◌, ap, sym, refl, subst, arith}
use Rattle.glacier_base.specs.Maps.{changed_at}
use Rattle.glacier_vault.specs.Due.{sooner, lock_due, vault_due, due_in}
use Rattle.glacier_vault.specs.Lawful.{IsLawful, IsLawfulLock}
use Rattle.glacier_vault.specs.Lengths.{lengths, lock_length, snapshot_length}
use Rattle.glacier_vault.specs.Rows.{draw_refusal, in_vault}
use Rattle.glacier_vault.specs.Totals.{Weight, vault_total, total, lock_total, blocks, each_upload, each_job, naming, used_in, uploads_in, jobs_in}
use Rattle.glacier_vault.specs.declared.due.TheConstants.{DAY}
use Rattle.glacier_vault.specs.declared.lock.Lock.{Lock}
use Rattle.glacier_vault.specs.declared.refusal.Refusal.{Refusal}
use Rattle.glacier_vault.specs.declared.refusal.Refusal.TheVariants.{NoVault, NoLock}
use Rattle.glacier_vault.specs.declared.state.AccountState.{AccountState}
use Rattle.glacier_vault.specs.declared.state.VaultState.{VaultState}
use Rattle.glacier_vault.proofs.DueLemmas.{due_in-sooner}
use Rattle.glacier_vault.proofs.KeepsLawful.{lawful-changed_at, lawful_there}
use Rattle.glacier_vault.proofs.Later.{later_vault}
use Rattle.glacier_vault.proofs.LengthLemmas.{length_within, length-changed_at}
use Rattle.glacier_vault.proofs.SoonerLemmas.{sooner-none}
use Rattle.glacier_vault.proofs.TotalsLemmas.{lock_total-zero, total-changed_at}
use Rattle.glacier_lock.specs.Locks.{with_lock, locked, found_lock, lock_refusal, initiate_refusal}

module _ (a : AccountState) (m : ℕ) (le : a.last ≤ m) (lawful : IsLawful a) (name : List ℕ) (vault : VaultState) (there : map.get a.vaults name ≡ Some vault) where
  -- the bytes that it takes in a snapshot
  abbrev bytes : Option Lock → ℕ
  bytes lock = lock_total (lengths (length name)) lock

  pub lock_within : bytes vault.lock ≤ a.length
  lock_within = omega (arith, lawful.length, length_within a.vaults name vault there)

  pub length-with_lock : (lock : Option Lock) (long : ℕ) → long + bytes vault.lock ≡ a.length + bytes lock → long ≡ snapshot_length (changed_at (with_lock lock) a.vaults name)
  length-with_lock lock long is = omega (arith, is, lawful.length, length-changed_at a.vaults name vault there (with_lock lock))

  -- no total but the length counts it
  same_total : (w : Weight) → ((lock : Lock) → w.lock lock ≡ 0) → (lock : Option Lock) → total w a.vaults ≡ total w (changed_at (with_lock lock) a.vaults name)
  same_total w none lock = omega (arith, total-changed_at w a.vaults name vault there (with_lock lock), lock_total-zero w none vault.lock, lock_total-zero w none lock)

  pub in_vault-lock : (lock : Option Lock) (next : ℕ) (soon : Option ℕ) (long : ℕ) → soon ≡ due_in (changed_at (with_lock lock) a.vaults name) → long + bytes vault.lock ≡ a.length + bytes lock
      → record a { last = m; counter = next; vaults = changed_at (with_lock lock) a.vaults name; due = soon; length = long } ≡ in_vault (record a { counter = next }) m name (with_lock lock)
  in_vault-lock lock next soon long due is =
      let after = changed_at (with_lock lock) a.vaults name in
      let used : a.used ≡ used_in after = lawful.used ∙ same_total blocks (λ _. refl) lock in
      let uploads : a.uploads ≡ uploads_in after = lawful.uploads ∙ same_total each_upload (λ _. refl) lock in
      let jobs : a.jobs ≡ jobs_in after = lawful.jobs ∙ same_total each_job (λ _. refl) lock in
      let length = length-with_lock lock long is in
      λ i. record { last = m; counter = next; vaults = after; used = used i; uploads = uploads i; jobs = jobs i; due = due i; length = length i }

  abbrev by_lock : Option Lock → Option Refusal
  by_lock l = elim (lock_refusal l) [ Some refusal ↦ Some refusal | None ↦ draw_refusal a ]

  none_there : (l : Option Lock) → by_lock l ≡ None → l ≡ None
  none_there None e = refl
  none_there (Some l) e = cc

  -- one is made only where there is none
  no_lock : initiate_refusal a name ≡ None → vault.lock ≡ None
  no_lock e = none_there vault.lock (sym (ap (λ (r : Option VaultState). elim r as (λ _. Option Refusal) [ None ↦ Some (NoVault name) | Some v ↦ by_lock v.lock ]) there) ∙ e)

  pub bytes-put_lock : initiate_refusal a name ≡ None → (lock : Lock) (long : ℕ) → long ≡ a.length + lock_length (length name) lock → long + bytes vault.lock ≡ a.length + bytes (Some lock)
  bytes-put_lock free lock long is = omega (arith, is, ap bytes (no_lock free))

  -- one in progress is due a day after it was made
  pub due-put_lock : initiate_refusal a name ≡ None → (lock : Lock) → lock.locked ≡ false → sooner a.due (Some (lock.created + DAY)) ≡ due_in (changed_at (with_lock (Some lock)) a.vaults name)
  due-put_lock free lock open_lock =
      let ends : lock_due (Some lock) ≡ Some (lock.created + DAY) = ap (λ b. cond b None (Some (lock.created + DAY))) open_lock in
      let was : vault_due vault ≡ vault.due = ap (λ l. sooner vault.due (lock_due l)) (no_lock free) ∙ sooner-none vault.due in
      sym (due_in-sooner a.vaults name vault there (with_lock (Some lock)) (Some (lock.created + DAY)) (ap (sooner vault.due) ends ∙ ap (λ x. sooner x (Some (lock.created + DAY))) (sym was))
      ∙ ap (λ x. sooner x (Some (lock.created + DAY))) (sym lawful.due))

  names_none : (lock : Option Lock) (blob : ℕ) → vault_total (naming blob) (with_lock lock vault) ≤ vault_total (naming blob) vault
  names_none lock blob = omega (arith, lock_total-zero (naming blob) (λ _. refl) vault.lock, lock_total-zero (naming blob) (λ _. refl) lock)

  pub lawful-with_lock : (lock : Option Lock) (next : ℕ) → a.counter ≤ next → IfSome lock (IsLawfulLock next m) → IsLawful (in_vault (record a { counter = next }) m name (with_lock lock))
  lawful-with_lock lock next more right = lawful-changed_at a next m more le lawful name vault there (with_lock lock)
      (let up = later_vault a.counter next more a.last m le vault (lawful_there a a.counter a.last (omega arith) (omega arith) lawful name vault there) in
      record {
        created = up.created;
        bytes = up.bytes;
        archives = up.archives;
        held = up.held;
        live_or_held = up.live_or_held;
        uploads = up.uploads;
        finished = up.finished;
        open_or_finished = up.open_or_finished;
        jobs = up.jobs;
        named = up.named;
        lock = right;
        due = up.due;
      })
      (record { old = λ blob _. names_none lock blob; new = λ blob. omega (arith, names_none lock blob) })

  -- the lock that is there
  pub right_lock : (lock : Lock) → vault.lock ≡ Some lock → IsLawfulLock a.counter a.last lock
  right_lock lock is = subst (λ r. IfSome r (IsLawfulLock a.counter a.last)) is (lawful_there a a.counter a.last (omega arith) (omega arith) lawful name vault there).lock

  module _ (lock : Lock) (is : vault.lock ≡ Some lock) where
    pub bytes-locked : a.length + bytes vault.lock ≡ a.length + bytes (Some (locked lock))
    bytes-locked = ap (λ l. a.length + bytes l) is

    pub lock_there : found_lock a name ≡ Ok lock
    lock_there = ap (λ (r : Option VaultState). elim r as (λ _. Result Lock Refusal) [ None ↦ Err (NoVault name) | Some vault ↦ elim vault.lock [ None ↦ Err NoLock | Some lock ↦ Ok lock ] ]) there
        ∙ ap (λ (r : Option Lock). elim r as (λ _. Result Lock Refusal) [ None ↦ Err NoLock | Some lock ↦ Ok lock ]) is

    -- an account in which this lock is locked
    pub of_locked : (after : AccountState) → after ≡ in_vault a m name (with_lock (Some (locked lock))) → IfOk (found_lock a name) (λ there. after ≡ in_vault a m name (with_lock (Some (locked there))))
    of_locked after e = subst (λ r. IfOk r (λ there. after ≡ in_vault a m name (with_lock (Some (locked there))))) (sym lock_there) e

    pub lawful-locked : (after : AccountState) → IfOk (found_lock a name) (λ there. after ≡ in_vault a m name (with_lock (Some (locked there)))) → IsLawful after
    lawful-locked after e =
        let right = right_lock lock is in
        subst IsLawful (sym (subst (λ r. IfOk r (λ there. after ≡ in_vault a m name (with_lock (Some (locked there))))) lock_there e))
        (lawful-with_lock (Some (locked lock)) a.counter (omega arith) (record { number = right.number; created = omega (arith, right.created); policy = right.policy }))
