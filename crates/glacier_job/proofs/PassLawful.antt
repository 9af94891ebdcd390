-- A moment keeps an account lawful.
use Rattle.std.specs.Prelude.{◌≡◌, ℕ, ◌≤◌, Bool, true, false, not, cond, List, [], Option, Some, None, IfSome, IsSome, IsTrue, is_some, nat_le}
use Rattle.std.specs.Cmp.{nat_cmp_total}
use Rattle.std.specs.Cmp.Lexicographic.{nat_list_cmp_total}
use Rattle.std.specs.FinMap as map
use Rattle.std.specs.Ordering.{nat_cmp}
use Rattle.std.proofs.Common.{sym, refl, subst, arith, eq-eqb}
use Rattle.std.proofs.lemmas.Map.Entries.{option_filter}
use Rattle.glacier_base.specs.Maps.{map_values}
use Rattle.glacier_base.proofs.Changed.{get-where_entries}
use Rattle.glacier_base.proofs.Finite.{bytes_cmp-IsAntisymmetric}
use Rattle.glacier_base.proofs.LookUps.{if_some-where_entries, if_some-map_values}
use Rattle.glacier_vault.specs.Lawful.{IsLawful, IsLawfulVault, IsLawfulArchive, IsLawfulJob, IsLawfulWork, IsLawfulLock, IsDrawn}
use Rattle.glacier_vault.specs.Named.{is_named, names, is_done}
use Rattle.glacier_vault.specs.Totals.{Archives, naming}
use Rattle.glacier_vault.specs.declared.archive.Archive.{Archive}
use Rattle.glacier_vault.specs.declared.archive.Finished.{Finished}
use Rattle.glacier_vault.specs.declared.job.Job.{Job}
use Rattle.glacier_vault.specs.declared.job.Stage.{Stage}
use Rattle.glacier_vault.specs.declared.job.Stage.TheVariants.{Waiting, Failed, Done}
use Rattle.glacier_vault.specs.declared.job.Work.{Work}
use Rattle.glacier_vault.specs.declared.job.Work.TheVariants as works
use Rattle.glacier_vault.specs.declared.lock.Lock.{Lock}
use Rattle.glacier_vault.specs.declared.state.AccountState.{AccountState}
use Rattle.glacier_vault.specs.declared.state.VaultState.{VaultState}
use Rattle.glacier_vault.proofs.KeepsLawful.{named_less}
use Rattle.glacier_vault.proofs.Later.{weaker_there, later_vault}
use Rattle.glacier_vault.proofs.ValuesLemmas.{list_any-values}
use Rattle.glacier_job.specs.Pass.{outcome, stage_at, settled, has_ended, jobs_after, held_after, lock_after, lock_ends, is_past, passed, pass}
use Rattle.glacier_job.proofs.PassTotals.{naming_is_steady, total-pass}

none_some : {X : Type 0} (r : Option X) → is_some r ≡ true → r ≡ None → ⊥
none_some None s e = cc
none_some (Some x) s e = cc

module _ (m : ℕ) (archives held : Archives) where
  -- a retrieval that fails or waits isn't done, and one that succeeds has its archive live
  settled_kept : (stage : Stage) (ready archive size first end : ℕ) (tree : List ℕ) (range : Option (List ℕ))
      → (IsTrue (is_done stage) → map.get archives archive ≡ None → IsSome (map.get held archive))
      → IsTrue (is_done (elim stage [ Waiting ↦ cond (nat_le ready m) (outcome archives (works.Archive archive size tree first end range)) Waiting | Failed ↦ Failed | Done found ↦ Done found ]))
      → map.get archives archive ≡ None → IsSome (map.get held archive)
  settled_kept Waiting ready archive size first end tree range h done gone = absurd (at (nat_le ready m) (map.contains_key archives archive) refl done)
    where
      at : (b live : Bool) → map.contains_key archives archive ≡ live → IsTrue (is_done (cond b (cond live (Done []) Failed) Waiting)) → ⊥
      at true true is d = none_some _ is gone
      at true false is d = cc
      at false live is d = cc
  settled_kept Failed ready archive size first end tree range h done gone = cc
  settled_kept (Done found) ready archive size first end tree range h done gone = h refl gone

  settled_work : (counter : ℕ) (job : Job) (work : Work) → job.work ≡ work → IsLawfulWork counter archives held job.stage work → IsLawfulWork counter archives held (stage_at m archives job) work
  settled_work counter job (works.Inventory csv) is h = tt
  settled_work counter job (works.Archive archive size tree first end range) is h = record {
    number = h.number;
    some = h.some;
    within = h.within;
    live_size = h.live_size;
    held_size = h.held_size;
    kept = λ done gone. settled_kept job.stage job.ready archive size first end tree range h.kept
        (subst (λ w. IsTrue (is_done (elim job.stage [ Waiting ↦ cond (nat_le job.ready m) (outcome archives w) Waiting | Failed ↦ Failed | Done found ↦ Done found ]))) is done) gone;
  }

  settled_lawful : (counter last : ℕ) (job : Job) → IsLawfulJob counter last archives held job → IsLawfulJob counter last archives held (settled m archives job)
  settled_lawful counter last job h = record { created = h.created; work = settled_work counter job job.work refl h.work }

module _ (m counter last : ℕ) (vault : VaultState) (lawful : IsLawfulVault counter last vault) where
  -- a held archive that a finished job names stays
  stays_held : (at k : ℕ) (job : Job) → map.get (jobs_after m vault) at ≡ Some job → names k job ≡ true → IsSome (map.get vault.held k) → IsSome (map.get (held_after m vault) k)
  stays_held at k job there named some =
      subst IsSome (sym (get-where_entries nat_cmp_total map.nat_cmp-IsAntisymmetric (λ number _. is_named (jobs_after m vault) number) vault.held k)) (kept (map.get vault.held k) some)
    where
      is : is_named (jobs_after m vault) k ≡ true
      is = list_any-values nat_cmp (names k) (jobs_after m vault) at job there named

      kept : (r : Option Archive) → IsSome r → IsSome (option_filter (λ _. is_named (jobs_after m vault) k) r)
      kept None s = cc
      kept (Some x) s = subst (λ b. IsSome (cond b (Some x) None)) (sym is) refl

  work_left : (at : ℕ) (job : Job) → map.get (jobs_after m vault) at ≡ Some job → (work : Work) → job.work ≡ work
      → IsLawfulWork counter vault.archives vault.held job.stage work → IsLawfulWork counter vault.archives (held_after m vault) job.stage work
  work_left at job there (works.Inventory csv) is h = tt
  work_left at job there (works.Archive k size tree first end range) is h = record {
    number = h.number;
    some = h.some;
    within = h.within;
    live_size = h.live_size;
    held_size = if_some-where_entries nat_cmp_total map.nat_cmp-IsAntisymmetric vault.held k (λ a. a.size ≡ size) (λ number _. is_named (jobs_after m vault) number) h.held_size;
    kept = λ done gone. stays_held at k job there (rw (done, is) (eq-eqb k k refl)) (h.kept done gone);
  }

  Right : ℕ → Job → Type 0
  Right n = IsDrawn counter (IsLawfulJob counter last vault.archives vault.held) n

  jobs_left : (n : ℕ) → IfSome (map.get (jobs_after m vault) n) (IsDrawn counter (IsLawfulJob counter last vault.archives (held_after m vault)) n)
  unfolding Right
  jobs_left n =
      let settled_jobs = map_values (settled m vault.archives) vault.jobs in
      let all : IfSome (map.get settled_jobs n) (Right n) = if_some-map_values nat_cmp_total map.nat_cmp-IsAntisymmetric vault.jobs n (settled m vault.archives) (Right n) (Right n)
      (λ job h. record { drawn = h.drawn; right = settled_lawful m vault.archives vault.held counter last job h.right }) (lawful.jobs n) in
      let left : IfSome (map.get (jobs_after m vault) n) (Right n) = if_some-where_entries nat_cmp_total map.nat_cmp-IsAntisymmetric settled_jobs n (Right n) (λ _ job. not (has_ended m job)) all in
      weaker_there (Right n) (IsDrawn counter (IsLawfulJob counter last vault.archives (held_after m vault)) n) (map.get (jobs_after m vault) n)
      (λ job there h. record { drawn = h.drawn; right = record { created = h.right.created; work = work_left n job there job.work refl h.right.work } }) left

  filtered_some : {X : Type 0} (test : X → Bool) (r : Option X) → IsSome (option_filter test r) → IsSome r
  filtered_some test None s = s
  filtered_some test (Some x) s = refl

  lock_left : (lock : Option Lock) → IfSome lock (IsLawfulLock counter last) → IfSome (lock_after m lock) (IsLawfulLock counter last)
  lock_left None h = tt
  lock_left (Some lock) h = elim (lock_ends m lock) as (λ b. IfSome (cond b None (Some lock)) (IsLawfulLock counter last)) [ true ↦ tt | false ↦ h ]

  pub lawful-passed : IsLawfulVault counter last (passed m vault)
  lawful-passed = record {
    created = lawful.created;
    bytes = lawful.bytes;
    archives = lawful.archives;
    held = λ n. if_some-where_entries nat_cmp_total map.nat_cmp-IsAntisymmetric vault.held n (IsDrawn counter (IsLawfulArchive last) n) (λ number _. is_named (jobs_after m vault) number) (lawful.held n);
    live_or_held = λ n some. lawful.live_or_held n (filtered_some (λ _. is_named (jobs_after m vault) n) _ (subst IsSome (get-where_entries nat_cmp_total map.nat_cmp-IsAntisymmetric (λ number _. is_named (jobs_after m vault) number) vault.held n) some));
    uploads = lawful.uploads;
    finished = λ n. if_some-where_entries nat_cmp_total map.nat_cmp-IsAntisymmetric vault.finished n (IsDrawn counter (λ finished. finished.at ≤ last) n) (λ _ upload. not (is_past m upload.at)) (lawful.finished n);
    open_or_finished = λ n some. lawful.open_or_finished n (filtered_some (λ (upload : Finished). not (is_past m upload.at)) _ (subst IsSome (get-where_entries nat_cmp_total map.nat_cmp-IsAntisymmetric (λ _ upload. not (is_past m upload.at)) vault.finished n) some));
    jobs = jobs_left;
    lock = lock_left vault.lock lawful.lock;
    named = refl;
    due = refl;
  }

pub lawful-pass : (a : AccountState) (m : ℕ) → IsLawful a → a.last ≤ m → IsLawful (pass m a)
lawful-pass a m lawful le = record {
  vaults = λ q. if_some-map_values nat_list_cmp_total bytes_cmp-IsAntisymmetric a.vaults q (passed m) (IsLawfulVault a.counter a.last) (IsLawfulVault a.counter m)
      (λ v h. later_vault a.counter a.counter (omega arith) a.last m le (passed m v) (lawful-passed m a.counter a.last v h)) (lawful.vaults q);
  used = refl;
  uploads = refl;
  jobs = refl;
  due = refl;
  length = refl;
  blobs = named_less a a.counter m (omega arith) le lawful (map_values (passed m) a.vaults) (λ blob. omega (arith, total-pass m (naming blob) (naming_is_steady blob) a.vaults));
}
