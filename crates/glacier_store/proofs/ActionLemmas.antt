-- What the rows of archives and jobs make of an account is what their events make of it.
use Rattle.std.specs.FinMap as map
use Rattle.std.proofs.Common.{◌≡◌, ℕ, ◌≤◌, Bool, true, false, cond, ◌&&◌, not, List, [], Option, Some, None, Ok, Err, refl, sym, ◌∙◌, ap, subst, nat_eq, nat_le, nat_lt, arith}
use Rattle.std.specs.Prelude.{Result, IfSome, is_some}
use Rattle.std.proofs.lemmas.Bool.{eqb-true}
use Rattle.std.proofs.lemmas.Bool.Decides.{nat_tests}
use Rattle.glacier_job.specs.Beginning.{after_put, begin_event, begin_row, limit_refusal, new_job, ready_at}
use Rattle.glacier_job.specs.Work.{HasOrderedRange, is_bad_job_range, range_end, range_first, retrieval, work_of}
use Rattle.glacier_job.specs.declared.asks.AskKind.{AskKind}
use Rattle.glacier_job.specs.declared.asks.AskKind.TheVariants as kinds
use Rattle.glacier_job.specs.declared.asks.JobAsk.{JobAsk}
use Rattle.glacier_job.specs.declared.beginning.TheConstants.{MOST_JOBS}
use Rattle.glacier_lock.specs.Denied.{delete_archive_row, denied}
use Rattle.glacier_upload.proofs.DrawLemmas.{drawn_left}
use Rattle.glacier_vault.specs.Account.{counter_end}
use Rattle.glacier_vault.specs.Deletions.{deletion, freed_by_deletion, without_archive}
use Rattle.glacier_vault.specs.Lawful.{IsDrawn, IsLawful, IsLawfulArchive, IsLawfulVault}
use Rattle.glacier_vault.specs.Rows.{Row, changed, changed_freeing, draw_refusal, in_vault, no_change}
use Rattle.glacier_vault.specs.declared.archive.Archive.{Archive}
use Rattle.glacier_vault.specs.declared.event.Change.{Change}
use Rattle.glacier_vault.specs.declared.event.Event.TheVariants as events
use Rattle.glacier_vault.specs.declared.job.Work.{Work}
use Rattle.glacier_vault.specs.declared.job.Work.TheVariants as works
use Rattle.glacier_vault.specs.declared.refusal.Refusal.{Refusal}
use Rattle.glacier_vault.specs.declared.refusal.Refusal.TheVariants.{BadJobRange, JobLimit, NoArchive, NoVault}
use Rattle.glacier_vault.specs.declared.rules.Rules.{Rules}
use Rattle.glacier_vault.specs.declared.state.AccountState.{AccountState}
use Rattle.glacier_vault.specs.declared.state.VaultState.{VaultState}
use Rattle.glacier_replay.specs.Changes.{body_in}
use Rattle.glacier_replay.specs.Replayed.{Replay, after_event, can_draw, where_fits, with_found}
use Rattle.glacier_store.specs.Steps.{IsMadeWith}
use Rattle.glacier_store.proofs.RowLemmas.{RowMakes, made}

-- a number that may be drawn is left
pub number_left : (a : AccountState) → draw_refusal a ≡ None → can_draw a ≡ true
number_left a drawn = at (nat_eq a.counter counter_end) refl
  where
    at : (b : Bool) → nat_eq a.counter counter_end ≡ b → not b ≡ true
    at true t = absurd (drawn_left a drawn (eqb-true a.counter counter_end t))
    at false t = refl

module _ (rules : Rules) (before : AccountState) (m : ℕ) (name : List ℕ) (number : ℕ) (time : before.last ≤ m) where
  abbrev gone : AccountState
  gone = in_vault before m name (without_archive number)

  -- the deletion of an archive, by why it is denied, by the archive and by the vault
  abbrev of_denial : Option Refusal → Row Change
  of_denial r = elim r [ Some refusal ↦ Err refusal | None ↦ Ok (gone, deletion before name number) ]

  abbrev of_live : VaultState → Option Archive → Row Change
  of_live vault r = elim r [ None ↦ Ok (before, no_change) | Some archive ↦ of_denial (denied rules name m vault.lock archive) ]

  abbrev in_name : Option VaultState → Row Change
  in_name r = elim r [ None ↦ Err (NoVault name) | Some vault ↦ of_live vault (map.get vault.archives number) ]

  abbrev where_live : VaultState → Bool → Replay
  where_live vault live = where_fits live (gone, freed_by_deletion number vault)

  pub archive_deletion_made : RowMakes before m (delete_archive_row rules before m name number)
  archive_deletion_made = at (map.get before.vaults name) refl
    where
      in_denial : (vault : VaultState) → map.get before.vaults name ≡ Some vault → map.contains_key vault.archives number ≡ true → (r : Option Refusal) → RowMakes before m (of_denial r)
      in_denial vault there live (Some refusal) = tt
      in_denial vault there live None =
          subst (λ (change : Change). IsMadeWith None before m change gone)
          (sym (ap (λ (r : Option VaultState). elim r as (λ _. Change) [ None ↦ no_change | Some v ↦ changed_freeing (events.DeleteArchive name number) (freed_by_deletion number v) ]) there))
          (made before m (events.DeleteArchive name number) gone (freed_by_deletion number vault) time refl
          (ap (λ (r : Option VaultState). with_found r (λ (v : VaultState). where_live v (map.contains_key v.archives number))) there ∙ ap (where_live vault) live))

      in_live : (vault : VaultState) → map.get before.vaults name ≡ Some vault → (r : Option Archive) → map.get vault.archives number ≡ r → RowMakes before m (of_live vault r)
      in_live vault there None e = refl
      in_live vault there (Some archive) e = in_denial vault there (ap is_some e) (denied rules name m vault.lock archive)

      at : (r : Option VaultState) → map.get before.vaults name ≡ r → RowMakes before m (in_name r)
      at None e = tt
      at (Some vault) e = in_live vault e (map.get vault.archives number) refl

module _ (rules : Rules) (before : AccountState) (m : ℕ) (ask : JobAsk) (time : before.last ≤ m) (lawful : IsLawful before) where
  abbrev after_work : Work → AccountState
  after_work work = after_put before m ask.vault (new_job rules m ask work)

  -- the beginning of a job, by what it works on, by the limit, and by the vault
  abbrev of_work : Result Work Refusal → Row Change
  of_work r = elim r [ Err refusal ↦ Err refusal | Ok work ↦ Ok (after_work work, changed (begin_event ask (ready_at rules m ask.tier) work)) ]

  abbrev of_limit : Work → Option Refusal → Result Work Refusal
  of_limit work r = elim r [ Some refusal ↦ Err refusal | None ↦ Ok work ]

  abbrev of_asked : Result Work Refusal → Result Work Refusal
  of_asked r = elim r [ Err refusal ↦ Err refusal | Ok work ↦ of_limit work (limit_refusal before) ]

  abbrev of_archive : ℕ → Option (ℕ × ℕ) → Archive → Bool → Result Work Refusal
  of_archive number range archive bad = cond bad (Err BadJobRange) (Ok (retrieval number archive (range_first range) (range_end range archive.size)))

  abbrev of_number : ℕ → Option (ℕ × ℕ) → Option Archive → Result Work Refusal
  of_number number range r = elim r [ None ↦ Err (NoArchive number) | Some archive ↦ of_archive number range archive (is_bad_job_range range archive.size) ]

  abbrev of_vault : Option VaultState → Result Work Refusal
  of_vault r = elim r [ None ↦ Err (NoVault ask.vault) | Some vault ↦ of_asked (work_of vault ask.kind) ]

  below_limit : (full : Bool) → cond full (Some JobLimit) (draw_refusal before) ≡ None → can_draw before ≡ true
  below_limit true e = cc
  below_limit false e = number_left before e

  in_limit : (work : Work) → body_in (begin_event ask (ready_at rules m ask.tier) work) ≡ None
      → (can_draw before ≡ true → after_event before m (begin_event ask (ready_at rules m ask.tier) work) ≡ Some (after_work work, []))
      → (r : Option Refusal) → limit_refusal before ≡ r → RowMakes before m (of_work (of_limit work r))
  in_limit work plain fits (Some refusal) e = tt
  in_limit work plain fits None e =
      made before m (begin_event ask (ready_at rules m ask.tier) work) (after_work work) [] time plain (fits (below_limit (nat_le MOST_JOBS before.jobs) e))

  module _ (vault : VaultState) (there : map.get before.vaults ask.vault ≡ Some vault) where
    inventory_begun : (csv : Bool) → RowMakes before m (of_work (of_asked (work_of vault (kinds.Inventory csv))))
    inventory_begun csv =
        in_limit (works.Inventory csv) refl
        (λ left. ap (λ (r : Option VaultState). where_fits (is_some r && can_draw before) (after_work (works.Inventory csv), [])) there
        ∙ ap (λ (b : Bool). where_fits b (after_work (works.Inventory csv), [])) left)
        (limit_refusal before) refl

    module _ (number : ℕ) (range : Option (ℕ × ℕ)) (order : IfSome range (λ r. r.0 ≤ r.1)) (archive : Archive) (live : map.get vault.archives number ≡ Some archive) where
      its_vault : IsLawfulVault before.counter before.last vault
      its_vault = subst (λ (r : Option VaultState). IfSome r (IsLawfulVault before.counter before.last)) there (lawful.vaults ask.vault)

      some : 1 ≤ archive.size
      some = (subst (λ (r : Option Archive). IfSome r (λ a. 1 ≤ a.size)) live (sized (map.get vault.archives number) (its_vault.archives number)))
        where
          sized : (r : Option Archive) → IfSome r (IsDrawn before.counter (IsLawfulArchive before.last) number) → IfSome r (λ a. 1 ≤ a.size)
          sized None is = tt
          sized (Some a) is = is.right.body.some

      within : (asked : Option (ℕ × ℕ)) → IfSome asked (λ r. r.0 ≤ r.1) → is_bad_job_range asked archive.size ≡ false
          → (nat_lt (range_first asked) (range_end asked archive.size) && nat_le (range_end asked archive.size) archive.size) ≡ true
      within None is good = grind (arith, nat_tests, some)
      within (Some r) is good = grind (arith, nat_tests, is, good)

      retrieval_begun : (bad : Bool) → is_bad_job_range range archive.size ≡ bad → RowMakes before m (of_work (of_asked (of_archive number range archive bad)))
      retrieval_begun true e = tt
      retrieval_begun false e =
          let first : ℕ = range_first range in
          let end : ℕ = range_end range archive.size in
          let after : AccountState = after_work (retrieval number archive first end) in
          in_limit (retrieval number archive first end) refl
          (λ left. ap (λ (r : Option VaultState). with_found r (λ (v : VaultState). with_found (map.get v.archives number) (λ (a : Archive).
          where_fits (nat_lt first end && nat_le end a.size && can_draw before) (after_work (retrieval number a first end), [])))) there
          ∙ ap (λ (r : Option Archive). with_found r (λ (a : Archive).
          where_fits (nat_lt first end && nat_le end a.size && can_draw before) (after_work (retrieval number a first end), []))) live
          ∙ ap (λ (b : Bool). where_fits (b && can_draw before) (after, [])) (within range order e)
          ∙ ap (λ (b : Bool). where_fits b (after, [])) left)
          (limit_refusal before) refl

    kind_begun : (kind : AskKind) → HasOrderedRange kind → RowMakes before m (of_work (of_asked (work_of vault kind)))
    kind_begun (kinds.Inventory csv) order = inventory_begun csv
    kind_begun (kinds.Archive number range) order = at (map.get vault.archives number) refl
      where
        at : (r : Option Archive) → map.get vault.archives number ≡ r → RowMakes before m (of_work (of_asked (of_number number range r)))
        at None e = tt
        at (Some archive) e = retrieval_begun number range order archive e (is_bad_job_range range archive.size) refl

  pub beginning_made : HasOrderedRange ask.kind → RowMakes before m (begin_row rules before m ask)
  beginning_made order = at (map.get before.vaults ask.vault) refl
    where
      at : (r : Option VaultState) → map.get before.vaults ask.vault ≡ r → RowMakes before m (of_work (of_vault r))
      at None e = tt
      at (Some vault) e = kind_begun vault e ask.kind order
