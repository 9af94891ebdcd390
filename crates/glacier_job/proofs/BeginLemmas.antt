-- What the beginning of a job leaves.
use Rattle.std.specs.Prelude.{◌≡◌, ◌≢◌, ℕ, ◌≤◌, ◌<◌, ◌+◌, ◌%◌, Bool, true, false, cond, not, ◌||◌, List, length, Option, Some, None, Result, Ok, Err, IfSome, IsTrue, is_some, nat_eq, nat_lt, nat_le}
use Rattle.std.specs.Cmp.{nat_cmp_total}
use Rattle.std.specs.FinMap as map
use Rattle.std.proofs.Common.{◌∙◌, ap, sym, refl, subst, arith, eq-eqb}
use Rattle.std.proofs.lemmas.Bool.Decides.{nat_tests}
use Rattle.glacier_base.specs.Maps.{changed_at}
use Rattle.glacier_base.proofs.LookUps.{if_some-insert}
use Rattle.glacier_base.proofs.Sums.{weight, sum_by-insert}
use Rattle.glacier_treehash.specs.Tree.{mib}
use Rattle.glacier_vault.specs.Account.{counter_end}
use Rattle.glacier_vault.specs.Due.{sooner, job_due, due_in}
use Rattle.glacier_vault.specs.Lawful.{IsLawful, IsLawfulVault, IsLawfulArchive, IsLawfulJob, IsLawfulWork, IsDrawn}
use Rattle.glacier_vault.specs.Lengths.{lengths, lines_length, job_record_length, snapshot_length}
use Rattle.glacier_vault.specs.Rows.{state_after, draw_refusal, changed}
use Rattle.glacier_vault.specs.Totals.{Weight, vault_total, total, blocks, each_upload, each_job, naming, used_in, uploads_in, jobs_in}
use Rattle.glacier_vault.specs.declared.archive.Archive.{Archive}
use Rattle.glacier_vault.specs.declared.event.Change.{Change}
use Rattle.glacier_vault.specs.declared.job.Job.{Job}
use Rattle.glacier_vault.specs.declared.job.Stage.TheVariants.{Waiting}
use Rattle.glacier_vault.specs.declared.job.Work.{Work}
use Rattle.glacier_vault.specs.declared.job.Work.TheVariants as works
use Rattle.glacier_vault.specs.declared.refusal.Refusal.{Refusal}
use Rattle.glacier_vault.specs.declared.refusal.Refusal.TheVariants.{NoVault, NoArchive, BadJobRange, JobLimit, CounterEnd}
use Rattle.glacier_vault.specs.declared.rules.Rules.{Rules}
use Rattle.glacier_vault.specs.declared.state.AccountState.{AccountState}
use Rattle.glacier_vault.specs.declared.state.VaultState.{VaultState}
use Rattle.glacier_vault.proofs.Fresh.{fresh}
use Rattle.glacier_vault.proofs.KeepsLawful.{lawful-changed_at, lawful_there}
use Rattle.glacier_vault.proofs.Later.{later_vault}
use Rattle.glacier_vault.proofs.LengthLemmas.{length-changed_at}
use Rattle.glacier_vault.proofs.NamingLemmas.{named_in-waiting}
use Rattle.glacier_vault.proofs.TotalsLemmas.{total-changed_at}
use Rattle.glacier_job.specs.Beginning.{limit_refusal, accepted_work, new_job, with_job, after_put, FitsIn, ready_at, begin_event, begin_row}
use Rattle.glacier_job.specs.Work.{is_bad_range, is_bad_job_range, range_first, range_end, retrieval, work_of, HasOrderedRange}
use Rattle.glacier_job.specs.declared.asks.AskKind.{AskKind}
use Rattle.glacier_job.specs.declared.asks.AskKind.TheVariants as kinds
use Rattle.glacier_job.specs.declared.asks.JobAsk.{JobAsk}
use Rattle.glacier_job.specs.declared.beginning.TheConstants.{MOST_JOBS}
use Rattle.glacier_job.proofs.WaitingLemmas.{content_due-with_job, due_in-with_job}

neither : (a b : Bool) → (a || b) ≡ false → (a ≡ false) × (b ≡ false)
neither true b e = cc
neither false b e = (refl, e)

-- a range that isn't bad ends within the archive
within_size : (first last size : ℕ) → is_bad_range (first, last) size ≡ false → last < size
within_size first last size e =
    let parts = neither (not (nat_eq (first % mib) 0) || not (nat_lt last size)) (not (nat_eq ((last + 1) % mib) 0 || nat_eq (last + 1) size)) e in
    let ends = neither (not (nat_eq (first % mib) 0)) (not (nat_lt last size)) parts.0 in
    at (nat_lt last size) refl ends.1
  where
    lt_of : nat_lt last size ≡ true → last < size
    lt_of t = grind (arith, nat_tests)

    at : (b : Bool) → nat_lt last size ≡ b → not b ≡ false → last < size
    at true t h = lt_of t
    at false t h = cc

module _ (counter last : ℕ) (vault : VaultState) (lawful : IsLawfulVault counter last vault) where
  module _ (number : ℕ) (archive : Archive) (live : map.get vault.archives number ≡ Some archive) where
    right : IsDrawn counter (IsLawfulArchive last) number archive
    right = subst (λ r. IfSome r (IsDrawn counter (IsLawfulArchive last) number)) live (lawful.archives number)

    not_held : (r : Option Archive) → map.get vault.held number ≡ r → IfSome r (λ there. there.size ≡ archive.size)
    not_held None e = tt
    not_held (Some there) e = let gone = lawful.live_or_held number (subst (λ r. IsTrue (is_some r)) (sym e) refl) in let l = live in cc

    -- a retrieval of bytes of a live archive is lawful while it waits
    pub lawful-retrieval : (first end : ℕ) → first < end → end ≤ archive.size → IsLawfulWork (counter + 1) vault.archives vault.held Waiting (retrieval number archive first end)
    lawful-retrieval first end some within = record {
      number = omega (arith, right.drawn);
      some = some;
      within = within;
      live_size = subst (λ r. IfSome r (λ there. there.size ≡ archive.size)) (sym live) refl;
      held_size = subst (λ r. IfSome r (λ there. there.size ≡ archive.size)) refl (not_held (map.get vault.held number) refl);
      kept = λ done gone. cc;
    }

    lawful-range : (range : Option (ℕ × ℕ)) → is_bad_job_range range archive.size ≡ false → IfSome range (λ range. range.0 ≤ range.1)
        → IsLawfulWork (counter + 1) vault.archives vault.held Waiting (retrieval number archive (range_first range) (range_end range archive.size))
    lawful-range None good order = lawful-retrieval 0 archive.size (omega (arith, right.right.body.some)) (omega arith)
    lawful-range (Some r) good order = let inside = within_size r.0 r.1 archive.size good in lawful-retrieval r.0 (r.1 + 1) (omega (arith, order)) (omega (arith, inside))

  -- what a job works on is lawful
  lawful-work_of : (kind : AskKind) → HasOrderedRange kind → (work : Work) → work_of vault kind ≡ Ok work → IsLawfulWork (counter + 1) vault.archives vault.held Waiting work
  lawful-work_of (kinds.Inventory csv) order work e = let is : works.Inventory csv ≡ work = cc in subst (IsLawfulWork (counter + 1) vault.archives vault.held Waiting) is tt
  lawful-work_of (kinds.Archive number range) order work e = at (map.get vault.archives number) refl e
    where
      in_archive : (archive : Archive) → map.get vault.archives number ≡ Some archive → (bad : Bool) → is_bad_job_range range archive.size ≡ bad
          → ◌≡◌ {A = Result Work Refusal} (cond bad (Err BadJobRange) (Ok (retrieval number archive (range_first range) (range_end range archive.size)))) (Ok work) → IsLawfulWork (counter + 1) vault.archives vault.held Waiting work
      in_archive archive live true t e = cc
      in_archive archive live false t e =
          let is : retrieval number archive (range_first range) (range_end range archive.size) ≡ work = cc in
          subst (IsLawfulWork (counter + 1) vault.archives vault.held Waiting) is (lawful-range number archive live range t order)

      at : (r : Option Archive) → map.get vault.archives number ≡ r
          → ◌≡◌ {A = Result Work Refusal} (elim r [ None ↦ Err (NoArchive number) | Some archive ↦ cond (is_bad_job_range range archive.size) (Err BadJobRange) (Ok (retrieval number archive (range_first range) (range_end range archive.size))) ]) (Ok work)
          → IsLawfulWork (counter + 1) vault.archives vault.held Waiting work
      at None live e = cc
      at (Some archive) live e = in_archive archive live (is_bad_job_range range archive.size) refl e

  -- the next number is no job's
  number_free : map.get vault.jobs counter ≡ None
  number_free = fresh (λ _. IsLawfulJob counter last vault.archives vault.held) counter vault.jobs lawful.jobs

  lawful-with_job : (job : Job) → job.stage ≡ Waiting → IsLawfulJob (counter + 1) last vault.archives vault.held job → IsLawfulVault (counter + 1) last (with_job counter job vault)
  lawful-with_job job waits right =
      let up = later_vault counter (counter + 1) (omega arith) last last (omega arith) vault lawful in
      record {
        created = lawful.created;
        bytes = lawful.bytes;
        archives = up.archives;
        held = up.held;
        live_or_held = lawful.live_or_held;
        uploads = up.uploads;
        finished = up.finished;
        open_or_finished = lawful.open_or_finished;
        jobs = λ n. if_some-insert nat_cmp_total map.nat_cmp-IsAntisymmetric (IsDrawn (counter + 1) (IsLawfulJob (counter + 1) last vault.archives vault.held)) vault.jobs counter n job
            (record { drawn = omega arith; right = right }) (up.jobs n);
        named = lawful.named ∙ sym (named_in-waiting vault.jobs counter job number_free waits);
        lock = up.lock;
        due = ap (λ d. sooner d (job_due job)) lawful.due ∙ sym (content_due-with_job counter job waits vault number_free);
      }

  -- one more job weighs as much more
  vault_total-with_job : (w : Weight) (job : Job) → vault_total w (with_job counter job vault) ≡ vault_total w vault + w.job job
  vault_total-with_job w job =
      omega (arith, sum_by-insert nat_cmp_total w.job vault.jobs counter job, ap (weight w.job) number_free)

-- a vault is there, and the job is lawful in it
abbrev FitsThere : ℕ → ℕ → Job → Option VaultState → Type 0
FitsThere counter m job None = ⊥
FitsThere counter m job (Some vault) = IsLawfulJob counter m vault.archives vault.held job

module _ (a : AccountState) (m : ℕ) (le : a.last ≤ m) (lawful : IsLawful a) (name : List ℕ) where
  module _ (vault : VaultState) (there : map.get a.vaults name ≡ Some vault) where
    right_vault : IsLawfulVault a.counter a.last vault
    right_vault = lawful_there a a.counter a.last (omega arith) (omega arith) lawful name vault there

    pub later : IsLawfulVault a.counter m vault
    later = later_vault a.counter a.counter (omega arith) a.last m le vault right_vault

    total-put : (w : Weight) (job : Job) → total w (changed_at (with_job a.counter job) a.vaults name) ≡ total w a.vaults + w.job job
    total-put w job = omega (arith, total-changed_at w a.vaults name vault there (with_job a.counter job), vault_total-with_job a.counter a.last vault right_vault w job)

    pub used-put : (job : Job) → a.used ≡ used_in (changed_at (with_job a.counter job) a.vaults name)
    used-put job = omega (arith, lawful.used, total-put blocks job)

    pub uploads-put : (job : Job) → a.uploads ≡ uploads_in (changed_at (with_job a.counter job) a.vaults name)
    uploads-put job = omega (arith, lawful.uploads, total-put each_upload job)

    pub jobs-put : (job : Job) → a.jobs + 1 ≡ jobs_in (changed_at (with_job a.counter job) a.vaults name)
    jobs-put job = omega (arith, lawful.jobs, total-put each_job job)

    -- how long the snapshot is with the job's record
    pub length-put : (job : Job) → job.stage ≡ Waiting → (more : ℕ) → more ≡ a.length + job_record_length (length name) job → more ≡ snapshot_length (changed_at (with_job a.counter job) a.vaults name)
    length-put job waits more is =
        let none : lines_length (length name) job.stage ≡ 0 = ap (lines_length (length name)) waits in
        omega (arith, is, none, lawful.length, length-changed_at a.vaults name vault there (with_job a.counter job), vault_total-with_job a.counter a.last vault right_vault (lengths (length name)) job)

    pub due-put : (job : Job) → job.stage ≡ Waiting → sooner a.due (job_due job) ≡ due_in (changed_at (with_job a.counter job) a.vaults name)
    due-put job waits = ap (λ d. sooner d (job_due job)) lawful.due ∙ sym (due_in-with_job a.counter job waits vault a.vaults name there)

    lawful-there : (job : Job) → job.stage ≡ Waiting → IsLawfulJob (a.counter + 1) m vault.archives vault.held job → IsLawful (after_put a m name job)
    lawful-there job waits right = lawful-changed_at a (a.counter + 1) m (omega arith) le lawful name vault there (with_job a.counter job)
        (lawful-with_job a.counter m vault later job waits right)
        (record {
          old = λ blob _. omega (arith, vault_total-with_job a.counter a.last vault right_vault (naming blob) job);
          new = λ blob. omega (arith, vault_total-with_job a.counter a.last vault right_vault (naming blob) job);
        })

  -- a job that fits keeps an account lawful
  pub lawful-put : (job : Job) → job.stage ≡ Waiting → FitsIn a m name job → IsLawful (after_put a m name job)
  lawful-put job waits fits = at (map.get a.vaults name) refl fits
    where
      at : (r : Option VaultState) → map.get a.vaults name ≡ r → FitsThere (a.counter + 1) m job r → IsLawful (after_put a m name job)
      at None there fits = absurd fits
      at (Some vault) there fits = lawful-there vault there job waits fits

module _ (rules : Rules) (a : AccountState) (m : ℕ) (le : a.last ≤ m) (lawful : IsLawful a) (ask : JobAsk) (order : HasOrderedRange ask.kind) where
  abbrev by_limit : Work → Option Refusal → Result Work Refusal
  by_limit work r = elim r [ Some refusal ↦ Err refusal | None ↦ Ok work ]

  abbrev by_work : Result Work Refusal → Result Work Refusal
  by_work r = elim r [ Err refusal ↦ Err refusal | Ok work ↦ by_limit work (limit_refusal a) ]

  abbrev by_vault : Option VaultState → Result Work Refusal
  by_vault r = elim r [ None ↦ Err (NoVault ask.vault) | Some vault ↦ by_work (work_of vault ask.kind) ]

  module _ (work : Work) where
    -- what isn't refused for a limit has a number left
    number_left : limit_refusal a ≡ None → a.counter ≢ counter_end
    number_left none end = at (nat_le MOST_JOBS a.jobs) none
      where
        at : (b : Bool) → ◌≡◌ {A = Option Refusal} (cond b (Some JobLimit) (draw_refusal a)) None → ⊥
        at true e = cc
        at false e = let is : nat_eq a.counter counter_end ≡ true = eq-eqb a.counter counter_end end in let some : draw_refusal a ≡ Some CounterEnd = ap (λ b. cond b (Some CounterEnd) None) is in cc

    in_limit : (got : Work) (r : Option Refusal) → limit_refusal a ≡ r → by_limit got r ≡ Ok work → (got ≡ work) × (a.counter ≢ counter_end)
    in_limit got (Some refusal) is e = cc
    in_limit got None is e = (cc, number_left is)

    in_work : (vault : VaultState) → map.get a.vaults ask.vault ≡ Some vault → (r : Result Work Refusal) → work_of vault ask.kind ≡ r → by_work r ≡ Ok work
        → IsLawfulJob (a.counter + 1) m vault.archives vault.held (new_job rules m ask work) × (a.counter ≢ counter_end)
    in_work vault there (Err refusal) is e = cc
    in_work vault there (Ok got) is e =
        let limit = in_limit got (limit_refusal a) refl e in
        let of_work : work_of vault ask.kind ≡ Ok work = is ∙ ap Ok limit.0 in (
          record {
            created = omega arith;
            work = lawful-work_of a.counter m vault (later a m le lawful ask.vault vault there) ask.kind order work of_work;
          },
          limit.1,
        )

    in_vault_of : (r : Option VaultState) → map.get a.vaults ask.vault ≡ r → by_vault r ≡ Ok work
        → FitsThere (a.counter + 1) m (new_job rules m ask work) r × (a.counter ≢ counter_end)
    in_vault_of None there e = cc
    in_vault_of (Some vault) there e = in_work vault there (work_of vault ask.kind) refl e

    -- a job that is accepted fits, and there is a number for it
    pub accepted : accepted_work a ask ≡ Ok work → FitsIn a m ask.vault (new_job rules m ask work) × (a.counter ≢ counter_end)
    accepted e = in_vault_of (map.get a.vaults ask.vault) refl e

  by_row : (r : Result Work Refusal) → accepted_work a ask ≡ r → IsLawful (state_after {X = Change} a (elim r [ Err refusal ↦ Err refusal | Ok work ↦ Ok (after_put a m ask.vault (new_job rules m ask work), changed (begin_event ask (ready_at rules m ask.tier) work)) ]))
  by_row (Err refusal) is = lawful
  by_row (Ok work) is = lawful-put a m le lawful ask.vault (new_job rules m ask work) refl (accepted work is).0

  pub lawful-begin : IsLawful (state_after a (begin_row rules a m ask))
  lawful-begin = by_row (accepted_work a ask) refl
