-- The items of a vault's jobs and of its lock make them again.
use Rattle.std.specs.Prelude.{◌≡◌, ℕ, zero, suc, ◌<◌, ◌≤◌, ◌-◌, Bool, true, false, not, ◌||◌, List, [], ◌∷◌, ◌++◌, length, Option, Some, None, Ok, Err, Result, IfSome, IsSome, IsTrue, is_some, nat_lt}
use Rattle.std.specs.Cmp.{nat_cmp_total}
use Rattle.std.specs.FinMap as map
use Rattle.std.specs.List.{AllByRecursion, flat_map, slice_get}
use Rattle.std.specs.Ordering.{nat_cmp}
use Rattle.std.proofs.Common.{◌∙◌, ap, sym, refl, subst, append_assoc}
use Rattle.std.proofs.lemmas.List.{append-nil}
use Rattle.glacier_policy.specs.declared.policy.Policy.{Policy}
use Rattle.glacier_policy.specs.declared.policy.PolicyFault.{PolicyFault}
use Rattle.glacier_vault.specs.Lawful.{IsLawfulJob, IsLawfulLock, IsLawfulVault, IsLawfulWork, IsDrawn}
use Rattle.glacier_vault.specs.Named.{is_done}
use Rattle.glacier_vault.specs.Totals.{Vaults}
use Rattle.glacier_vault.specs.declared.archive.Archive.{Archive}
use Rattle.glacier_vault.specs.declared.job.Job.{Job}
use Rattle.glacier_vault.specs.declared.job.Line.{Line}
use Rattle.glacier_vault.specs.declared.job.Stage.{Stage}
use Rattle.glacier_vault.specs.declared.job.Stage.TheVariants as stages
use Rattle.glacier_vault.specs.declared.job.Work.{Work}
use Rattle.glacier_vault.specs.declared.job.Work.TheVariants as works
use Rattle.glacier_vault.specs.declared.lock.Lock.{Lock}
use Rattle.glacier_vault.specs.declared.state.AccountState.{AccountState}
use Rattle.glacier_vault.specs.declared.state.VaultState.{VaultState}
use Rattle.glacier_records.specs.declared.kept.Kept.TheVariants as kept
use Rattle.glacier_restore.specs.Fitting.{has_size, is_above, is_work, takes_job, takes_line, job_takes, takes_lock}
use Rattle.glacier_restore.specs.Putting.{put_lock, with_job, with_line, in_job, with_lock}
use Rattle.glacier_restore.specs.Restoring.{kept_lock, put, stage_of}
use Rattle.glacier_restore.specs.Snapshot.{put_all, of_each, stage_name, lines_of, line_items, job_items, lock_items}
use Rattle.glacier_restore.specs.Sound.{AreLines, HasLines, IsSoundVault}
use Rattle.glacier_restore.proofs.AgainLemmas.{none_of_one}
use Rattle.glacier_restore.proofs.EachLemmas.{put_all-cons, each_entry, get_there, changed_there}
use Rattle.glacier_restore.proofs.MomentLemmas.{content_due-line}
use Rattle.glacier_restore.proofs.PlacedLemmas.{both, le_test, lt_test, eq_test, placed-in, past_test, stand, jobs_made, lock_made}

-- of all elements, the one at a place
all_at : {X : Type 0} (P : X → Type 0) (xs : List X) (i : ℕ) → AllByRecursion P xs → IfSome (slice_get xs i) P
all_at P [] i h = tt
all_at P (x ∷ xs) zero h = h.0
all_at P (x ∷ xs) (suc i) h = all_at P xs i h.1

-- of all elements, the one behind some
all_behind : {X : Type 0} (P : X → Type 0) (done : List X) (x : X) (left : List X) → AllByRecursion P (done ++ x ∷ left) → P x
all_behind P [] x left h = h.0
all_behind P (d ∷ done) x left h = all_behind P done x left h.1

-- a line of an inventory has a byte, and is above each before it
line_rises : (done : List Line) (line : Line) (left : List Line) → AreLines (done ++ line ∷ left) → (1 ≤ line.size) × AllByRecursion (λ d. d.archive < line.archive) done
line_rises [] line left h = (h.0, tt)
line_rises (d ∷ done) line left h =
    let later = line_rises done line left h.2 in
    (later.0, (all_behind (λ (next : Line). d.archive < next.archive) done line left h.1, later.1))

above_again : (archive : ℕ) (lines : List Line) → AllByRecursion (λ line. line.archive < archive) lines → is_above archive lines ≡ true
above_again archive lines below = at (slice_get lines (length lines - 1)) (all_at (λ (line : Line). line.archive < archive) lines (length lines - 1) below)
  where
    at : (r : Option Line) → IfSome r (λ line. line.archive < archive) → elim r as (λ _. Bool) [ None ↦ true | Some line ↦ nat_lt line.archive archive ] ≡ true
    at None h = refl
    at (Some line) h = lt_test line.archive archive h

size_again : (size : ℕ) (r : Option Archive) → IfSome r (λ there. there.size ≡ size) → has_size size r ≡ true
size_again size None h = refl
size_again size (Some x) h = eq_test x.size size h

-- what a retrieval that is done names is there
kept_again : {X Y : Type 0} (done : Bool) (r : Option X) (s : Option Y) → (IsTrue done → r ≡ None → IsSome s) → (not done || (is_some r || is_some s)) ≡ true
kept_again false r s h = refl
kept_again true (Some x) s h = refl
kept_again true None s h = h refl refl

work_again : (b : AccountState) (v : VaultState) (work : Work) (stage again : Stage) → is_done again ≡ is_done stage
    → IsLawfulWork b.counter v.archives v.held stage work → is_work b v again work ≡ true
work_again b v (works.Inventory csv) stage again e h = refl
work_again b v (works.Archive archive size tree first end range) stage again e h =
    both _ _ (both _ _ (both _ _ (both _ _ (both _ _
    (lt_test archive b.counter h.number) (lt_test first end h.some)) (le_test end size h.within))
    (size_again size (map.get v.archives archive) h.live_size)) (size_again size (map.get v.held archive) h.held_size))
    (ap (λ d. not d || (is_some (map.get v.archives archive) || is_some (map.get v.held archive))) e
    ∙ kept_again (is_done stage) (map.get v.archives archive) (map.get v.held archive) h.kept)

done_again : (stage : Stage) → is_done (stage_of (stage_name stage)) ≡ is_done stage
done_again stages.Waiting = refl
done_again stages.Failed = refl
done_again (stages.Done lines) = refl

module _ (a : AccountState) (p : Vaults) (name : List ℕ) (vault : VaultState) where
  module _ (q : map.FinMap nat_cmp Job) (k : ℕ) (x : Job) where
    -- the job at another stage
    abbrev staged : Stage → Job
    staged stage = record x { stage = stage }

    -- the account with the job at a stage
    abbrev with_stage : Stage → AccountState
    with_stage stage = stand a p name (jobs_made vault (map.insert q k (staged stage)))

    job_put : IsDrawn a.counter (IsLawfulJob a.counter a.last vault.archives vault.held) k x → map.get q k ≡ None
        → put (stand a p name (jobs_made vault q)) x.created (kept.Job name k x.ready x.tier (stage_name x.stage) x.description x.work) ≡ Some (with_stage (stage_of (stage_name x.stage)))
    job_put is none =
        let v = jobs_made vault q in
        let new = staged (stage_of (stage_name x.stage)) in
        placed-in a.last a.counter p name v (takes_job (stand a p name v) k new) (with_job k new)
        (both _ _ (both _ _ (past_test a.last a.counter p name x.created k is.drawn is.right.created)
        (work_again (stand a p name v) v x.work x.stage (stage_of (stage_name x.stage)) (done_again x.stage) is.right.work))
        (none_of_one (map.get q k) none))

    -- a line of an inventory that is done
    line_put : (csv : Bool) → x.work ≡ works.Inventory csv → (done : List Line) (line : Line) → 1 ≤ line.size → AllByRecursion (λ d. d.archive < line.archive) done
        → put (with_stage (stages.Done done)) 0 (kept.Line name k line.archive line.size line.created line.description line.tree) ≡ Some (with_stage (stages.Done (done ++ line ∷ [])))
    line_put csv is done line some below =
        let v = jobs_made vault (map.insert q k (staged (stages.Done done))) in
        placed-in a.last a.counter p name v (job_takes k line) (in_job k line)
        (ap (λ r. elim r as (λ _. Bool) [ None ↦ false | Some job ↦ takes_line line job.work job.stage ]) (get_there nat_cmp_total map.nat_cmp-IsAntisymmetric q k (staged (stages.Done done)))
        ∙ ap (λ work. takes_line line work (stages.Done done)) is
        ∙ both _ _ (le_test 1 line.size some) (above_again line.archive done below))
        ∙ ap (λ due. Some (stand a p name (record (in_job k line v) { due = due })))
        (sym (content_due-line v k (staged (stages.Done done)) (get_there nat_cmp_total map.nat_cmp-IsAntisymmetric q k (staged (stages.Done done))) line))
        ∙ ap (λ jobs. Some (stand a p name (jobs_made vault jobs))) (changed_there nat_cmp_total map.nat_cmp-IsAntisymmetric q k (staged (stages.Done done)) (with_line line))

    lines_again : (csv : Bool) → x.work ≡ works.Inventory csv → (left done : List Line) → AreLines (done ++ left)
        → put_all (with_stage (stages.Done done)) (flat_map (line_items name k) left) ≡ Some (with_stage (stages.Done (done ++ left)))
    lines_again csv is [] done are = ap (λ lines. Some (with_stage (stages.Done lines))) (sym (append-nil done))
    lines_again csv is (line ∷ left) done are =
        let rises = line_rises done line left are in
        put_all-cons 0 (kept.Line name k line.archive line.size line.created line.description line.tree) (flat_map (line_items name k) left) (with_stage (stages.Done done)) _ refl
        (line_put csv is done line rises.0 rises.1)
        ∙ lines_again csv is left (done ++ line ∷ []) (subst AreLines (sym (append_assoc done (line ∷ []) left)) are)
        ∙ ap (λ lines. Some (with_stage (stages.Done lines))) (append_assoc done (line ∷ []) left)

    -- the lines of a job's stage, behind the job
    stage_again : (work : Work) (stage : Stage) → x.work ≡ work → HasLines work stage
        → put_all (with_stage (stage_of (stage_name stage))) (flat_map (line_items name k) (lines_of stage)) ≡ Some (with_stage stage)
    stage_again work stages.Waiting is has = refl
    stage_again work stages.Failed is has = refl
    stage_again (works.Inventory csv) (stages.Done lines) is has = lines_again csv is lines [] has
    stage_again (works.Archive archive size tree first end range) (stages.Done lines) is has =
        ap (λ l. put_all (with_stage (stages.Done [])) (flat_map (line_items name k) l)) has ∙ ap (λ l. Some (with_stage (stages.Done l))) (sym has)

    pub job_again : IsDrawn a.counter (IsLawfulJob a.counter a.last vault.archives vault.held) k x → HasLines x.work x.stage → map.get q k ≡ None
        → put_all (stand a p name (jobs_made vault q)) (job_items name k x) ≡ Some (stand a p name (jobs_made vault (map.insert q k x)))
    job_again is has none =
        put_all-cons x.created (kept.Job name k x.ready x.tier (stage_name x.stage) x.description x.work) (flat_map (line_items name k) (lines_of x.stage)) (stand a p name (jobs_made vault q)) _ refl (job_put is none) ∙ stage_again x.work x.stage refl has

  pub jobs_again : IsLawfulVault a.counter a.last vault → IsSoundVault vault
      → put_all (stand a p name (jobs_made vault map.empty)) (of_each (job_items name) vault.jobs) ≡ Some (stand a p name (jobs_made vault vault.jobs))
  jobs_again right sound = each_entry nat_cmp_total map.nat_cmp-IsAntisymmetric vault.jobs (λ q. stand a p name (jobs_made vault q)) (job_items name) (λ q k x is none _.
      let drawn = subst (λ r. IfSome r (IsDrawn a.counter (IsLawfulJob a.counter a.last vault.archives vault.held) k)) is (right.jobs k) in
      let has = subst (λ r. IfSome r (λ (job : Job). HasLines job.work job.stage)) is (sound.jobs k) in
      job_again q k x drawn has none)

  pub lock_again : (r : Option Lock) → IfSome r (IsLawfulLock a.counter a.last)
      → put_all (stand a p name (lock_made vault None)) (lock_items name r) ≡ Some (stand a p name (lock_made vault r))
  lock_again None h = refl
  lock_again (Some x) h =
      let v = lock_made vault None in
      let of_policy : Result Policy PolicyFault → Option Lock = λ r. elim r as (λ _. Option Lock) [ Err fault ↦ None | Ok read ↦ Some (record { number = x.number; text = x.text; policy = read; created = x.created; locked = x.locked }) ] in
      let is : kept_lock x.created x.number x.locked x.text ≡ Some x = ap of_policy h.policy in
      put_all-cons x.created (kept.Lock name x.number x.locked x.text) [] (stand a p name v) _ refl (
      ap (λ r. elim r as (λ _. Option AccountState) [ None ↦ None | Some lock ↦ put_lock (stand a p name v) name lock ]) is
      ∙ placed-in a.last a.counter p name v (takes_lock (stand a p name v) x) (with_lock x) (both _ _ (past_test a.last a.counter p name x.created x.number h.number h.created) refl))
