-- What a vault is after the deletion of a live archive.
use Rattle.std.specs.Prelude.{◌≡◌, ℕ, ◌≤◌, ◌+◌, ◌-◌, Bool, true, false, cond, List, Option, Some, None, IfSome, IsSome, sum_by}
use Rattle.std.specs.Cmp.{nat_cmp_total}
use Rattle.std.specs.FinMap as map
use Rattle.std.specs.Ordering.{nat_cmp, eq_by_cmp}
use Rattle.std.proofs.Common.{◌∙◌, ap, sym, refl, subst, arith, eq-eqb}
use Rattle.glacier_base.specs.Maps.{changed_at}
use Rattle.glacier_base.proofs.LookUps.{if_some-insert, if_some-remove}
use Rattle.glacier_base.proofs.Sorted.{tied}
use Rattle.glacier_base.proofs.Sums.{weight, sum_by-insert, sum_by-remove}
use Rattle.glacier_vault.specs.Deletions.{without_archive, room_freed, live_archive}
use Rattle.glacier_vault.specs.Due.{sooner, soonest, job_due, finished_due, content_due, due_in}
use Rattle.glacier_vault.specs.Lawful.{IsLawful, IsLawfulVault, IsLawfulArchive, IsLawfulJob, IsLawfulWork, IsDrawn}
use Rattle.glacier_vault.specs.Named.{is_named, names}
use Rattle.glacier_vault.specs.Rows.{in_vault}
use Rattle.glacier_vault.specs.Totals.{Weight, Archives, vault_total, total, blocks, need, each_upload, each_job, naming, used_in, uploads_in, jobs_in, bytes_in}
use Rattle.glacier_vault.specs.declared.archive.Archive.{Archive}
use Rattle.glacier_vault.specs.declared.job.Job.{Job}
use Rattle.glacier_vault.specs.declared.job.Work.{Work}
use Rattle.glacier_vault.specs.declared.job.Work.TheVariants as works
use Rattle.glacier_vault.specs.declared.state.AccountState.{AccountState}
use Rattle.glacier_vault.specs.declared.state.VaultState.{VaultState}
use Rattle.glacier_vault.proofs.DueLemmas.{due_in-same, held_due-kept}
use Rattle.glacier_vault.proofs.KeepsLawful.{lawful-changed_at, lawful_there}
use Rattle.glacier_vault.proofs.Later.{weaker, weaker_there, later_vault}
use Rattle.glacier_vault.proofs.TotalsLemmas.{total-changed_at, total-remove}
use Rattle.glacier_vault.proofs.ValuesLemmas.{list_any-values}

-- what is both live and held is neither
none_of : {X : Type 0} (r s : Option X) → (IsSome s → r ≡ None) → (x : X) → r ≡ Some x → s ≡ None
none_of r None apart x e = refl
none_of r (Some y) apart x e = let gone = apart refl in cc

module _ (number : ℕ) (vault : VaultState) (archive : Archive) (live : map.get vault.archives number ≡ Some archive) where
  -- the held archives afterwards, by whether a finished job names the archive
  abbrev held_after : Bool → Archives
  held_after named = cond named (map.insert vault.held number archive) vault.held

  held_is : (without_archive number vault).held ≡ held_after (is_named vault.jobs number)
  held_is = ap (λ r. cond (is_named vault.jobs number) (elim r [ None ↦ vault.held | Some a ↦ map.insert vault.held number a ]) vault.held) live

  -- the bytes of the others
  pub bytes-without : bytes_in (map.remove vault.archives number) + archive.size ≡ bytes_in vault.archives
  bytes-without =
      let size = λ (a : Archive). a.size in
      omega (arith, sum_by-remove nat_cmp_total size map.nat_cmp-IsAntisymmetric vault.archives number, ap (weight size) live)

  module _ (apart : map.get vault.held number ≡ None) (w : Weight) where
    -- the archive counts no more, unless it is held
    pub total-without_archive : vault_total w (without_archive number vault) + cond (is_named vault.jobs number) 0 (w.archive archive) ≡ vault_total w vault
    total-without_archive = at (is_named vault.jobs number) (ap (λ h. sum_by w.archive (map.values h)) held_is)
      where
        removed : sum_by w.archive (map.values (map.remove vault.archives number)) + w.archive archive ≡ sum_by w.archive (map.values vault.archives)
        removed = omega (arith, sum_by-remove nat_cmp_total w.archive map.nat_cmp-IsAntisymmetric vault.archives number, ap (weight w.archive) live)

        inserted : sum_by w.archive (map.values (map.insert vault.held number archive)) ≡ sum_by w.archive (map.values vault.held) + w.archive archive
        inserted = omega (arith, sum_by-insert nat_cmp_total w.archive vault.held number archive, ap (weight w.archive) apart)

        at : (named : Bool) → sum_by w.archive (map.values (without_archive number vault).held) ≡ sum_by w.archive (map.values (held_after named)) → vault_total w (without_archive number vault) + cond named 0 (w.archive archive) ≡ vault_total w vault
        at true e = omega (arith, removed, inserted)
        at false e = omega (arith, removed)

  module _ (counter last : ℕ) (lawful : IsLawfulVault counter last vault) where
    module _ (P : ℕ → Archive → Type 0) (here : P number archive) (q : ℕ) (before : IfSome (map.get vault.held q) (P q)) where
      held_after_known : (named : Bool) → IfSome (map.get (held_after named) q) (P q)
      held_after_known true = if_some-insert nat_cmp_total map.nat_cmp-IsAntisymmetric P vault.held number q archive here before
      held_after_known false = before

      held_known : IfSome (map.get (without_archive number vault).held q) (P q)
      held_known = subst (λ h. IfSome (map.get h q) (P q)) (sym held_is) (held_after_known (is_named vault.jobs number))

    here : IsDrawn counter (IsLawfulArchive last) number archive
    here = subst (λ r. IfSome r (IsDrawn counter (IsLawfulArchive last) number)) live (lawful.archives number)

    -- nothing is both live and held afterwards
    apart_after : (q : ℕ) → IsSome (map.get (without_archive number vault).held q) → map.get (map.remove vault.archives number) q ≡ None
    apart_after q some = map.get-remove nat_cmp_total vault.archives number q ∙ at (eq_by_cmp nat_cmp q number) refl (is_named vault.jobs number) (subst (λ h. IsSome (map.get h q)) held_is some)
      where
        at : (b : Bool) → eq_by_cmp nat_cmp q number ≡ b → (named : Bool) → IsSome (map.get (held_after named) q) → cond b None (map.get vault.archives q) ≡ None
        at true t named s = refl
        at false t true s = lawful.live_or_held q (subst IsSome (map.get-insert nat_cmp_total vault.held number archive q ∙ ap (λ b. cond b (Some archive) (map.get vault.held q)) t) s)
        at false t false s = lawful.live_or_held q s

    -- a retrieval that is done has its archive afterwards
    kept_after : (job : Job) (at k : ℕ) → map.get vault.jobs at ≡ Some job → names k job ≡ true
        → (map.get vault.archives k ≡ None → IsSome (map.get vault.held k))
        → map.get (map.remove vault.archives number) k ≡ None → IsSome (map.get (without_archive number vault).held k)
    kept_after job at k there named before gone = subst (λ h. IsSome (map.get h k)) (sym held_is) (by (eq_by_cmp nat_cmp k number) refl)
      where
        by : (b : Bool) → eq_by_cmp nat_cmp k number ≡ b → IsSome (map.get (held_after (is_named vault.jobs number)) k)
        by true t =
            let same : k ≡ number = map.nat_cmp-IsAntisymmetric k number (tied _ t) in
            let is : is_named vault.jobs number ≡ true = list_any-values nat_cmp (names number) vault.jobs at job there (ap (λ n. names n job) (sym same) ∙ named) in
            subst (λ b. IsSome (map.get (held_after b) k)) (sym is)
            (subst IsSome (sym (map.get-insert nat_cmp_total vault.held number archive k ∙ ap (λ b. cond b (Some archive) (map.get vault.held k)) t)) refl)
        by false t = held_or (is_named vault.jobs number) (before (sym (map.get-remove nat_cmp_total vault.archives number k ∙ ap (λ b. cond b None (map.get vault.archives k)) t) ∙ gone))
          where
            held_or : (named : Bool) → IsSome (map.get vault.held k) → IsSome (map.get (held_after named) k)
            held_or true s = subst IsSome (sym (map.get-insert nat_cmp_total vault.held number archive k ∙ ap (λ b. cond b (Some archive) (map.get vault.held k)) t)) s
            held_or false s = s

    work_after : (job : Job) (at : ℕ) → map.get vault.jobs at ≡ Some job → (work : Work) → job.work ≡ work
        → IsLawfulWork counter vault.archives vault.held job.stage work
        → IsLawfulWork counter (map.remove vault.archives number) (without_archive number vault).held job.stage work
    work_after job at there (works.Inventory csv) is h = tt
    work_after job at there (works.Archive k size tree first end range) is h = record {
      number = h.number;
      some = h.some;
      within = h.within;
      live_size = if_some-remove nat_cmp_total map.nat_cmp-IsAntisymmetric (λ _ a. a.size ≡ size) vault.archives number k h.live_size;
      held_size =
          let HasSize : Archive → Type 0 = λ a. a.size ≡ size in
          let AtThis : ℕ → Archive → Type 0 = λ q a. q ≡ k → a.size ≡ size in
          let this : AtThis number archive = λ e. subst (λ r. IfSome r HasSize) live (subst (λ n. IfSome (map.get vault.archives n) HasSize) (sym e) h.live_size) in
          weaker (AtThis k) HasSize (map.get (without_archive number vault).held k) (λ a f. f refl) (held_known AtThis this k (weaker HasSize (AtThis k) (map.get vault.held k) (λ a is _. is) h.held_size));
      kept = λ done. kept_after job at k there (rw (done, is) (eq-eqb k k refl)) (h.kept done);
    }

    -- what becomes held is named by a finished job
    content_due-without : content_due (without_archive number vault) ≡ content_due vault
    content_due-without = ap (λ h. content_due (record vault { held = h })) held_is ∙ at (is_named vault.jobs number) refl
      where
        at : (named : Bool) → is_named vault.jobs number ≡ named → content_due (record vault { held = held_after named }) ≡ content_due vault
        at true e = ap (λ x. sooner (soonest job_due (map.values vault.jobs)) (sooner (soonest finished_due (map.values vault.finished)) x)) (held_due-kept vault number archive e)
        at false e = refl

    pub lawful-without_archive : IsLawfulVault counter last (without_archive number vault)
    lawful-without_archive = record {
      created = lawful.created;
      bytes = refl;
      archives = λ n. if_some-remove nat_cmp_total map.nat_cmp-IsAntisymmetric (IsDrawn counter (IsLawfulArchive last)) vault.archives number n (lawful.archives n);
      held = λ n. held_known (IsDrawn counter (IsLawfulArchive last)) here n (lawful.held n);
      live_or_held = apart_after;
      uploads = lawful.uploads;
      finished = lawful.finished;
      open_or_finished = lawful.open_or_finished;
      jobs = λ n. weaker_there (IsDrawn counter (IsLawfulJob counter last vault.archives vault.held) n) (IsDrawn counter (IsLawfulJob counter last (map.remove vault.archives number) (without_archive number vault).held) n) (map.get vault.jobs n) (λ job there h. record { drawn = h.drawn; right = record { created = h.right.created; work = work_after job n there job.work refl h.right.work } }) (lawful.jobs n);
      named = lawful.named;
      lock = lawful.lock;
      due = lawful.due ∙ sym content_due-without;
    }

-- the account of which a live archive is deleted
module _ (a : AccountState) (m : ℕ) (lawful : IsLawful a) (name : List ℕ) (number : ℕ) (vault : VaultState) (there : map.get a.vaults name ≡ Some vault) where
  right_vault : IsLawfulVault a.counter a.last vault
  right_vault = lawful_there a a.counter a.last (omega arith) (omega arith) lawful name vault there

  room_at : (r : Option Archive) → map.get vault.archives number ≡ r → (archive : Archive) → r ≡ Some archive → room_freed number vault ≡ cond (is_named vault.jobs number) 0 (need archive.size)
  room_at r e archive is = ap (λ r. cond (is_named vault.jobs number) 0 (elim r [ None ↦ 0 | Some a ↦ need a.size ])) (e ∙ is)

  module _ (archive : Archive) (live : map.get vault.archives number ≡ Some archive) where
    pub balance : (w : Weight) → vault_total w (without_archive number vault) + cond (is_named vault.jobs number) 0 (w.archive archive) ≡ vault_total w vault
    balance w = total-without_archive number vault archive live (none_of _ _ (right_vault.live_or_held number) archive live) w

    room_is : room_freed number vault ≡ cond (is_named vault.jobs number) 0 (need archive.size)
    room_is = room_at _ live archive refl

    within_is : room_freed number vault ≤ a.used
    within_is = omega (arith, lawful.used, total-remove blocks a.vaults name vault there, balance blocks, room_is)

    -- archives count for nothing among uploads and jobs
    as_before : (w : Weight) → w.archive archive ≡ 0 → total w a.vaults ≡ total w (changed_at (without_archive number) a.vaults name)
    as_before w free = at (is_named vault.jobs number) (balance w)
      where
        at : (named : Bool) → vault_total w (without_archive number vault) + cond named 0 (w.archive archive) ≡ vault_total w vault → total w a.vaults ≡ total w (changed_at (without_archive number) a.vaults name)
        at true same = omega (arith, total-changed_at w a.vaults name vault there (without_archive number))
        at false same = omega (arith, total-changed_at w a.vaults name vault there (without_archive number))

    used_is : a.used - room_freed number vault ≡ used_in (changed_at (without_archive number) a.vaults name)
    used_is = omega (arith, lawful.used, total-changed_at blocks a.vaults name vault there (without_archive number), balance blocks, room_is, within_is)

    lawful_is : a.last ≤ m → IsLawful (in_vault a m name (without_archive number))
    lawful_is le = lawful-changed_at a a.counter m (omega arith) le lawful name vault there (without_archive number)
        (later_vault a.counter a.counter (omega arith) a.last m le (without_archive number vault) (lawful-without_archive number vault archive live a.counter a.last right_vault))
        (record {
          old = λ blob _. omega (arith, balance (naming blob));
          new = λ blob. omega (arith, balance (naming blob));
        })

  module _ (some : IsSome (live_archive a name number)) where
    pub of_live : (P : Type 0) → ((archive : Archive) → map.get vault.archives number ≡ Some archive → P) → P
    of_live P f = at (map.get vault.archives number) refl (subst (λ r. IsSome (elim r [ None ↦ None | Some v ↦ map.get v.archives number ])) there some)
      where
        at : (r : Option Archive) → map.get vault.archives number ≡ r → IsSome r → P
        at None e s = cc
        at (Some archive) e s = f archive e

    -- how many blocks the deletion gives back
    pub room_within : room_freed number vault ≤ a.used
    room_within = of_live _ within_is

    pub used-without_archive : a.used - room_freed number vault ≡ used_in (changed_at (without_archive number) a.vaults name)
    used-without_archive = of_live _ used_is

    pub uploads-without_archive : a.uploads ≡ uploads_in (changed_at (without_archive number) a.vaults name)
    uploads-without_archive = of_live _ (λ archive live. lawful.uploads ∙ as_before archive live each_upload refl)

    pub jobs-without_archive : a.jobs ≡ jobs_in (changed_at (without_archive number) a.vaults name)
    jobs-without_archive = of_live _ (λ archive live. lawful.jobs ∙ as_before archive live each_job refl)

    pub due-without_archive : a.due ≡ due_in (changed_at (without_archive number) a.vaults name)
    due-without_archive = lawful.due ∙ sym (due_in-same a.vaults name vault there (without_archive number) refl)

    -- its vault's bytes are kept
    pub bytes_there : vault.bytes ≡ bytes_in vault.archives
    bytes_there = right_vault.bytes

    pub lawful-deletion : a.last ≤ m → IsLawful (in_vault a m name (without_archive number))
    lawful-deletion le = of_live _ (λ archive live. lawful_is archive live le)
