-- What is known of each body of an account is known of each after an event, if it is known of the one that the event makes.
use Rattle.std.specs.Prelude.{◌≡◌, ℕ, Bool, true, false, cond, not, ◌&&◌, List, [], ◌∷◌, Option, Some, None, IfSome, is_none, nat_le, nat_lt}
use Rattle.std.specs.Cmp.{nat_cmp_total}
use Rattle.std.specs.Cmp.Lexicographic.{nat_list_cmp_total}
use Rattle.std.specs.FinMap as map
use Rattle.std.specs.Ordering.{nat_cmp}
use Rattle.std.proofs.Common.{refl, subst, sym}
use Rattle.glacier_base.specs.Maps.{changed_at}
use Rattle.glacier_base.proofs.Finite.{bytes_cmp-IsAntisymmetric}
use Rattle.glacier_base.proofs.LookUps.{if_some-empty, if_some-insert, if_some-remove, if_some-changed_at, if_some-where_entries, if_some-map_values}
use Rattle.glacier_vault.specs.Account.{new_vault}
use Rattle.glacier_vault.specs.Deletions.{deletion_refusal, without_archive}
use Rattle.glacier_vault.specs.Named.{is_named}
use Rattle.glacier_vault.specs.PartSizes.{is_part_size, last_index}
use Rattle.glacier_vault.specs.Totals.{Archives}
use Rattle.glacier_vault.specs.declared.archive.Archive.{Archive}
use Rattle.glacier_vault.specs.declared.archive.Part.{Part}
use Rattle.glacier_vault.specs.declared.archive.Upload.{Upload}
use Rattle.glacier_vault.specs.declared.event.Event.{Event}
use Rattle.glacier_vault.specs.declared.event.Event.TheVariants as events
use Rattle.glacier_vault.specs.declared.job.Job.{Job}
use Rattle.glacier_vault.specs.declared.lock.Lock.{Lock}
use Rattle.glacier_vault.specs.declared.state.AccountState.{AccountState}
use Rattle.glacier_vault.specs.declared.state.VaultState.{VaultState}
use Rattle.glacier_upload.specs.Completion.{covered, has_gap, whole_archive, with_completed}
use Rattle.glacier_upload.specs.Parts.{in_upload, with_part}
use Rattle.glacier_upload.specs.Single.{with_archive}
use Rattle.glacier_upload.specs.Uploads.{new_upload, open_upload, with_upload, without_upload}
use Rattle.glacier_job.specs.Beginning.{with_job}
use Rattle.glacier_job.specs.Pass.{jobs_after, passed}
use Rattle.glacier_lock.specs.Locks.{initiate_refusal, with_lock}
use Rattle.glacier_replay.specs.Changes.{body_in}
use Rattle.glacier_replay.specs.Replayed.{after_event, can_draw, is_body, policy_or_none, progress_of, recorded_archive, recorded_part}
use Rattle.glacier_replay.specs.Standing.{InVault, InAccount}
use Rattle.glacier_replay.proofs.CounterLemmas.{of_fit, of_done, of_there}
use Rattle.glacier_replay.proofs.Options.{first_of, of_some}

module _ (P : ℕ → List (List ℕ) → List ℕ → Type 0) where
  abbrev OfArchive : Archive → Type 0
  OfArchive archive = P archive.size archive.leaves archive.blobs

  abbrev OfPart : Part → Type 0
  OfPart part = P part.size part.leaves (part.blob ∷ [])

  abbrev OfUpload : Upload → Type 0
  OfUpload upload = (index : ℕ) → IfSome (map.get upload.parts index) OfPart

  of_new_vault : (m : ℕ) → InVault P (new_vault m)
  of_new_vault m = record { archives = if_some-empty nat_cmp OfArchive; held = if_some-empty nat_cmp OfArchive; parts = if_some-empty nat_cmp OfUpload }

  module _ (vault : VaultState) (told : InVault P vault) where
    of_passed : (m : ℕ) → InVault P (passed m vault)
    of_passed m = record {
      archives = told.archives;
      held = λ n. if_some-where_entries nat_cmp_total map.nat_cmp-IsAntisymmetric vault.held n OfArchive (λ number _. is_named (jobs_after m vault) number) (told.held n);
      parts = told.parts;
    }

    of_archive : (number : ℕ) (archive : Archive) → OfArchive archive → InVault P (with_archive number archive vault)
    of_archive number archive new = record {
      archives = λ n. if_some-insert nat_cmp_total map.nat_cmp-IsAntisymmetric (λ _. OfArchive) vault.archives number n archive new (told.archives n);
      held = told.held;
      parts = told.parts;
    }

    of_without_archive : (number : ℕ) → InVault P (without_archive number vault)
    of_without_archive number = record {
      archives = λ n. if_some-remove nat_cmp_total map.nat_cmp-IsAntisymmetric (λ _. OfArchive) vault.archives number n (told.archives n);
      held = λ n. at n (is_named vault.jobs number) (map.get vault.archives number) refl;
      parts = told.parts;
    }
      where
        at : (n : ℕ) (b : Bool) (r : Option Archive) → map.get vault.archives number ≡ r
            → IfSome (map.get (cond b (elim r as (λ _. Archives) [ None ↦ vault.held | Some archive ↦ map.insert vault.held number archive ]) vault.held) n) OfArchive
        at n true None e = told.held n
        at n true (Some archive) e = if_some-insert nat_cmp_total map.nat_cmp-IsAntisymmetric (λ _. OfArchive) vault.held number n archive (of_some _ (map.get vault.archives number) archive e (told.archives number)) (told.held n)
        at n false r e = told.held n

    of_upload : (number m part_size : ℕ) (description : List ℕ) → InVault P (with_upload number (new_upload m part_size description) vault)
    of_upload number m part_size description = record {
      archives = told.archives;
      held = told.held;
      parts = λ n. if_some-insert nat_cmp_total map.nat_cmp-IsAntisymmetric (λ _. OfUpload) vault.uploads number n (new_upload m part_size description) (if_some-empty nat_cmp OfPart) (told.parts n);
    }

    of_part : (number index : ℕ) (part : Part) → OfPart part → InVault P (in_upload number (with_part index part) vault)
    of_part number index part new = record {
      archives = told.archives;
      held = told.held;
      parts = λ n. if_some-changed_at nat_cmp_total map.nat_cmp-IsAntisymmetric (λ _. OfUpload) vault.uploads number n (with_part index part)
          (λ upload is_open place. if_some-insert nat_cmp_total map.nat_cmp-IsAntisymmetric (λ _. OfPart) upload.parts index place part new (of_some _ (map.get vault.uploads number) upload is_open (told.parts number) place)) (told.parts n);
    }

    of_completed : (number counter : ℕ) (archive : Archive) → OfArchive archive → InVault P (with_completed number counter archive vault)
    of_completed number counter archive new = record {
      archives = λ n. if_some-insert nat_cmp_total map.nat_cmp-IsAntisymmetric (λ _. OfArchive) vault.archives counter n archive new (told.archives n);
      held = told.held;
      parts = λ n. if_some-remove nat_cmp_total map.nat_cmp-IsAntisymmetric (λ _. OfUpload) vault.uploads number n (told.parts n);
    }

    of_without_upload : (number : ℕ) → InVault P (without_upload number vault)
    of_without_upload number = record {
      archives = told.archives;
      held = told.held;
      parts = λ n. if_some-remove nat_cmp_total map.nat_cmp-IsAntisymmetric (λ _. OfUpload) vault.uploads number n (told.parts n);
    }

    -- jobs and locks are no bodies
    of_job : (number : ℕ) (job : Job) → InVault P (with_job number job vault)
    of_job number job = record { archives = told.archives; held = told.held; parts = told.parts }

    of_lock : (lock : Option Lock) → InVault P (with_lock lock vault)
    of_lock lock = record { archives = told.archives; held = told.held; parts = told.parts }

  module _ (a : AccountState) (m : ℕ) (told : InAccount P a) where
    -- in the vault of a name
    in_one : (name : List ℕ) (f : VaultState → VaultState) → ((vault : VaultState) → map.get a.vaults name ≡ Some vault → InVault P vault → InVault P (f vault))
        → (n : List ℕ) → IfSome (map.get (changed_at f a.vaults name) n) (InVault P)
    in_one name f goes n = if_some-changed_at nat_list_cmp_total bytes_cmp-IsAntisymmetric (λ _. InVault P) a.vaults name n f
        (λ vault there. goes vault there (of_some _ (map.get a.vaults name) vault there (told name))) (told n)

    -- the body that an event makes, and the archive that it makes of the parts of an upload
    pub record IsNew (event : Event) : Type 0 where
      pub body : IfSome (body_in event) (λ its. P its.0 its.1 (a.counter ∷ []))
      pub whole : (name : List ℕ) (upload : ℕ) (there : Upload) → event ≡ events.Complete name upload → open_upload a name upload ≡ Some there → has_gap there ≡ false → nat_le 1 (covered there) ≡ true → OfArchive (whole_archive m there)

    module _ (p : AccountState × List ℕ) where
      abbrev After : AccountState × List ℕ → Type 0
      After q = InAccount P q.0

      pub told_after : (event : Event) → IsNew event → after_event a m event ≡ Some p → InAccount P p.0
      told_after events.Pass new e = of_done After p _ e (λ n. if_some-map_values nat_list_cmp_total bytes_cmp-IsAntisymmetric a.vaults n (passed m) (InVault P) (InVault P) (λ vault known. of_passed vault known m) (told n))
      told_after (events.CreateVault name) new e = of_fit After p (not (map.contains_key a.vaults name)) _ e (λ _ n. if_some-insert nat_list_cmp_total bytes_cmp-IsAntisymmetric (λ _. InVault P) a.vaults name n (new_vault m) (of_new_vault m) (told n))
      told_after (events.DeleteVault name) new e = of_there After p (map.get a.vaults name) _ e (λ vault there next.
          of_fit After p (is_none (deletion_refusal vault)) _ next (λ _ n. if_some-remove nat_list_cmp_total bytes_cmp-IsAntisymmetric (λ _. InVault P) a.vaults name n (told n)))
      told_after (events.Upload name size description leaves) new e = of_fit After p (map.contains_key a.vaults name && is_body size leaves && can_draw a) _ e (λ _.
          in_one name _ (λ vault there known. of_archive vault known a.counter (recorded_archive a.counter m size description leaves) new.body))
      told_after (events.DeleteArchive name archive) new e = of_there After p (map.get a.vaults name) _ e (λ vault there next.
          of_fit After p (map.contains_key vault.archives archive) _ next (λ _. in_one name _ (λ vault there known. of_without_archive vault known archive)))
      told_after (events.BeginUpload name part_size description) new e = of_fit After p (map.contains_key a.vaults name && is_part_size part_size && can_draw a) _ e (λ _.
          in_one name _ (λ vault there known. of_upload vault known a.counter m part_size description))
      told_after (events.Part name upload index size leaves) new e = of_there After p (map.get a.vaults name) _ e (λ vault there next. of_there After p (map.get vault.uploads upload) _ next (λ found is_open last.
          of_fit After p (nat_le index last_index && nat_le size found.part_size && is_body size leaves && can_draw a) _ last (λ _.
          in_one name _ (λ vault there known. of_part vault known upload index (recorded_part a.counter size leaves) new.body))))
      told_after (events.Complete name upload) new e = of_there After p (map.get a.vaults name) _ e (λ vault there next. of_there After p (map.get vault.uploads upload) _ next (λ found is_open last.
          of_fit After p (nat_le 1 (covered found) && not (has_gap found) && can_draw a) _ last (λ fits.
          in_one name _ (λ own its known. of_completed own known upload a.counter (whole_archive m found)
          (new.whole name upload found refl (opened name upload vault found there is_open) (no_gap (nat_le 1 (covered found)) (has_gap found) (can_draw a) fits) (first_of (nat_le 1 (covered found)) (not (has_gap found)) (can_draw a) fits))))))
        where
          opened : (name : List ℕ) (upload : ℕ) (vault : VaultState) (found : Upload) → map.get a.vaults name ≡ Some vault → map.get vault.uploads upload ≡ Some found → open_upload a name upload ≡ Some found
          opened name upload vault found there is_open = subst (λ r. elim r as (λ _. Option Upload) [ None ↦ None | Some v ↦ map.get v.uploads upload ] ≡ Some found) (sym there) is_open

          no_gap : (x y z : Bool) → (x && not y && z) ≡ true → y ≡ false
          no_gap x false z t = refl
          no_gap true true z t = cc
          no_gap false true z t = cc
      told_after (events.Abort name upload) new e = of_there After p (map.get a.vaults name) _ e (λ vault there next. of_there After p (map.get vault.uploads upload) _ next (λ found is_open last.
          of_done After p _ last (in_one name _ (λ vault there known. of_without_upload vault known upload))))
      told_after (events.BeginRetrieval name archive first end tier ready description) new e = of_there After p (map.get a.vaults name) _ e (λ vault there next. of_there After p (map.get vault.archives archive) _ next (λ found is_there last.
          of_fit After p (nat_lt first end && nat_le end found.size && can_draw a) _ last (λ _. in_one name _ (λ vault there known. of_job vault known a.counter _))))
      told_after (events.BeginInventory name csv tier ready description) new e = of_fit After p (map.contains_key a.vaults name && can_draw a) _ e (λ _. in_one name _ (λ vault there known. of_job vault known a.counter _))
      told_after (events.InitiateLock name policy) new e = of_there After p (policy_or_none policy) _ e (λ read is_read last.
          of_fit After p (is_none (initiate_refusal a name)) _ last (λ _. in_one name _ (λ vault there known. of_lock vault known _)))
      told_after (events.CompleteLock name) new e = of_there After p (progress_of a name) _ e (λ lock progress last. of_done After p _ last (in_one name _ (λ vault there known. of_lock vault known _)))
      told_after (events.AbortLock name) new e = of_there After p (progress_of a name) _ e (λ lock progress last. of_done After p _ last (in_one name _ (λ vault there known. of_lock vault known None)))
