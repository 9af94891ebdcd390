-- A held archive stays held as long as a finished job of its vault names it.
use Rattle.std.specs.Prelude.{◌≡◌, ℕ, Bool, true, false, cond, not, ◌&&◌, List, Option, Some, None, IsSome, is_none, nat_le, nat_lt}
use Rattle.std.specs.Cmp.{nat_cmp_total}
use Rattle.std.specs.Cmp.Lexicographic.{nat_list_cmp_total, slice_cmp}
use Rattle.std.specs.FinMap as map
use Rattle.std.specs.Option.{option_map}
use Rattle.std.specs.Ordering.{nat_cmp, eq_by_cmp}
use Rattle.std.proofs.Common.{◌∙◌, ap, sym, refl, subst, arith}
use Rattle.std.proofs.lemmas.Map.Entries.{option_filter}
use Rattle.glacier_base.specs.Maps.{changed_at, map_values}
use Rattle.glacier_base.proofs.Changed.{get-map_values, get-where_entries}
use Rattle.glacier_base.proofs.Sorted.{tied}
use Rattle.glacier_vault.specs.Account.{new_vault}
use Rattle.glacier_vault.specs.Deletions.{deletion_refusal, without_archive}
use Rattle.glacier_vault.specs.Lawful.{IsLawful}
use Rattle.glacier_vault.specs.Named.{is_named}
use Rattle.glacier_vault.specs.PartSizes.{is_part_size, last_index}
use Rattle.glacier_vault.specs.Totals.{Archives}
use Rattle.glacier_vault.specs.declared.archive.Archive.{Archive}
use Rattle.glacier_vault.specs.declared.event.Event.{Event}
use Rattle.glacier_vault.specs.declared.event.Event.TheVariants as events
use Rattle.glacier_vault.specs.declared.state.AccountState.{AccountState}
use Rattle.glacier_vault.specs.declared.state.VaultState.{VaultState}
use Rattle.glacier_vault.proofs.KeepsLawful.{lawful_there}
use Rattle.glacier_upload.specs.Completion.{covered, has_gap}
use Rattle.glacier_upload.specs.Uploads.{without_upload}
use Rattle.glacier_job.specs.Pass.{jobs_after, pass, passed}
use Rattle.glacier_lock.specs.Locks.{initiate_refusal}
use Rattle.glacier_replay.specs.Held.{held_archive, job_names}
use Rattle.glacier_replay.specs.Replayed.{after_event, can_draw, is_body, policy_or_none, progress_of}
use Rattle.glacier_replay.proofs.CounterLemmas.{of_fit, of_done, of_there}
use Rattle.glacier_replay.proofs.Seen.{in_vault_keeps, inserted, not_true, seen_in, stays}

module _ (a : AccountState) (m : ℕ) (lawful : IsLawful a) (name : List ℕ) (number : ℕ) (archive : Archive) (is_held : held_archive a name number ≡ Some archive) where
  abbrev view : VaultState → Option Archive
  view vault = map.get vault.held number

  abbrev named_in : Option VaultState → Bool
  named_in r = elim r [ None ↦ false | Some vault ↦ is_named vault.jobs number ]

  -- it is held after an event, if a finished job names it then
  abbrev Stays : AccountState × List ℕ → Type 0
  Stays q = job_names q.0 name number ≡ true → held_archive q.0 name number ≡ Some archive

  -- a moment keeps what a finished job names
  passes : job_names (pass m a) name number ≡ true → held_archive (pass m a) name number ≡ Some archive
  passes named = ap (seen_in view) looked ∙ at (map.get a.vaults name) is_held (sym (ap named_in looked) ∙ named)
    where
      looked : map.get (map_values (passed m) a.vaults) name ≡ option_map (passed m) (map.get a.vaults name)
      looked = get-map_values nat_list_cmp_total (passed m) a.vaults name

      at : (r : Option VaultState) → seen_in view r ≡ Some archive → named_in (option_map (passed m) r) ≡ true → seen_in view (option_map (passed m) r) ≡ Some archive
      at None e n = cc
      at (Some vault) e n =
          get-where_entries nat_cmp_total map.nat_cmp-IsAntisymmetric (λ k (_ : Archive). is_named (jobs_after m vault) k) vault.held number
          ∙ ap (option_filter (λ (_ : Archive). is_named (jobs_after m vault) number)) e
          ∙ ap (λ b. cond b (Some archive) None) n

  -- a vault that is deleted has no job any more
  removed : (other : List ℕ) → named_in (map.get (map.remove a.vaults other) name) ≡ true → seen_in view (map.get (map.remove a.vaults other) name) ≡ Some archive
  removed other named = ap (seen_in view) looked ∙ at (eq_by_cmp (slice_cmp nat_cmp) name other) (sym (ap named_in looked) ∙ named)
    where
      looked : map.get (map.remove a.vaults other) name ≡ cond (eq_by_cmp (slice_cmp nat_cmp) name other) None (map.get a.vaults name)
      looked = map.get-remove nat_list_cmp_total a.vaults other name

      at : (b : Bool) → named_in (cond b None (map.get a.vaults name)) ≡ true → seen_in view (cond b None (map.get a.vaults name)) ≡ Some archive
      at true n = cc
      at false n = is_held

  -- an archive that becomes held was live, so it is another
  beside : (other : List ℕ) (gone : ℕ) → seen_in view (map.get (changed_at (without_archive gone) a.vaults other) name) ≡ Some archive
  beside other gone = in_vault_keeps a.vaults name view archive is_held other (without_archive gone) (λ vault same found l.
      at vault found l (is_named vault.jobs gone) (map.get vault.archives gone) refl)
    where
      apart : (vault : VaultState) → map.get a.vaults other ≡ Some vault → view vault ≡ Some archive → (live : Archive) → map.get vault.archives gone ≡ Some live
          → (b : Bool) → eq_by_cmp nat_cmp number gone ≡ b → cond b (Some live) (map.get vault.held number) ≡ Some archive
      apart vault found l live is_live true t =
          let this : number ≡ gone = map.nat_cmp-IsAntisymmetric number gone (tied _ t) in
          let none : map.get vault.archives number ≡ None = (lawful_there a a.counter a.last (omega arith) (omega arith) lawful other vault found).live_or_held number (subst IsSome (sym l) refl) in
          let no : None ≡ Some live = sym none ∙ ap (λ n. map.get vault.archives n) this ∙ is_live in
          cc
      apart vault found l live is_live false t = l

      at : (vault : VaultState) → map.get a.vaults other ≡ Some vault → view vault ≡ Some archive → (b : Bool) (r : Option Archive) → map.get vault.archives gone ≡ r
          → map.get (cond b (elim r as (λ _. Archives) [ None ↦ vault.held | Some live ↦ map.insert vault.held gone live ]) vault.held) number ≡ Some archive
      at vault found l false r e = l
      at vault found l true None e = l
      at vault found l true (Some live) e = map.get-insert nat_cmp_total vault.held gone live number ∙ apart vault found l live e (eq_by_cmp nat_cmp number gone) refl

  abbrev kept : (other : List ℕ) (f : VaultState → VaultState) → ((vault : VaultState) → view (f vault) ≡ view vault) → seen_in view (map.get (changed_at f a.vaults other) name) ≡ Some archive
  kept other f same = stays a.vaults name view archive is_held other f same

  module _ (p : AccountState × List ℕ) where
    pub held_stays : (event : Event) → after_event a m event ≡ Some p → Stays p
    held_stays events.Pass e = of_done Stays p _ e passes
    held_stays (events.CreateVault other) e = of_fit Stays p (not (map.contains_key a.vaults other)) _ e (λ free _. inserted a.vaults name view archive is_held other (new_vault m) (not_true (map.contains_key a.vaults other) free))
    held_stays (events.DeleteVault other) e = of_there Stays p (map.get a.vaults other) _ e (λ vault found next. of_fit Stays p (is_none (deletion_refusal vault)) _ next (λ _ named. removed other named))
    held_stays (events.Upload other size description leaves) e = of_fit Stays p (map.contains_key a.vaults other && is_body size leaves && can_draw a) _ e (λ _ _. kept other _ (λ _. refl))
    held_stays (events.DeleteArchive other gone) e = of_there Stays p (map.get a.vaults other) _ e (λ vault found next. of_fit Stays p (map.contains_key vault.archives gone) _ next (λ _ _. beside other gone))
    held_stays (events.BeginUpload other part_size description) e = of_fit Stays p (map.contains_key a.vaults other && is_part_size part_size && can_draw a) _ e (λ _ _. kept other _ (λ _. refl))
    held_stays (events.Part other upload index size leaves) e = of_there Stays p (map.get a.vaults other) _ e (λ vault found next. of_there Stays p (map.get vault.uploads upload) _ next (λ there is_open last.
        of_fit Stays p (nat_le index last_index && nat_le size there.part_size && is_body size leaves && can_draw a) _ last (λ _ _. kept other _ (λ _. refl))))
    held_stays (events.Complete other upload) e = of_there Stays p (map.get a.vaults other) _ e (λ vault found next. of_there Stays p (map.get vault.uploads upload) _ next (λ there is_open last.
        of_fit Stays p (nat_le 1 (covered there) && not (has_gap there) && can_draw a) _ last (λ _ _. kept other _ (λ _. refl))))
    held_stays (events.Abort other upload) e = of_there Stays p (map.get a.vaults other) _ e (λ vault found next. of_there Stays p (map.get vault.uploads upload) _ next (λ there is_open last.
        of_done Stays p _ last (λ _. kept other (without_upload upload) (λ _. refl))))
    held_stays (events.BeginRetrieval other asked first end tier ready description) e = of_there Stays p (map.get a.vaults other) _ e (λ vault found next. of_there Stays p (map.get vault.archives asked) _ next (λ there is_there last.
        of_fit Stays p (nat_lt first end && nat_le end there.size && can_draw a) _ last (λ _ _. kept other _ (λ _. refl))))
    held_stays (events.BeginInventory other csv tier ready description) e = of_fit Stays p (map.contains_key a.vaults other && can_draw a) _ e (λ _ _. kept other _ (λ _. refl))
    held_stays (events.InitiateLock other policy) e = of_there Stays p (policy_or_none policy) _ e (λ read is_read last.
        of_fit Stays p (is_none (initiate_refusal a other)) _ last (λ _ _. kept other _ (λ _. refl)))
    held_stays (events.CompleteLock other) e = of_there Stays p (progress_of a other) _ e (λ l progress last. of_done Stays p _ last (λ _. kept other _ (λ _. refl)))
    held_stays (events.AbortLock other) e = of_there Stays p (progress_of a other) _ e (λ l progress last. of_done Stays p _ last (λ _. kept other _ (λ _. refl)))
