-- A moment at which something is due changes more than the last moment.
use Rattle.std.specs.Prelude.{◌≡◌, ◌↔◌, ℕ, ◌⊎◌, Bool, true, false, not, cond, ◌&&◌, ◌||◌, List, [], ◌∷◌, Option, Some, None, nat_le}
use Rattle.std.specs.Cmp.{IsTotalOrder, nat_cmp_total, eq_by_cmp_equiv}
use Rattle.std.specs.Cmp.Lexicographic.{nat_list_cmp_total, slice_cmp}
use Rattle.std.specs.declared.cmp.Ordering.{Ordering}
use Rattle.std.specs.declared.cmp.Ordering.TheVariants.{Less}
use Rattle.std.specs.FinMap as map
use Rattle.std.specs.List.{AllByRecursion, list_any}
use Rattle.std.specs.List.Sorted.{IsStrictlySortedBy}
use Rattle.std.specs.Map.{keys_of, values_of}
use Rattle.std.specs.Option.{option_map}
use Rattle.std.specs.Ordering.{nat_cmp, eq_by_cmp, is_eq}
use Rattle.std.proofs.Common.{◌∙◌, ap, sym, refl, inl, inr}
use Rattle.std.proofs.lemmas.Map.Entries.{option_filter}
use Rattle.std.proofs.lemmas.Map.Keys.{sorted_head, sorted_tail}
use Rattle.glacier_base.specs.Maps.{map_values}
use Rattle.glacier_base.proofs.Changed.{get-where_entries, get-map_values}
use Rattle.glacier_base.proofs.Finite.{bytes_cmp-IsAntisymmetric}
use Rattle.glacier_base.proofs.Sorted.{rising, tied}
use Rattle.glacier_vault.specs.Lawful.{IsLawful}
use Rattle.glacier_vault.specs.Named.{is_named, is_waiting}
use Rattle.glacier_vault.specs.Totals.{Archives}
use Rattle.glacier_vault.specs.declared.archive.Archive.{Archive}
use Rattle.glacier_vault.specs.declared.archive.Finished.{Finished}
use Rattle.glacier_vault.specs.declared.job.Job.{Job}
use Rattle.glacier_vault.specs.declared.job.Stage.{Stage}
use Rattle.glacier_vault.specs.declared.job.Stage.TheVariants.{Waiting, Failed, Done}
use Rattle.glacier_vault.specs.declared.lock.Lock.{Lock}
use Rattle.glacier_vault.specs.declared.state.AccountState.{AccountState}
use Rattle.glacier_vault.specs.declared.state.VaultState.{VaultState}
use Rattle.glacier_job.specs.Pass.{outcome, stage_at, settled, is_past, has_ended, jobs_after, lock_after, passed, pass, job_is_due, lock_is_due, vault_is_due, pass_is_event}
use Rattle.glacier_job.proofs.NotDue.{pass-not_due}
use Rattle.glacier_job.proofs.PassLemmas.{outcome_settles}

-- an entry of a map that passes a test
pub record Passing {K X : Type 0} (R : K → K → Ordering) (test : K → X → Bool) (m : map.FinMap R X) : Type 0 where
  pub key : K
  pub value : X
  pub there : map.get m key ≡ Some value
  pub passes : test key value ≡ true

module _ {K X : Type 0} (R : K → K → Ordering) (o : IsTotalOrder R) (same : map.IsAntisymmetric R) (test : K → X → Bool) where
  absent : (q : K) (es : List (K × X)) → AllByRecursion (λ y. R q y ≡ Less) (keys_of es) → map.find R q es ≡ None
  absent q [] h = refl
  absent q (f ∷ fs) h = ap (λ b. cond b (Some f.1) (map.find R q fs)) (ap is_eq h.0) ∙ absent q fs h.1

  -- the test, entry after entry
  abbrev any : List (K × X) → Bool
  any [] = false
  any (e ∷ es) = test e.0 e.1 || any es

  found : (es : List (K × X)) → IsStrictlySortedBy R (keys_of es) → any es ≡ true → (k : K) × (v : X) × (map.find R k es ≡ Some v) × (test k v ≡ true)
  found [] sorted some = cc
  found (e ∷ es) sorted some = at (test e.0 e.1) refl some (λ later. found es (sorted_tail R e.0 (keys_of es) sorted) later)
    where
      at : (b : Bool) → test e.0 e.1 ≡ b → (b || any es) ≡ true → (any es ≡ true → (k : K) × (v : X) × (map.find R k es ≡ Some v) × (test k v ≡ true))
          → (k : K) × (v : X) × (map.find R k (e ∷ es) ≡ Some v) × (test k v ≡ true)
      at true t s later = (e.0, e.1, ap (λ b. cond b (Some e.1) (map.find R e.0 es)) ((eq_by_cmp_equiv o).refl e.0), t)
      at false t s later = ((later s).0, (later s).1, behind (later s).0 (later s).1 (later s).2, (later s).3)
        where
          behind : (k : K) (v : X) → map.find R k es ≡ Some v → cond (eq_by_cmp R k e.0) (Some e.1) (map.find R k es) ≡ Some v
          behind k v f = by (eq_by_cmp R k e.0) refl
            where
              by : (b : Bool) → eq_by_cmp R k e.0 ≡ b → cond b (Some e.1) (map.find R k es) ≡ Some v
              by true t =
                  let is : k ≡ e.0 = same k e.0 (tied _ t) in
                  let none : map.find R k es ≡ None = ap (λ q. map.find R q es) is ∙ absent e.0 es (sorted_head R e.0 (keys_of es) sorted) in
                  cc
              by false t = f

  pub passing : (m : map.FinMap R X) → any (map.entries m) ≡ true → Passing R test m
  passing m some =
      let h = found (map.entries m) (rising R (map.entries m) (map.entries_sorted m)) some in
      record { key = h.0; value = h.1; there = map.get-entries m h.0 ∙ h.2; passes = h.3 }

-- the test of values, and of keys
pub any_values : {K X : Type 0} (R : K → K → Ordering) (o : IsTotalOrder R) (same : map.IsAntisymmetric R) (test : X → Bool) (es : List (K × X)) → any R o same (λ _ x. test x) es ≡ list_any test (values_of es)
any_values R o same test [] = refl
any_values R o same test (e ∷ es) = ap (λ b. test e.1 || b) (any_values R o same test es)

any_keys : {K X : Type 0} (R : K → K → Ordering) (o : IsTotalOrder R) (same : map.IsAntisymmetric R) (test : K → Bool) (es : List (K × X)) → any {X = X} R o same (λ k _. test k) es ≡ list_any test (keys_of es)
any_keys R o same test [] = refl
any_keys R o same test (e ∷ es) = ap (λ b. test e.0 || b) (any_keys R o same test es)

either : (a b : Bool) → (a || b) ≡ true → (a ≡ true) ⊎ (b ≡ true)
either true b e = inl refl
either false b e = inr e

module _ (m : ℕ) where
  -- a job that is due doesn't wait afterwards
  settles : (archives : Archives) (job : Job) → job_is_due m job ≡ true → is_waiting (stage_at m archives job) ≡ false
  settles archives job due = at job.stage due
    where
      at : (stage : Stage) → cond (is_waiting stage) (nat_le job.ready m) (is_past m job.ready) ≡ true
          → is_waiting (elim stage [ Waiting ↦ cond (nat_le job.ready m) (outcome archives job.work) Waiting | Failed ↦ Failed | Done found ↦ Done found ]) ≡ false
      at Waiting due = ap (λ b. is_waiting (cond b (outcome archives job.work) Waiting)) due ∙ outcome_settles archives job.work
      at Failed due = refl
      at (Done found) due = refl

  -- and isn't left as it was
  job_clash : (archives : Archives) (job : Job) → job_is_due m job ≡ true → ◌≡◌ {A = Option Job} (cond (not (has_ended m (settled m archives job))) (Some (settled m archives job)) None) (Some job) → ⊥
  job_clash archives job due e = at (is_waiting job.stage) refl due
    where
      settled_now : is_waiting (stage_at m archives job) ≡ false
      settled_now = settles archives job due

      stayed : (b : Bool) → ◌≡◌ {A = Option Job} (cond b (Some (settled m archives job)) None) (Some job) → is_waiting (settled m archives job).stage ≡ is_waiting job.stage
      stayed true e = let is : settled m archives job ≡ job = cc in ap (λ (j : Job). is_waiting j.stage) is
      stayed false e = cc

      ended : is_past m job.ready ≡ true → has_ended m (settled m archives job) ≡ true
      ended past = ap (λ b. not b && is_past m job.ready) settled_now ∙ past

      at : (w : Bool) → is_waiting job.stage ≡ w → cond w (nat_le job.ready m) (is_past m job.ready) ≡ true → ⊥
      at true w due = let no : false ≡ true = sym settled_now ∙ stayed (not (has_ended m (settled m archives job))) e ∙ w in cc
      at false w due = let gone : ◌≡◌ {A = Option Job} None (Some job) = sym (ap (λ b. cond (not b) (Some (settled m archives job)) None) (ended due)) ∙ e in cc

  module _ (vault : VaultState) (same : passed m vault ≡ vault) where
    jobs_same : jobs_after m vault ≡ vault.jobs
    jobs_same = ap (λ (v : VaultState). v.jobs) same

    no_job : list_any (job_is_due m) (map.values vault.jobs) ≡ true → ⊥
    no_job some =
        let h = passing nat_cmp nat_cmp_total map.nat_cmp-IsAntisymmetric (λ _ job. job_is_due m job) vault.jobs (any_values nat_cmp nat_cmp_total map.nat_cmp-IsAntisymmetric (job_is_due m) (map.entries vault.jobs) ∙ some) in
        let after : map.get (jobs_after m vault) h.key ≡ option_filter (λ job. not (has_ended m job)) (option_map (settled m vault.archives) (map.get vault.jobs h.key)) =
        get-where_entries nat_cmp_total map.nat_cmp-IsAntisymmetric (λ _ job. not (has_ended m job)) (map_values (settled m vault.archives) vault.jobs) h.key
        ∙ ap (option_filter (λ job. not (has_ended m job))) (get-map_values nat_cmp_total (settled m vault.archives) vault.jobs h.key) in
        job_clash vault.archives h.value h.passes
        (ap (λ r. option_filter (λ job. not (has_ended m job)) (option_map (settled m vault.archives) r)) (sym h.there) ∙ sym after ∙ ap (λ jobs. map.get jobs h.key) jobs_same ∙ h.there)

    no_finished : list_any (λ (upload : Finished). is_past m upload.at) (map.values vault.finished) ≡ true → ⊥
    no_finished some =
        let h = passing nat_cmp nat_cmp_total map.nat_cmp-IsAntisymmetric (λ _ (upload : Finished). is_past m upload.at) vault.finished (any_values nat_cmp nat_cmp_total map.nat_cmp-IsAntisymmetric (λ (upload : Finished). is_past m upload.at) (map.entries vault.finished) ∙ some) in
        let after = get-where_entries nat_cmp_total map.nat_cmp-IsAntisymmetric (λ _ (upload : Finished). not (is_past m upload.at)) vault.finished h.key in
        let gone : ◌≡◌ {A = Option Finished} None (Some h.value) =
        sym (after ∙ ap (option_filter (λ (upload : Finished). not (is_past m upload.at))) h.there ∙ ap (λ b. cond (not b) (Some h.value) None) h.passes)
        ∙ ap (λ (v : VaultState). map.get v.finished h.key) same ∙ h.there in
        cc

    no_lock : lock_is_due m vault.lock ≡ true → ⊥
    no_lock due = at vault.lock due (ap (λ (v : VaultState). v.lock) same)
      where
        at : (lock : Option Lock) → lock_is_due m lock ≡ true → lock_after m lock ≡ lock → ⊥
        at None due e = cc
        at (Some lock) due e = let gone : ◌≡◌ {A = Option Lock} None (Some lock) = sym (ap (λ b. cond b None (Some lock)) due) ∙ e in cc

    no_held : list_any (λ number. not (is_named vault.jobs number)) (map.keys vault.held) ≡ true → ⊥
    no_held some =
        let h = passing nat_cmp nat_cmp_total map.nat_cmp-IsAntisymmetric (λ number (_ : Archive). not (is_named vault.jobs number)) vault.held
        (any_keys {X = Archive} nat_cmp nat_cmp_total map.nat_cmp-IsAntisymmetric (λ number. not (is_named vault.jobs number)) (map.entries vault.held) ∙ some) in
        let unnamed : is_named (jobs_after m vault) h.key ≡ false = ap (λ jobs. is_named jobs h.key) jobs_same ∙ not_true (is_named vault.jobs h.key) h.passes in
        let after = get-where_entries nat_cmp_total map.nat_cmp-IsAntisymmetric (λ number (_ : Archive). is_named (jobs_after m vault) number) vault.held h.key in
        let gone : ◌≡◌ {A = Option Archive} None (Some h.value) =
        sym (after ∙ ap (option_filter (λ (_ : Archive). is_named (jobs_after m vault) h.key)) h.there ∙ ap (λ b. cond b (Some h.value) None) unnamed)
        ∙ ap (λ (v : VaultState). map.get v.held h.key) same ∙ h.there in
        cc
      where
        not_true : (b : Bool) → not b ≡ true → b ≡ false
        not_true true e = cc
        not_true false e = refl

    none_due : vault_is_due m vault ≡ true → ⊥
    none_due due = elim (either (list_any (job_is_due m) (map.values vault.jobs) || list_any (λ (upload : Finished). is_past m upload.at) (map.values vault.finished) || lock_is_due m vault.lock) (list_any (λ number. not (is_named vault.jobs number)) (map.keys vault.held)) due) [
      | inl three ↦ elim (either (list_any (job_is_due m) (map.values vault.jobs) || list_any (λ (upload : Finished). is_past m upload.at) (map.values vault.finished)) (lock_is_due m vault.lock) three) [
        | inl two ↦ elim (either (list_any (job_is_due m) (map.values vault.jobs)) (list_any (λ (upload : Finished). is_past m upload.at) (map.values vault.finished)) two) [
          | inl jobs ↦ no_job jobs
          | inr finished ↦ no_finished finished
        ]
        | inr lock ↦ no_lock lock
      ]
      | inr held ↦ no_held held
    ]

  module _ (a : AccountState) where
    unchanged_not_due : map_values (passed m) a.vaults ≡ a.vaults → pass_is_event m a ≡ true → ⊥
    unchanged_not_due same due =
        let h = passing (slice_cmp nat_cmp) nat_list_cmp_total bytes_cmp-IsAntisymmetric (λ _ vault. vault_is_due m vault) a.vaults (any_values (slice_cmp nat_cmp) nat_list_cmp_total bytes_cmp-IsAntisymmetric (vault_is_due m) (map.entries a.vaults) ∙ due) in
        let kept : Some (passed m h.value) ≡ Some h.value =
        ap (option_map (passed m)) (sym h.there) ∙ sym (get-map_values nat_list_cmp_total (passed m) a.vaults h.key) ∙ ap (λ vaults. map.get vaults h.key) same ∙ h.there in
        let is : passed m h.value ≡ h.value = cc in
        none_due h.value is h.passes

    pub is_event : IsLawful a → (pass_is_event m a ≡ false) ↔ (pass m a ≡ record a { last = m })
    is_event lawful = ((λ none. pass-not_due m a none lawful), λ same. at (pass_is_event m a) refl (ap (λ (b : AccountState). b.vaults) same))
      where
        at : (b : Bool) → pass_is_event m a ≡ b → map_values (passed m) a.vaults ≡ a.vaults → b ≡ false
        at true e same = absurd (unchanged_not_due same e)
        at false e same = refl
