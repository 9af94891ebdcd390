-- What an action and a moment make of an account is what their events make of it.
use Rattle.std.specs.FinMap as map
use Rattle.std.proofs.Common.{◌≡◌, ℕ, ◌≤◌, Bool, true, false, cond, List, [], Option, Some, None, Ok, Err, refl, sym, ◌∙◌, ap, subst, nat_le, not, arith}
use Rattle.std.specs.Prelude.{is_none}
use Rattle.std.proofs.lemmas.Bool.{le-leb}
use Rattle.glacier_job.specs.Pass.{freed, pass, pass_change, pass_is_event}
use Rattle.glacier_machine.specs.AccountSteps.{step_of}
use Rattle.glacier_machine.specs.Actions.{HasOrder, stores_body}
use Rattle.glacier_machine.specs.Moments.{after_moment, moment_change}
use Rattle.glacier_machine.specs.declared.action.Action.{Action}
use Rattle.glacier_machine.specs.declared.action.Answer.{Answer}
use Rattle.glacier_machine.specs.declared.action.Action.TheVariants.{CreateVault, DescribeVault, DeleteVault, Upload, DeleteArchive, BeginJob, DescribeJob, JobOutput}
use Rattle.glacier_job.specs.Beginning.{begin_row}
use Rattle.glacier_job.specs.Finding.{found_job}
use Rattle.glacier_lock.specs.Denied.{delete_archive_row}
use Rattle.glacier_vault.specs.Deletions.{delete_row, deletion_refusal}
use Rattle.glacier_vault.specs.Lawful.{IsLawful}
use Rattle.glacier_replies.specs.Replies.{described}
use Rattle.glacier_vault.specs.Account.{new_vault}
use Rattle.glacier_vault.specs.Accounts.{Accounts, account_in}
use Rattle.glacier_vault.specs.Named.{blobs_of}
use Rattle.glacier_vault.specs.Rows.{Row, changed, changed_freeing, create_row, found, no_change, with_vaults}
use Rattle.glacier_vault.specs.declared.event.Change.{Change}
use Rattle.glacier_vault.specs.declared.event.Event.TheVariants as events
use Rattle.glacier_vault.specs.declared.refusal.Refusal.{Refusal}
use Rattle.glacier_vault.specs.declared.refusal.Refusal.TheVariants.{VaultLimit}
use Rattle.glacier_vault.specs.declared.rules.Rules.{Rules}
use Rattle.glacier_vault.specs.declared.state.AccountState.{AccountState}
use Rattle.glacier_vault.specs.declared.state.VaultState.{VaultState}
use Rattle.glacier_vault.specs.declared.vault.TheConstants.{MOST_VAULTS}
use Rattle.glacier_replay.specs.Replayed.{Replay, after_event, replayed, where_fits, with_found}
use Rattle.glacier_replay.proofs.BlobMaps.{is_account}
use Rattle.glacier_replay.proofs.SettledLemmas.{account_after}
use Rattle.glacier_store.specs.Steps.{HasPassed, IsChangeOf, IsMadeBy, accounts_after, action_events, change_events, time_events}
use Rattle.glacier_store.proofs.ActionLemmas.{archive_deletion_made, beginning_made}
use Rattle.glacier_store.proofs.ChangeLemmas.{after_change}
use Rattle.glacier_store.proofs.RowLemmas.{RowMakes, look_made, look_stores_none, made, output_changes_nothing, row_made_with, row_stores_none}

abbrev with_new : AccountState → ℕ → List ℕ → AccountState
with_new before m name = with_vaults before m (map.insert before.vaults name (new_vault m))

creation_made : (before : AccountState) (m : ℕ) (name : List ℕ) → before.last ≤ m → RowMakes before m (create_row before m name)
creation_made before m name time = at (map.contains_key before.vaults name) refl
  where
    in_limit : (full : Bool) → map.contains_key before.vaults name ≡ false → RowMakes before m (cond full (Err VaultLimit) (Ok (with_new before m name, changed (events.CreateVault name))))
    in_limit true new = tt
    in_limit false new = made before m (events.CreateVault name) (with_new before m name) [] time refl (ap (λ (b : Bool). where_fits (not b) (with_new before m name, [])) new)

    at : (b : Bool) → map.contains_key before.vaults name ≡ b
        → RowMakes before m (cond b (Ok (before, no_change)) (cond (nat_le MOST_VAULTS (map.len before.vaults)) (Err VaultLimit) (Ok (with_new before m name, changed (events.CreateVault name)))))
    at true there = refl
    at false new = in_limit (nat_le MOST_VAULTS (map.len before.vaults)) new

-- the deletion of a vault that is found, by why it isn't deleted, and by what is found
abbrev of_refusal : AccountState → ℕ → List ℕ → VaultState → Option Refusal → Row Change
of_refusal before m name vault r = elim r [
  | Some refusal ↦ Err refusal
  | None ↦ Ok (with_vaults before m (map.remove before.vaults name), changed_freeing (events.DeleteVault name) (blobs_of (map.values vault.held)))
]

abbrev of_vault : AccountState → ℕ → List ℕ → Option VaultState → Row Change
of_vault before m name r = elim r [ None ↦ Ok (before, no_change) | Some vault ↦ of_refusal before m name vault (deletion_refusal vault) ]

abbrev where_may_go : AccountState → ℕ → List ℕ → VaultState → Bool → Replay
where_may_go before m name vault may = where_fits may (with_vaults before m (map.remove before.vaults name), blobs_of (map.values vault.held))

deletion_made : (before : AccountState) (m : ℕ) (name : List ℕ) → before.last ≤ m → RowMakes before m (delete_row before m name)
deletion_made before m name time = at (map.get before.vaults name) refl
  where
    in_refusal : (vault : VaultState) → map.get before.vaults name ≡ Some vault → (r : Option Refusal) → deletion_refusal vault ≡ r → RowMakes before m (of_refusal before m name vault r)
    in_refusal vault there (Some refusal) e = tt
    in_refusal vault there None e =
        made before m (events.DeleteVault name) (with_vaults before m (map.remove before.vaults name)) (blobs_of (map.values vault.held)) time refl
        (ap (λ (r : Option VaultState). with_found r (λ (v : VaultState). where_may_go before m name v (is_none (deletion_refusal v)))) there
        ∙ ap (λ (r : Option Refusal). where_may_go before m name vault (is_none r)) e)

    at : (r : Option VaultState) → map.get before.vaults name ≡ r → RowMakes before m (of_vault before m name r)
    at None e = refl
    at (Some vault) e = in_refusal vault e (deletion_refusal vault) refl

-- what an action changes is what its event makes of the account
pub step_made : (rules : Rules) (m : ℕ) (action : Action) (body : List ℕ) (before : AccountState) → before.last ≤ m → IsLawful before → HasOrder action → stores_body action ≡ false
    → IsMadeBy before m (step_of rules m action body before).answer.change (step_of rules m action body before).state
step_made rules m (CreateVault name) body before time lawful order plain = row_made_with None before m (create_row before m name) _ (creation_made before m name time)
step_made rules m (DescribeVault name) body before time lawful order plain = look_made before m (found before name) (described rules name)
step_made rules m (DeleteVault name) body before time lawful order plain = row_made_with None before m (delete_row before m name) _ (deletion_made before m name time)
step_made rules m (Upload ask) body before time lawful order plain = cc
step_made rules m (DeleteArchive name archive) body before time lawful order plain =
    row_made_with None before m (delete_archive_row rules before m name archive) _ (archive_deletion_made rules before m name archive time)
step_made rules m (BeginJob ask) body before time lawful order plain = row_made_with None before m (begin_row rules before m ask) _ (beginning_made rules before m ask time lawful order)
step_made rules m (DescribeJob name job) body before time lawful order plain = look_made before m (found_job before name job) _
step_made rules m (JobOutput name job range) body before time lawful order plain =
    subst (λ (c : Change). IsMadeBy before m c before) (sym (output_changes_nothing before name range [] (found_job before name job))) refl

-- and it stores no byte
pub plain_stores_none : (rules : Rules) (m : ℕ) (action : Action) (body : List ℕ) (before : AccountState) → stores_body action ≡ false → (step_of rules m action body before).stored ≡ []
plain_stores_none rules m (CreateVault name) body before plain = row_stores_none before (create_row before m name) _
plain_stores_none rules m (DescribeVault name) body before plain = look_stores_none before (found before name) (described rules name)
plain_stores_none rules m (DeleteVault name) body before plain = row_stores_none before (delete_row before m name) _
plain_stores_none rules m (Upload ask) body before plain = cc
plain_stores_none rules m (DeleteArchive name archive) body before plain = row_stores_none before (delete_archive_row rules before m name archive) _
plain_stores_none rules m (BeginJob ask) body before plain = row_stores_none before (begin_row rules before m ask) _
plain_stores_none rules m (DescribeJob name job) body before plain = look_stores_none before (found_job before name job) _
plain_stores_none rules m (JobOutput name job range) body before plain = refl

-- so its events are those of its change
pub plain_events : (rules : Rules) (m : ℕ) (action : Action) (accounts : Accounts) (answer : Answer) → stores_body action ≡ false
    → answer ≡ (step_of rules m action [] (account_in accounts rules.account)).answer → change_events rules.account m answer.change [] ≡ action_events rules m action [] accounts
plain_events rules m action accounts answer plain is =
    ap (λ (a : Answer). change_events rules.account m a.change []) is
    ∙ ap (λ (b : List ℕ). change_events rules.account m (step_of rules m action [] (account_in accounts rules.account)).answer.change b)
    (sym (plain_stores_none rules m action [] (account_in accounts rules.account) plain))

-- and what a moment does
pub moment_made : (m : ℕ) (before : AccountState) → before.last ≤ m → IsMadeBy before m (moment_change m before) (after_moment m before)
moment_made m before time = at (pass_is_event m before)
  where
    at : (b : Bool) → IsMadeBy before m (cond b (record { event = cond b (Some events.Pass) None; freed = freed m before }) no_change) (cond b (pass m before) before)
    at true = made before m events.Pass (pass m before) (freed m before) time refl refl
    at false = refl

-- the same of what they leave
pub acted_made : (rules : Rules) (m : ℕ) (action : Action) (before after : AccountState) (answer : Answer) → before.last ≤ m → IsLawful before → HasOrder action → stores_body action ≡ false
    → answer ≡ (step_of rules m action [] before).answer → after ≡ (step_of rules m action [] before).state → IsMadeBy before m answer.change after
acted_made rules m action before after answer time lawful order plain answer_is after_is =
    subst (λ (s : AccountState). IsMadeBy before m answer.change s) (sym after_is)
    (subst (λ (a : Answer). IsMadeBy before m a.change (step_of rules m action [] before).state) (sym answer_is) (step_made rules m action [] before time lawful order plain))

pub aged_made : (m : ℕ) (before after : AccountState) (change : Change) → before.last ≤ m → change ≡ moment_change m before → after ≡ after_moment m before → IsMadeBy before m change after
aged_made m before after change time change_is after_is =
    subst (λ (s : AccountState). IsMadeBy before m change s) (sym after_is)
    (subst (λ (c : Change). IsMadeBy before m c (after_moment m before)) (sym change_is) (moment_made m before time))

-- where nothing is due no event is made
pub no_time : (k : List ℕ) (m : ℕ) (accounts : Accounts) → pass_is_event m (account_in accounts k) ≡ false → time_events k m accounts ≡ []
no_time k m accounts is = ap (λ (b : Bool). change_events k m (cond b (pass_change m (account_in accounts k)) no_change) []) is

first_same : (one other : AccountState) (xs ys : List ℕ) → ◌≡◌ {A = Replay} (Some (one, xs)) (Some (other, ys)) → one ≡ other
first_same one other xs ys is = ap (λ (r : Replay). elim r as (λ _. AccountState) [ None ↦ one | Some p ↦ p.0 ]) is

-- what time makes of the accounts
pub has_passed : (before after : Accounts) (k : List ℕ) (m : ℕ) (change : Change) → change ≡ moment_change m (account_in before k) → IsChangeOf before after k m change
    → (account_in before k).last ≤ m → HasPassed before after k m
has_passed before after k m change is changes time =
    let by_time : IsChangeOf before after k m (moment_change m (account_in before k)) = subst (λ (c : Change). IsChangeOf before after k m c) is changes in
    record {
      after_is = subst (λ (c : Change). after ≡ accounts_after before (change_events k m c [])) is (after_change None before after k m change.event change.freed [] changes);
      last = at (pass_is_event m (account_in before k)) by_time;
    }
  where
    inserted : (b : Bool) (becomes : AccountState) → becomes.last ≤ m → (cond b becomes (account_in before k)).last ≤ m
    inserted true becomes low = low
    inserted false becomes low = time

    passed_to : (becomes : AccountState) (freed_here : List ℕ) → replayed (account_in before k) m events.Pass ≡ Some (becomes, freed_here) → becomes.last ≤ m
    passed_to becomes freed_here change_is =
        let low : (pass m (account_in before k)).last ≤ m = omega arith in
        let its : ◌≡◌ {A = Replay} (Some (pass m (account_in before k), freed m (account_in before k))) (Some (becomes, freed_here)) = sym (ap (λ (b : Bool). cond b (after_event (account_in before k) m events.Pass) None) (le-leb (account_in before k).last m time)) ∙ change_is in
        let same : pass m (account_in before k) ≡ becomes = first_same (pass m (account_in before k)) becomes (freed m (account_in before k)) freed_here its in
        subst (λ (s : AccountState). s.last ≤ m) same low

    at : (b : Bool) → IsChangeOf before after k m (cond b (record { event = cond b (Some events.Pass) None; freed = freed m (account_in before k) }) no_change) → (account_in after k).last ≤ m
    at true changed_by =
        subst (λ (s : AccountState). s.last ≤ m) (sym (ap (λ (all : Accounts). account_in all k) changed_by.1.after_is ∙ account_after before k changed_by.1.becomes k))
        (inserted (is_account k k) changed_by.1.becomes (passed_to changed_by.1.becomes (freed m (account_in before k)) changed_by.1.change))
    at false same = subst (λ (all : Accounts). (account_in all k).last ≤ m) (sym same) time
