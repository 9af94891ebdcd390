-- The account that time leaves, and what is asked of it then.
use Rattle.std.proofs.Common.{◌≡◌, ℕ, ◌≤◌, Bool, true, false, cond, List, [], Some, None, refl, ap, ◌∙◌}
use Rattle.std.specs.Cmp.Lexicographic.{nat_list_cmp_total}
use Rattle.std.specs.Cmp.{eq_by_cmp_equiv}
use Rattle.std.proofs.lemmas.Bool.{le-leb}
use Rattle.glacier_machine.specs.declared.action.Request.{Request}
use Rattle.glacier_machine.specs.declared.config.Config.{Config}
use Rattle.glacier_machine.specs.Moments.{after_moment}
use Rattle.glacier_machine.specs.AccountSteps.{asked_step}
use Rattle.glacier_machine.specs.Outcomes.{events_of, moment_of, rules_of, step_outcome}
use Rattle.glacier_replay.specs.Changes.{accounts_after as after_one}
use Rattle.glacier_vault.specs.Accounts.{Accounts, account_in}
use Rattle.glacier_vault.specs.declared.state.AccountState.{AccountState}
use Rattle.glacier_job.specs.Pass.{freed, pass, pass_is_event}
use Rattle.glacier_replay.proofs.SettledLemmas.{account_after}
use Rattle.glacier_vault.specs.Rows.{no_change}
use Rattle.glacier_vault.specs.declared.event.Event.TheVariants.{Pass}
use Rattle.glacier_vault.specs.declared.rules.Rules.{Rules}
use Rattle.glacier_server.specs.Machine.{asked_outcome, told_of}
use Rattle.glacier_store.specs.Steps.{accounts_after, time_events}

-- time makes of an account what the moment does
pub passed_account : (before : Accounts) (k : List ℕ) (m : ℕ) → (account_in before k).last ≤ m
    → account_in (accounts_after before (time_events k m before)) k ≡ after_moment m (account_in before k)
passed_account before k m time = at (pass_is_event m (account_in before k))
  where
    at : (b : Bool)
        → account_in (accounts_after before (events_of k m (cond b (record { event = cond b (Some Pass) None; freed = freed m (account_in before k) }) no_change).event [])) k
        ≡ cond b (pass m (account_in before k)) (account_in before k)
    at true =
        ap (λ (fits : Bool). account_in (after_one before k (cond fits (Some (pass m (account_in before k), freed m (account_in before k))) None)) k)
        (le-leb (account_in before k).last m time)
        ∙ account_after before k (pass m (account_in before k)) k
        ∙ ap (λ (b : Bool). cond b (pass m (account_in before k)) (account_in before k)) ((eq_by_cmp_equiv nat_list_cmp_total).refl k)
    at false = refl

-- the outcome of a request is that of what is asked once time has passed
pub asked_behind : (config : Config) (rules : Rules) (request : Request) (body : List ℕ) (reading m : ℕ) (accounts one : Accounts)
    → rules ≡ rules_of config request.account → m ≡ moment_of (account_in accounts request.account) reading
    → account_in one request.account ≡ after_moment m (account_in accounts request.account)
    → asked_outcome rules m request.asked body one
    ≡ record (told_of (rules_of config request.account) accounts request body reading) { passed = [] }
asked_behind config rules request body reading m accounts one is at same =
    ap (λ (r : Rules). asked_outcome r m request.asked body one) is
    ∙ ap (λ (s : AccountState). step_outcome request.account m [] (asked_step (rules_of config request.account) m request.asked body s)) same
    ∙ ap (λ (n : ℕ). step_outcome request.account n [] (asked_step (rules_of config request.account) n request.asked body
    (after_moment n (account_in accounts request.account)))) at
