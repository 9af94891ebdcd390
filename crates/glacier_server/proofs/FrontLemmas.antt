-- What holds of the message at the front, by a store and by its state.
use Rattle.std.proofs.Common.{◌≡◌, ℕ, List, subst}
use Rattle.std.specs.Prelude.{Result}
use Rattle.glacier_disk.specs.Told.{Told}
use Rattle.glacier_http.specs.declared.head_spans.HeadSpans.{HeadSpans}
use Rattle.glacier_machine.specs.declared.config.Config.{Config}
use Rattle.glacier_machine.specs.Outcomes.{one}
use Rattle.glacier_server.specs.declared.answered.Answered.{Answered}
use Rattle.glacier_server.specs.declared.end.ServeFault.{ServeFault}
use Rattle.glacier_server.specs.Events.{KeepsOutcome}
use Rattle.glacier_server.specs.Front.{AtFront}
use Rattle.glacier_server.specs.Texts.{answered_of}
use Rattle.glacier_store.specs.declared.store.Store.{Store}
use Rattle.glacier_vault.specs.Accounts.{Accounts}

-- what holds of the outcome by the accounts of a store does so by those of its state
pub keeps_by : {T : Type 0} {a b : Told} {unread kept : List ℕ} {r : ℕ} (config : Config) (spans : HeadSpans) (store : Store)
    (result : Result (T × Store) ServeFault) {was is : Accounts} → was ≡ is
    → AtFront unread spans kept (λ m. KeepsOutcome a b store (one config was m r) result)
    → AtFront unread spans kept (λ m. KeepsOutcome a b store (one config is m r) result)
keeps_by {a = a} {b = b} {unread = unread} {kept = kept} {r = r} config spans store result same each =
    subst (λ (s : Accounts). AtFront unread spans kept (λ m. KeepsOutcome a b store (one config s m r) result)) same each

pub answers_by : {unread kept : List ℕ} {r : ℕ} (config : Config) (spans : HeadSpans) (answer : Answered) {was is : Accounts}
    → was ≡ is → AtFront unread spans kept (λ m. answer ≡ answered_of (one config was m r))
    → AtFront unread spans kept (λ m. answer ≡ answered_of (one config is m r))
answers_by {unread = unread} {kept = kept} {r = r} config spans answer same each =
    subst (λ (s : Accounts). AtFront unread spans kept (λ m. answer ≡ answered_of (one config s m r))) same each
