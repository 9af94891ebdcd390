-- The stretch that an action answers with is there afterwards.
use Rattle.std.proofs.Common.{◌≡◌, ℕ, List, [], Option, Some, None, Ok, Err, false, ap, sym, subst}
use Rattle.std.specs.Prelude.{IfSome, Result}
use Rattle.std.proofs.lemmas.Option.{IfSome_then}
use Rattle.glacier_http.specs.declared.reply.Reply.{Reply}
use Rattle.glacier_job.specs.Beginning.{begin_row}
use Rattle.glacier_job.specs.Finding.{found_job}
use Rattle.glacier_lock.specs.Denied.{delete_archive_row}
use Rattle.glacier_machine.specs.AccountSteps.{step_of}
use Rattle.glacier_machine.specs.Actions.{HasOrder, stores_body}
use Rattle.glacier_machine.specs.Outputs.{IsOutputOf}
use Rattle.glacier_machine.specs.Steps.{by_look, by_row}
use Rattle.glacier_machine.specs.declared.action.Action.{Action}
use Rattle.glacier_machine.specs.declared.action.Action.TheVariants.{CreateVault, DescribeVault, DeleteVault, Upload, DeleteArchive, BeginJob, DescribeJob, JobOutput}
use Rattle.glacier_machine.specs.declared.action.Answer.{Answer}
use Rattle.glacier_machine.specs.declared.action.Stretch.{Stretch}
use Rattle.glacier_machine.proofs.OutputLemmas.{output_is_a_stretch}
use Rattle.glacier_replies.specs.Replies.{described}
use Rattle.glacier_vault.specs.Accounts.{Accounts, account_in}
use Rattle.glacier_vault.specs.Deletions.{delete_row}
use Rattle.glacier_vault.specs.Lawful.{IsLawful}
use Rattle.glacier_vault.specs.Rows.{Row, create_row, found}
use Rattle.glacier_vault.specs.declared.event.Change.{Change}
use Rattle.glacier_vault.specs.declared.event.Event.{Event}
use Rattle.glacier_vault.specs.declared.refusal.Refusal.{Refusal}
use Rattle.glacier_vault.specs.declared.rules.Rules.{Rules}
use Rattle.glacier_vault.specs.declared.state.AccountState.{AccountState}
use Rattle.glacier_store.specs.Outputs.{HasStretch}
use Rattle.glacier_store.specs.Steps.{IsChangeOf}
use Rattle.glacier_store.proofs.RowLemmas.{output_changes_nothing}

module _ (accounts : Accounts) (k : List ℕ) where
  -- an answer has a stretch that is there only where it changes nothing
  abbrev pub HasIdleStretch : Answer → Type 0
  HasIdleStretch answer = IfSome answer.stretch (λ stretch. HasStretch accounts k stretch × (answer.change.event ≡ None))

  row_has_none : (before : AccountState) (row : Row Change) (reply : Reply) → HasIdleStretch (by_row before row reply).answer
  row_has_none before (Ok done) reply = tt
  row_has_none before (Err refusal) reply = tt

  look_has_none : {X : Type 0} (before : AccountState) (look : Result X Refusal) (reply : X → Reply)
      → HasIdleStretch (by_look before look reply).answer
  look_has_none before (Ok x) reply = tt
  look_has_none before (Err refusal) reply = tt

  output_is_there : (name : List ℕ) (job : ℕ) (stretch : Stretch) → IsOutputOf (account_in accounts k) name job stretch
      → HasStretch accounts k stretch
  output_is_there name job stretch is = record { archive = is.archive; there = is.stored; within = is.within }

  pub step_stretch : (rules : Rules) (m : ℕ) (action : Action) (before : AccountState) → before ≡ account_in accounts k
      → IsLawful before → HasOrder action → stores_body action ≡ false → HasIdleStretch (step_of rules m action [] before).answer
  step_stretch rules m (CreateVault name) before is lawful order plain = row_has_none before (create_row before m name) _
  step_stretch rules m (DescribeVault name) before is lawful order plain =
      look_has_none before (found before name) (described rules name)
  step_stretch rules m (DeleteVault name) before is lawful order plain = row_has_none before (delete_row before m name) _
  step_stretch rules m (Upload ask) before is lawful order plain = absurd cc
  step_stretch rules m (DeleteArchive name archive) before is lawful order plain =
      row_has_none before (delete_archive_row rules before m name archive) _
  step_stretch rules m (BeginJob ask) before is lawful order plain = row_has_none before (begin_row rules before m ask) _
  step_stretch rules m (DescribeJob name job) before is lawful order plain =
      look_has_none before (found_job before name job) _
  step_stretch rules m (JobOutput name job range) before is lawful order plain =
      IfSome_then (step_of rules m (JobOutput name job range) [] before).answer.stretch
      (output_is_a_stretch before lawful name job range [] order)
      (λ stretch here. (
        output_is_there name job stretch (subst (λ (s : AccountState). IsOutputOf s name job stretch) is here),
        ap (λ (c : Change). c.event) (output_changes_nothing before name range [] (found_job before name job)),
      ))

  unchanged : (after : Accounts) (m : ℕ) (event : Option Event) (freed : List ℕ) → event ≡ None
      → IsChangeOf accounts after k m (record { event = event; freed = freed }) → after ≡ accounts
  unchanged after m None freed none is = is
  unchanged after m (Some event) freed none is = absurd cc

  -- so it is there behind the change
  pub stretch_after : (after : Accounts) (m : ℕ) (answer : Answer) → HasIdleStretch answer
      → IsChangeOf accounts after k m answer.change → IfSome answer.stretch (HasStretch after k)
  stretch_after after m answer has changed =
      IfSome_then answer.stretch has
      (λ stretch here. subst (λ (all : Accounts). HasStretch all k stretch)
      (sym (unchanged after m answer.change.event answer.change.freed here.1 changed)) here.0)
