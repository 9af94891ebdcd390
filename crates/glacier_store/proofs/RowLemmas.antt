-- What a row makes of an account is what its event makes of it.
use Rattle.std.proofs.Common.{◌≡◌, ℕ, ◌≤◌, Bool, cond, List, [], Option, Some, None, Ok, Err, refl, ◌∙◌, ap}
use Rattle.std.specs.Prelude.{IfOk, Result}
use Rattle.std.proofs.lemmas.Bool.{le-leb}
use Rattle.glacier_http.specs.declared.reply.Reply.{Reply}
use Rattle.glacier_job.specs.Finding.{output_of}
use Rattle.glacier_machine.specs.JobSteps.{found_answer, output_answer, output_length, part_answer}
use Rattle.glacier_machine.specs.Steps.{by_look, by_row}
use Rattle.glacier_vault.specs.Rows.{Row, no_change}
use Rattle.glacier_vault.specs.declared.event.Change.{Change}
use Rattle.glacier_vault.specs.declared.event.Event.{Event}
use Rattle.glacier_vault.specs.declared.job.Job.{Job}
use Rattle.glacier_vault.specs.declared.job.Work.{Work}
use Rattle.glacier_vault.specs.declared.job.Work.TheVariants as works
use Rattle.glacier_vault.specs.declared.refusal.Refusal.{Refusal}
use Rattle.glacier_vault.specs.declared.state.AccountState.{AccountState}
use Rattle.glacier_replay.specs.Changes.{body_in}
use Rattle.glacier_replay.specs.Replayed.{after_event}
use Rattle.glacier_store.specs.Steps.{IsMadeWith}

-- an event that fits at a moment makes what it does
pub made_with : (told : Option (ℕ × List (List ℕ))) (before : AccountState) (m : ℕ) (event : Event) (after : AccountState) (freed : List ℕ) → before.last ≤ m → body_in event ≡ told
    → after_event before m event ≡ Some (after, freed) → IsMadeWith told before m (record { event = Some event; freed = freed }) after
made_with told before m event after freed time body fits =
    (body, ap (λ (b : Bool). cond b (after_event before m event) None) (le-leb before.last m time) ∙ fits)

-- the same without a body
pub made : (before : AccountState) (m : ℕ) (event : Event) (after : AccountState) (freed : List ℕ) → before.last ≤ m → body_in event ≡ None
    → after_event before m event ≡ Some (after, freed) → IsMadeWith None before m (record { event = Some event; freed = freed }) after
made before m event after freed time plain fits = made_with None before m event after freed time plain fits

-- what a row makes of the account is what its event does
abbrev pub RowMakesWith : Option (ℕ × List (List ℕ)) → AccountState → ℕ → Row Change → Type 0
RowMakesWith told before m row = IfOk row (λ done. IsMadeWith told before m done.1 done.0)

abbrev pub RowMakes : AccountState → ℕ → Row Change → Type 0
RowMakes before m row = RowMakesWith None before m row

pub row_made_with : (told : Option (ℕ × List (List ℕ))) (before : AccountState) (m : ℕ) (row : Row Change) (reply : Reply) → RowMakesWith told before m row
    → IsMadeWith told before m (by_row before row reply).answer.change (by_row before row reply).state
row_made_with told before m (Ok done) reply makes = makes
row_made_with told before m (Err refusal) reply makes = refl

-- a question makes nothing
pub look_made : {X : Type 0} (before : AccountState) (m : ℕ) (r : Result X Refusal) (reply : X → Reply)
    → IsMadeWith None before m (by_look before r reply).answer.change (by_look before r reply).state
look_made before m (Ok x) reply = refl
look_made before m (Err refusal) reply = refl

-- and so does the output of a job
pub output_changes_nothing : (before : AccountState) (name : List ℕ) (asked : Option (ℕ × ℕ)) (inventory : List ℕ) (r : Result Job Refusal)
    → (found_answer before name asked inventory r).change ≡ no_change
output_changes_nothing before name asked inventory (Err refusal) = refl
output_changes_nothing before name asked inventory (Ok job) = in_part job.work (output_of job (output_length job.work inventory) asked)
  where
    in_work : (work : Work) (part : ℕ × ℕ) → (output_answer before name work asked inventory part).change ≡ no_change
    in_work (works.Archive archive size tree first end range) part = refl
    in_work (works.Inventory csv) part = refl

    in_part : (work : Work) (r : Result (ℕ × ℕ) Refusal) → (part_answer before name work asked inventory r).change ≡ no_change
    in_part work (Ok part) = in_work work part
    in_part work (Err refusal) = refl

-- a step of a row or of a question stores no byte
pub row_stores_none : (before : AccountState) (row : Row Change) (reply : Reply) → (by_row before row reply).stored ≡ []
row_stores_none before (Ok done) reply = refl
row_stores_none before (Err refusal) reply = refl

pub look_stores_none : {X : Type 0} (before : AccountState) (r : Result X Refusal) (reply : X → Reply) → (by_look before r reply).stored ≡ []
look_stores_none before (Ok x) reply = refl
look_stores_none before (Err refusal) reply = refl
