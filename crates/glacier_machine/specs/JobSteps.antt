-- The steps of the operations on jobs: the beginning of one, its description, and its output.
use Rattle.std.specs.Prelude.{ℕ, ◌+◌, ◌-◌, ◌≤◌, Bool, List, [], length, IfSome, Option, Some, None, Result, Ok, Err, if◌then◌else◌, slice_range}
use Rattle.std.specs.FinMap as map
use Rattle.glacier_http.specs.declared.reply.Kind.{Kind}
use Rattle.glacier_http.specs.declared.reply.Kind.TheVariants.{Csv, Json}
use Rattle.glacier_job.specs.Beginning.{begin_row}
use Rattle.glacier_job.specs.Finding.{found_job, output_of}
use Rattle.glacier_job.specs.declared.asks.JobAsk.{JobAsk}
use Rattle.glacier_replies.specs.JobReplies.{begun, output, shown_job}
use Rattle.glacier_treehash.specs.Nodes.{range_root}
use Rattle.glacier_vault.specs.Lawful.{IsLawfulBody}
use Rattle.glacier_vault.specs.Rows.{no_change}
use Rattle.glacier_vault.specs.declared.archive.Archive.{Archive}
use Rattle.glacier_vault.specs.declared.job.Job.{Job}
use Rattle.glacier_vault.specs.declared.job.Work.{Work}
use Rattle.glacier_vault.specs.declared.job.Work.TheVariants as works
use Rattle.glacier_vault.specs.declared.refusal.Refusal.{Refusal}
use Rattle.glacier_vault.specs.declared.rules.Rules.{Rules}
use Rattle.glacier_vault.specs.declared.state.AccountState.{AccountState}
use Rattle.glacier_vault.specs.declared.state.VaultState.{VaultState}
use Rattle.glacier_replies.specs.Replies.{refused}
use Rattle.glacier_machine.specs.Steps.{Step, by_row, by_look}
use Rattle.glacier_machine.specs.declared.action.Answer.{Answer}

-- POST of a job, which gets the account's next number
abbrev pub begin_job_step : Rules → ℕ → JobAsk → AccountState → Step
begin_job_step rules m ask before = by_row before (begin_row rules before m ask) (begun rules ask.vault before.counter)

-- GET of a job; an inventory that is done has so many bytes
abbrev pub describe_job_step : Rules → List ℕ → ℕ → ℕ → AccountState → Step
describe_job_step rules name number bytes before =
    by_look before (found_job before name number) (λ job. shown_job rules name number job bytes)

-- the live archive, or else the held one
abbrev pub live_or_held : Option Archive → Option Archive → Option Archive
live_or_held None held = held
live_or_held (Some archive) held = Some archive

-- the archive of a number in a vault, live or held
abbrev pub stored_in : Option VaultState → ℕ → Option Archive
stored_in None number = None
stored_in (Some vault) number = live_or_held (map.get vault.archives number) (map.get vault.held number)

-- the same in the vault of a name
abbrev pub stored_archive : AccountState → List ℕ → ℕ → Option Archive
stored_archive account name number = stored_in (map.get account.vaults name) number

-- what a job of a lawful account works on: the bytes of a retrieval are a stretch, and its archive, where it is there,
-- has a leaf for each MiB
abbrev pub HasBytes : AccountState → List ℕ → Work → Type 0
HasBytes account name (works.Archive archive size tree first end range) =
    (first ≤ end)
    × IfSome (stored_archive account name archive) (λ there. IsLawfulBody there.size there.leaves there.tree)
HasBytes account name (works.Inventory csv) = Unit {0}

-- how many bytes the output of a job has, where that of an inventory is this text
abbrev pub output_length : Work → List ℕ → ℕ
output_length (works.Archive archive size tree first end range) inventory = end - first
output_length (works.Inventory csv) inventory = length inventory

-- the tree hash of an archive's bytes from one to before another, where they are a node
abbrev pub bytes_tree : Option Archive → ℕ → ℕ → Option (List ℕ)
bytes_tree None first end = None
bytes_tree (Some archive) first end = range_root archive.leaves archive.size first end

-- the same where the range of the job that they are taken of is a node too, and so has a tree hash
abbrev pub sent_tree : Option (List ℕ) → Option Archive → ℕ → ℕ → Option (List ℕ)
sent_tree None archive first end = None
sent_tree (Some tree) archive first end = bytes_tree archive first end

abbrev pub inventory_kind : Bool → Kind
inventory_kind csv = if csv then Csv else Json

-- what is answered with the part of an inventory's text from one byte to before another
abbrev pub inventory_part : Bool → Option (ℕ × ℕ) → List ℕ → ℕ × ℕ → Answer
inventory_part csv asked inventory part = record {
  reply = record (output asked (length inventory) None) {
    kind = inventory_kind csv;
    body = slice_range inventory part.0 part.1;
  };
  stretch = None;
  change = no_change;
}

-- what is answered with the output of a job from one byte to before another
abbrev pub output_answer : AccountState → List ℕ → Work → Option (ℕ × ℕ) → List ℕ → ℕ × ℕ → Answer
output_answer account name (works.Archive archive size tree first end range) asked inventory part = record {
  reply = output asked (end - first)
      (sent_tree range (stored_archive account name archive) (first + part.0) (first + part.1));
  stretch = Some (record { vault = name; archive = archive; first = first + part.0; end = first + part.1 });
  change = no_change;
}
output_answer account name (works.Inventory csv) asked inventory part = inventory_part csv asked inventory part

-- what is answered where this part of the output is asked for, or why it isn't given
abbrev pub part_answer : AccountState → List ℕ → Work → Option (ℕ × ℕ) → List ℕ → Result (ℕ × ℕ) Refusal → Answer
part_answer account name work asked inventory (Ok part) = output_answer account name work asked inventory part
part_answer account name work asked inventory (Err refusal) =
    record { reply = refused refusal; stretch = None; change = no_change }

-- the same of a job that is found, or not
abbrev pub found_answer : AccountState → List ℕ → Option (ℕ × ℕ) → List ℕ → Result Job Refusal → Answer
found_answer account name asked inventory (Ok job) =
    part_answer account name job.work asked inventory (output_of job (output_length job.work inventory) asked)
found_answer account name asked inventory (Err refusal) =
    record { reply = refused refusal; stretch = None; change = no_change }

-- GET of a job's output, of all of it or of a range of a first and a last byte. The output of an inventory is this text
abbrev pub job_output_step : List ℕ → ℕ → Option (ℕ × ℕ) → List ℕ → AccountState → Step
job_output_step name number asked inventory before =
    record { answer = found_answer before name asked inventory (found_job before name number); state = before; stored = [] }
