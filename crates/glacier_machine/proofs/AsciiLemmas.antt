-- The refusals of the operations on jobs keep no text that isn't ASCII.
use Rattle.std.specs.Prelude.{ℕ, ◌+◌, Bool, true, false, cond, List, Option, Some, None, Result, Ok, Err, IfSome, IfErr, nat_eq, nat_le, nat_lt}
use Rattle.std.specs.FinMap as map
use Rattle.glacier_job.specs.Beginning.{limit_refusal, accepted_work, after_put, new_job, begin_event, ready_at, begin_row}
use Rattle.glacier_job.specs.Finding.{found_job, range_within, output_of}
use Rattle.glacier_job.specs.Work.{is_bad_job_range, range_first, range_end, retrieval, work_of}
use Rattle.glacier_job.specs.declared.asks.AskKind.{AskKind}
use Rattle.glacier_job.specs.declared.asks.AskKind.TheVariants as kinds
use Rattle.glacier_job.specs.declared.asks.JobAsk.{JobAsk}
use Rattle.glacier_job.specs.declared.beginning.TheConstants.{MOST_JOBS}
use Rattle.glacier_replies.specs.Messages.{HasAsciiText}
use Rattle.glacier_vault.specs.Account.{counter_end}
use Rattle.glacier_vault.specs.Rows.{answer, changed, draw_refusal}
use Rattle.glacier_vault.specs.declared.archive.Archive.{Archive}
use Rattle.glacier_vault.specs.declared.event.Change.{Change}
use Rattle.glacier_vault.specs.declared.job.Job.{Job}
use Rattle.glacier_vault.specs.declared.job.Stage.{Stage}
use Rattle.glacier_vault.specs.declared.job.Stage.TheVariants as stages
use Rattle.glacier_vault.specs.declared.job.Work.{Work}
use Rattle.glacier_vault.specs.declared.refusal.Refusal.{Refusal}
use Rattle.glacier_vault.specs.declared.refusal.Refusal.TheVariants.{NoVault, NoArchive, NoJob, BadJobRange, JobLimit, CounterEnd, NotReady, JobFailed, BadByteRange}
use Rattle.glacier_vault.specs.declared.rules.Rules.{Rules}
use Rattle.glacier_vault.specs.declared.state.AccountState.{AccountState}
use Rattle.glacier_vault.specs.declared.state.VaultState.{VaultState}

limit_ascii : (account : AccountState) → IfSome (limit_refusal account) HasAsciiText
limit_ascii account = by_limit (nat_le MOST_JOBS account.jobs)
  where
    by_end : (b : Bool) → IfSome (cond b (Some CounterEnd) None) HasAsciiText
    by_end true = tt
    by_end false = tt

    by_limit : (b : Bool) → IfSome (cond b (Some JobLimit) (draw_refusal account)) HasAsciiText
    by_limit true = tt
    by_limit false = by_end (nat_eq account.counter counter_end)

work_ascii : (vault : VaultState) (kind : AskKind) → IfErr (work_of vault kind) HasAsciiText
work_ascii vault (kinds.Inventory csv) = tt
work_ascii vault (kinds.Archive number range) = by_archive (map.get vault.archives number)
  where
    by_range : (archive : Archive) (b : Bool)
        → IfErr (cond b (Err BadJobRange) (Ok (retrieval number archive (range_first range) (range_end range archive.size)))) HasAsciiText
    by_range archive true = tt
    by_range archive false = tt

    by_archive : (r : Option Archive)
        → IfErr {T = Work} (elim r [ None ↦ Err (NoArchive number) | Some archive ↦ cond (is_bad_job_range range archive.size) (Err BadJobRange) (Ok (retrieval number archive (range_first range) (range_end range archive.size))) ]) HasAsciiText
    by_archive None = tt
    by_archive (Some archive) = by_range archive (is_bad_job_range range archive.size)

module _ (rules : Rules) (account : AccountState) (m : ℕ) (ask : JobAsk) where
  accepted_ascii : IfErr (accepted_work account ask) HasAsciiText
  accepted_ascii = by_vault (map.get account.vaults ask.vault)
    where
      by_limit : (work : Work) (r : Option Refusal) → IfSome r HasAsciiText
          → IfErr {T = Work} (elim r [ Some refusal ↦ Err refusal | None ↦ Ok work ]) HasAsciiText
      by_limit work None h = tt
      by_limit work (Some refusal) h = h

      by_work : (r : Result Work Refusal) → IfErr r HasAsciiText
          → IfErr {T = Work} (elim r [ Err refusal ↦ Err refusal | Ok work ↦ elim (limit_refusal account) [ Some refusal ↦ Err refusal | None ↦ Ok work ] ]) HasAsciiText
      by_work (Ok work) h = by_limit work (limit_refusal account) (limit_ascii account)
      by_work (Err refusal) h = h

      by_vault : (r : Option VaultState)
          → IfErr {T = Work} (elim r [ None ↦ Err (NoVault ask.vault) | Some vault ↦ elim (work_of vault ask.kind) [ Err refusal ↦ Err refusal | Ok work ↦ elim (limit_refusal account) [ Some refusal ↦ Err refusal | None ↦ Ok work ] ] ]) HasAsciiText
      by_vault None = tt
      by_vault (Some vault) = by_work (work_of vault ask.kind) (work_ascii vault ask.kind)

  pub begun_ascii : IfErr (answer (begin_row rules account m ask)) HasAsciiText
  begun_ascii = by_work (accepted_work account ask) accepted_ascii
    where
      by_work : (r : Result Work Refusal) → IfErr r HasAsciiText
          → IfErr {T = Change} (answer (elim r [ Err refusal ↦ Err refusal | Ok work ↦ Ok (after_put account m ask.vault (new_job rules m ask work), changed (begin_event ask (ready_at rules m ask.tier) work)) ])) HasAsciiText
      by_work (Ok work) h = tt
      by_work (Err refusal) h = h

pub found_ascii : (account : AccountState) (name : List ℕ) (number : ℕ) → IfErr (found_job account name number) HasAsciiText
found_ascii account name number = by_vault (map.get account.vaults name)
  where
    by_job : (r : Option Job) → IfErr {T = Job} (elim r [ None ↦ Err (NoJob number) | Some job ↦ Ok job ]) HasAsciiText
    by_job None = tt
    by_job (Some job) = tt

    by_vault : (r : Option VaultState)
        → IfErr {T = Job} (elim r [ None ↦ Err (NoVault name) | Some vault ↦ elim (map.get vault.jobs number) [ None ↦ Err (NoJob number) | Some job ↦ Ok job ] ]) HasAsciiText
    by_vault None = tt
    by_vault (Some vault) = by_job (map.get vault.jobs number)

pub output_ascii : (job : Job) (length : ℕ) (range : Option (ℕ × ℕ)) → IfErr (output_of job length range) HasAsciiText
output_ascii job length range = by_stage job.stage
  where
    by_range : (asked : Option (ℕ × ℕ)) → IfErr (range_within length asked) HasAsciiText
    by_range None = tt
    by_range (Some asked) = by_test (nat_lt asked.1 length)
      where
        by_test : (b : Bool) → IfErr {T = ℕ × ℕ} (cond b (Ok (asked.0, asked.1 + 1)) (Err (BadByteRange length))) HasAsciiText
        by_test true = tt
        by_test false = tt

    by_stage : (stage : Stage)
        → IfErr {T = ℕ × ℕ} (elim stage [ stages.Waiting ↦ Err (NotReady job.ready) | stages.Failed ↦ Err JobFailed | stages.Done lines ↦ range_within length range ]) HasAsciiText
    by_stage stages.Waiting = tt
    by_stage stages.Failed = tt
    by_stage (stages.Done lines) = by_range range
