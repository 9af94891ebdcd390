use Rattle.glacier_job.specs.Beginning.{begin_row}
use Rattle.glacier_lock.specs.Denied.{delete_archive_row}
use Rattle.glacier_replies.specs.JobReplies.{begun}
use Rattle.glacier_replies.specs.Replies.{deleted, uploaded}
use Rattle.glacier_upload.specs.Single.{upload_row}
use Rattle.glacier_machine.proofs.RowSteps.{step_refused}
use Rattle.glacier_machine.proofs.laws.refused_steps_change_nothing.Goals as goal

pub returns : goal.returns
returns c = record {
  upload = λ rules m ask found before. step_refused before (upload_row before m ask found) (uploaded rules ask.vault before.counter ask.tree);
  deletion = λ rules m name archive before. step_refused before (delete_archive_row rules before m name archive) deleted;
  job = λ rules m ask before. step_refused before (begin_row rules before m ask) (begun rules ask.vault before.counter);
}
