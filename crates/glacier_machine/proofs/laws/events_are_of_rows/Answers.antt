use Rattle.glacier_job.specs.Beginning.{begin_row}
use Rattle.glacier_lock.specs.Denied.{delete_archive_row}
use Rattle.glacier_replies.specs.JobReplies.{begun}
use Rattle.glacier_replies.specs.Replies.{deleted, uploaded}
use Rattle.glacier_upload.specs.Single.{upload_row}
use Rattle.glacier_machine.proofs.RowLaws.{event_is_of_row}
use Rattle.glacier_machine.proofs.laws.events_are_of_rows.Goals as goal

pub returns : goal.returns
returns c = record {
  upload = λ rules m ask found before. event_is_of_row before (upload_row before m ask found) (uploaded rules ask.vault before.counter ask.tree);
  deletion = λ rules m name archive before. event_is_of_row before (delete_archive_row rules before m name archive) deleted;
  job = λ rules m ask before. event_is_of_row before (begin_row rules before m ask) (begun rules ask.vault before.counter);
}
