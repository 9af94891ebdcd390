-- The steps of the operations on archives: an upload in one message, and a deletion.
use Rattle.std.specs.Prelude.{ℕ, List, Some, None}
use Rattle.sha2.specs.Sha256.{sha256}
use Rattle.glacier_lock.specs.Denied.{delete_archive_row}
use Rattle.glacier_replies.specs.Replies.{deleted, refused, uploaded}
use Rattle.glacier_treehash.specs.Leaves.{leaves_of}
use Rattle.glacier_upload.specs.Single.{upload_refusal, upload_row}
use Rattle.glacier_upload.specs.declared.asks.Found.{Found}
use Rattle.glacier_upload.specs.declared.asks.UploadAsk.{UploadAsk}
use Rattle.glacier_vault.specs.declared.rules.Rules.{Rules}
use Rattle.glacier_vault.specs.declared.state.AccountState.{AccountState}
use Rattle.glacier_machine.specs.Steps.{Step, by_row, only_replies, storing}

-- POST of an archive that was admitted, once its body was taken: the archive gets the account's next number
abbrev pub upload_step : Rules → ℕ → UploadAsk → Found → AccountState → Step
upload_step rules m ask found before =
    by_row before (upload_row before m ask found) (uploaded rules ask.vault before.counter ask.tree)

-- what is found of a body
abbrev pub found_in : List ℕ → Found
found_in body = record { linear = sha256 body; leaves = leaves_of body }

-- POST of an archive with its body, which its event stores. It isn't looked at where the upload isn't admitted
abbrev pub archive_step : Rules → ℕ → UploadAsk → List ℕ → AccountState → Step
archive_step rules m ask body before = elim (upload_refusal rules.quota before ask) [
  | Some refusal ↦ only_replies before (refused refusal)
  | None ↦ storing body (upload_step rules m ask (found_in body) before)
]

-- DELETE of an archive
abbrev pub delete_archive_step : Rules → ℕ → List ℕ → ℕ → AccountState → Step
delete_archive_step rules m name archive before =
    by_row before (delete_archive_row rules before m name archive) deleted
