-- The reply to an upload can be printed.
use Rattle.std.specs.Prelude.{ℕ, ◌≤◌, List, length, None}
use Rattle.std.proofs.Common.{◌≡◌, sym, subst, arith}
use Rattle.hex.specs.Hex.{encode_lower}
use Rattle.glacier_machine.specs.Steps.{Step}
use Rattle.glacier_machine.specs.ArchiveSteps.{archive_step, found_in}
use Rattle.glacier_replies.specs.Replies.{uploaded}
use Rattle.glacier_replies.proofs.FieldLemmas.{uploaded_is_short}
use Rattle.glacier_store.proofs.UploadLemmas.{archive_is}
use Rattle.glacier_upload.specs.Single.{upload_refusal, upload_row}
use Rattle.glacier_upload.specs.declared.asks.UploadAsk.{UploadAsk}
use Rattle.glacier_vault.specs.declared.rules.Rules.{Rules}
use Rattle.glacier_vault.specs.declared.state.AccountState.{AccountState}
use Rattle.glacier_server.specs.Machine.{IsPrintableIn}
use Rattle.glacier_server.proofs.ReplyLemmas.{row_printable}

pub upload_printable : (rules : Rules) (m : ℕ) (ask : UploadAsk) (message : List ℕ) (before : AccountState)
    → upload_refusal rules.quota before ask ≡ None → length rules.account ≡ 12 → length ask.vault ≤ 255
    → length (encode_lower ask.tree) ≡ 64 → IsPrintableIn 1024 (archive_step rules m ask message before).answer.reply
upload_printable rules m ask message before admitted twelve short digits =
    subst (λ (s : Step). IsPrintableIn 1024 s.answer.reply) (sym (archive_is rules m ask message before admitted))
    (row_printable before (upload_row before m ask (found_in message)) (uploaded rules ask.vault before.counter ask.tree)
    (omega arith, omega (arith, uploaded_is_short rules ask.vault twelve short before.counter ask.tree digits)))
