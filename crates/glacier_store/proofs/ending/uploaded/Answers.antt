use Rattle.std.proofs.Common.{Some, ◌≤◌, ◌∙◌, ap, sym, subst, Bool, ◌||◌}
use Rattle.std.specs.Option.{is_some}
use Rattle.glacier_upload.specs.Single.{upload_refusal}
use Rattle.glacier_vault.specs.declared.state.AccountState.{AccountState}
use Rattle.glacier_store.proofs.ChangeLemmas.{changed_accounts}
use Rattle.glacier_store.proofs.UploadLemmas.{uploaded_made}
use Rattle.glacier_store.proofs.ending.uploaded.Goals as goal

pub returns-clause-accounts : goal.returns-clause-accounts
returns-clause-accounts c =
    let answer = c.in_ok-answer.answer in
    let before = c.take-state.result in
    let ask = c.args.ask.now in
    let found = c.args.found in
    changed_accounts (Some (ask.size, found.leaves)) c.args.accounts.now c.args.rules.now.account c.args.m before c.upload.new.state answer.change c.is_known-keep.result c.take-state.new.self c.put_if.new.self
    c.take-state.ensures.rest c.take-state.ensures.state c.take-state.ensures.lawful
    (uploaded_made c.args.rules.now c.args.m ask found before c.upload.new.state answer
    (subst (λ (s : AccountState). s.last ≤ c.args.m) (sym c.take-state.ensures.state) c.requires.time)
    (ap (λ (s : AccountState). upload_refusal c.args.rules.now.quota s ask) c.take-state.ensures.state ∙ c.requires.admitted)
    c.requires.leaves c.in_ok-answer.ensures.answer c.in_ok-answer.ensures.state)
    (c.is_known-keep.ensures ∙ ap (λ (b : Bool). b || is_some answer.change.event) c.contains-known.ensures)
    c.in_ok-put_if.ensures
