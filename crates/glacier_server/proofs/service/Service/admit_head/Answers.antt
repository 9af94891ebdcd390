use Rattle.std.proofs.Common.{◌≡◌, ◌∙◌, ℕ, true, false, List, [], length, sym, subst}
use Rattle.std.specs.Prelude.{replicate}
use Rattle.std.proofs.lemmas.List.{length-replicate}
use Rattle.std.proofs.lemmas.Result.{IfOk-weaker}
use Rattle.glacier_vault.specs.Accounts.{AccountEvent}
use Rattle.glacier_machine.specs.Outcomes.{request_outcome}
use Rattle.glacier_server.specs.Machine.{told_head}
use Rattle.glacier_server.specs.Events.{KeepsEvents}
use Rattle.glacier_server.proofs.AdmissionLemmas.{admission_behind, head_passed, is_stored_in, told_behind}
use Rattle.glacier_server.proofs.KeptLemmas.{no_memory}
use Rattle.glacier_server.proofs.ReplyLemmas.{stores_by}
use Rattle.glacier_server.proofs.service.Service.admit_head.Goals as goal

pub admit_read-requires-clause-read : goal.admit_read-requires-clause-read
admit_read-requires-clause-read g c κs lives =
    is_stored_in c.in-Ok.request c.in-Ok.ensures.ascii (stores_by c.in-Ok.request c.requires.bulk c.in-Ok.ensures.bulk)

pub returns-in-Ok-clause-admits : goal.returns-in-Ok-clause-admits
returns-in-Ok-clause-admits g c =
    IfOk-weaker c.admit_read.result _ _
    (λ r. admission_behind
    (λ body. request_outcome c.args.self.now.config.now c.args.store.accounts c.in-Ok.request body c.args.reading)
    (λ body. told_head c.args.self.now.config.now c.args.store.accounts c.args.head.now body c.args.reading)
    c.args.size r.1 r.0
    (told_behind c.args.self.now.config.now c.args.store.accounts c.args.head.now c.args.reading c.args.size c.in-Ok.request
    c.requires.bulk (λ body size. c.in-Ok.ensures.request body size
    (λ no. let never : true ≡ false = sym c.requires.bulk ∙ no in absurd (cc)))))
    (c.admit_read.ensures.admits c.args.size c.in-Ok.ensures.size)

pub returns-in-Ok-clause-keeps : goal.returns-in-Ok-clause-keeps
returns-in-Ok-clause-keeps g c t =
    subst (λ (l : List AccountEvent). KeepsEvents (g.D.Disk.told c.args.disk.now) (g.D.Disk.told c.admit_read.new.disk)
    c.args.store l [] c.admit_read.result)
    (head_passed c.args.self.now.config.now c.args.store.accounts c.args.head.now c.args.reading c.args.size c.in-Ok.request
    c.requires.bulk (λ body size. c.in-Ok.ensures.request body size
    (λ no. let never : true ≡ false = sym c.requires.bulk ∙ no in absurd (cc)))
    (replicate c.args.size 0) (length-replicate c.args.size 0))
    (c.admit_read.ensures.keeps t)

pub returns-in-Err-clause-keeps : goal.returns-in-Err-clause-keeps
returns-in-Err-clause-keeps g c t = no_memory (g.met.D.Disk.lawful t c.args.disk.now) c.args.store _ _
