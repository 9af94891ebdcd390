use Rattle.std.proofs.Common.{◌≡◌, ◌∙◌, [], sym, subst}
use Rattle.std.specs.Prelude.{IfOk}
use Rattle.glacier_http.specs.View.{HeadText, text_of}
use Rattle.glacier_store.specs.declared.store.Store.{Store}
use Rattle.glacier_server.specs.Admissions.{IsAdmission}
use Rattle.glacier_server.specs.Events.{KeepsEvents}
use Rattle.glacier_server.specs.Machine.{told_head}
use Rattle.glacier_server.specs.declared.admission.Admission.{Admission}
use Rattle.glacier_server.proofs.service.Service.admit_message.Goals as goal

pub returns-clause-admits : goal.returns-clause-admits
returns-clause-admits g c h behind reads =
    let is : c.view-head.result ≡ text_of h = c.view-head.ensures.head h behind (reads.0, c.bytes.ensures.same ∙ reads.1) in
    subst (λ (t : HeadText). IfOk c.admit_head.result (λ (r : Admission × Store). IsAdmission
    (λ body. told_head c.args.self.now.config.now c.args.store.accounts t body c.args.reading) c.args.spans.now.content_length r.1 r.0)) is
    c.admit_head.ensures.admits

pub returns-clause-keeps : goal.returns-clause-keeps
returns-clause-keeps g c t h behind reads =
    let is : c.view-head.result ≡ text_of h = c.view-head.ensures.head h behind (reads.0, c.bytes.ensures.same ∙ reads.1) in
    subst (λ (l : HeadText). KeepsEvents (g.D.Disk.told c.args.disk.now) (g.D.Disk.told c.admit_head.new.disk) c.args.store
    (told_head c.args.self.now.config.now c.args.store.accounts l [] c.args.reading).passed [] c.admit_head.result) is
    (c.admit_head.ensures.keeps t)
