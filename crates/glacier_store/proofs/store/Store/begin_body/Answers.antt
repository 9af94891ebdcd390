use Rattle.std.proofs.Common.{sym, subst}
use Rattle.std.proofs.lemmas.Result.{IfOk-weaker}
use Rattle.glacier_bodies.specs.Stands.{Layouts}
use Rattle.glacier_bodies.specs.declared.body.Body.{Body}
use Rattle.glacier_store.specs.Kept.{IsRestBeside}
use Rattle.glacier_store.proofs.StreamLemmas.{rest_beside}
use Rattle.glacier_store.proofs.store.Store.begin_body.Goals as goal

pub returns-clause-beside : goal.returns-clause-beside
returns-clause-beside c =
    let area = c.args.self.now.area in
    let new = c.begin_body.new.self in
    IfOk-weaker c.begin_body.result _ _
    (λ (body : Body) claims rest. subst (λ (l : Layouts). IsRestBeside body.layout new.free l) (sym c.begin_body.ensures.blobs)
    (rest_beside body.layout area.free new.free area.blobs claims.rest rest))
    c.begin_body.ensures.lowest
