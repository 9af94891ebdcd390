use Rattle.std.proofs.Common.{sym, subst}
use Rattle.glacier_bodies.specs.Stands.{Layouts}
use Rattle.glacier_replay.specs.Made.{IsRest}
use Rattle.glacier_store.proofs.StreamLemmas.{rest_given_back}
use Rattle.glacier_store.proofs.store.Store.release.Goals as goal

pub returns-clause-rest : goal.returns-clause-rest
returns-clause-rest c beside =
    let area = c.args.self.now.area in
    subst (λ (l : Layouts). IsRest c.release.new.self.free l) (sym c.release.ensures.blobs)
    (rest_given_back c.args.layout area.free c.release.new.self.free area.blobs c.requires.distinct c.requires.unnamed c.release.ensures.released.blocks_are beside)
