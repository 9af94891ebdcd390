use Rattle.std.proofs.Common.{sym, subst}
use Rattle.glacier_bodies.specs.Stands.{Layouts}
use Rattle.glacier_store.specs.Drawn.{AreDrawn}
use Rattle.glacier_store.proofs.EventOfLemmas.{drawn_without}
use Rattle.glacier_store.proofs.committing.append.Goals as goal

pub invariant_of-result : goal.invariant_of-result
invariant_of-result g c =
    let store = c.args.store in
    record {
      drawn = subst (λ (l : Layouts). AreDrawn store.accounts l) (sym c.give_back.ensures.blobs)
          (drawn_without store.accounts store.area.blobs c.args.account.now c.args.freed.now store.drawn);
    }
