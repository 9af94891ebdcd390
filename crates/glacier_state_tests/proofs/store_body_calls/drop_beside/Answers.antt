use Rattle.glacier_bodies.specs.Bodies.{body_runs}
use Rattle.glacier_bodies.proofs.SoundLemmas.{apart_both}
use Rattle.glacier_state_tests.proofs.store_body_calls.drop_beside.Goals as goal

pub returns : goal.returns
returns c =
    c.drop_body.ensures.released.others (body_runs c.args.other.now) c.requires.other
    (apart_both (body_runs c.args.other.now) (body_runs c.args.body) c.requires.apart)
