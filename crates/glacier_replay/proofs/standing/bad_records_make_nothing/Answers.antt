use Rattle.glacier_replay.proofs.MadeLemmas.{bad_makes_none}
use Rattle.glacier_replay.proofs.standing.bad_records_make_nothing.Goals as goal

pub returns : goal.returns
returns c payloads at accounts layouts bad makes = bad_makes_none payloads at (record { accounts = accounts; layouts = layouts }) bad makes
