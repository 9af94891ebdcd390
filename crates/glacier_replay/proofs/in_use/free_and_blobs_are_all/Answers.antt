use Rattle.glacier_replay.proofs.InUseLemmas.{free_and_blobs}
use Rattle.glacier_replay.proofs.in_use.free_and_blobs_are_all.Goals as goal

pub returns : goal.returns
returns c = free_and_blobs
