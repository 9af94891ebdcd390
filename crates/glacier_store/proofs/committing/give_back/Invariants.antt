use Rattle.std.proofs.Common.{◌≡◌, List, drop}
use Rattle.glacier_bodies.specs.BlobAreas.{IsOpen}
use Rattle.glacier_bodies.specs.Stands.{AreApart}
use Rattle.glacier_extents.specs.declared.run.Run.{Run}
use Rattle.glacier_replay.specs.Changes.{without_blobs}
use Rattle.glacier_replay.specs.Made.{IsRest}
use Rattle.glacier_store.proofs.committing.give_back.Given as goal

abbrev pub invariant-loop-number : goal.invariant-loop-number
invariant-loop-number l = record {
  blobs : without_blobs l.area.blobs l.account (drop l.number-index l.numbers) ≡ without_blobs l.fn.area.blobs l.account l.numbers;
  apart : AreApart l.fn.area.blobs → AreApart l.area.blobs;
  rest : AreApart l.fn.area.blobs → IsRest l.fn.area.free l.fn.area.blobs → IsRest l.area.free l.area.blobs;
  others : (runs : List Run) → IsOpen l.fn.area runs → IsOpen l.area runs;
}
