use Rattle.std.proofs.Common.{ℕ, List, length, drop, sym, ◌∙◌, ap}
use Rattle.glacier_disk.specs.PieceSizes.{bounded}
use Rattle.glacier_disk.proofs.PieceBounds.{piece_size}
use Rattle.glacier_disk.proofs.memory_station.MemStationStation.receive.Goals as goal

pub returns-in-Ok-clause-piece : goal.returns-in-Ok-clause-piece
returns-in-Ok-clause-piece c =
    let network = c.args.self.now.network in
    let room = length c.args.into.now in
    let pieces = drop network.received network.pieces in
    let limit = c.next_room-limit.ensures.bounded ∙ ap (λ (l : List ℕ). bounded (drop network.received l) room) c.as_slice-pieces.ensures in
    let same = c.as_slice-pieces-in-Ok.ensures in
    record {
      size = piece_size pieces room c.next_room-limit.result c.in-Ok.count limit c.in-Ok.ensures.size;
      next = ap (λ (l : List ℕ). drop c.one_used-self.result l) (sym same) ∙ c.one_used-self.ensures ∙ ap (λ (l : List ℕ). drop 1 (drop network.received l)) same;
      kept = tt;
    }
