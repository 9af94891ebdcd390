-- Stretches of calls that write in one area, or spare one, call by call and one after the other.
use Rattle.std.specs.Prelude.{◌≢◌, ℕ, List, Result, refl}
use Rattle.std.proofs.Common.{◌∙◌, ap}
use Rattle.glacier_disk.specs.declared.area.Area.{Area}
use Rattle.glacier_disk.specs.Calls.{TimePasses, Rests}
use Rattle.glacier_disk.specs.DiskCalls.{Writes, Cuts}
use Rattle.glacier_disk.specs.Image.{Image, SameBut}
use Rattle.glacier_disk.specs.Moments.{goes_on, joined, started, weaker}
use Rattle.glacier_disk.specs.Time.{rests-elapses}
use Rattle.glacier_disk.specs.Told.{Told, Lawful}
use Rattle.glacier_disk.specs.Touches.{LikeBut, Touches, Spares}
use Rattle.glacier_disk.proofs.Results.{by_result}

-- before the first call
pub touches_start : (area : Area) (old : Told) → Lawful old → Touches area old old
touches_start area old law = record {
  others = λ other differs. refl;
  crash = λ i now. (i, now, λ other differs. refl);
  moments = started old (LikeBut old area) (λ i left. (i, law.only_now i left, λ other differs. refl));
}

like_like : {old mid : Told} {area : Area} → Touches area old mid → (i : Image) → LikeBut mid area i → LikeBut old area i
like_like so_far i (d, left, same) =
    let before = so_far.crash d left in
    (before.0, before.1, λ other differs. same other differs ∙ before.2 other differs)

-- one call more
pub touches_on : {old mid new : Told} {area : Area} → Touches area old mid → SameBut area mid.reads new.reads
    → ((i : Image) → new.leaves i → LikeBut mid area i) → TimePasses mid new → Touches area old new
touches_on so_far others crash time = record {
  others = λ other differs. others other differs ∙ so_far.others other differs;
  crash = λ i now. like_like so_far i (crash i now);
  moments = goes_on _ _ _ _ so_far.moments time (λ i now. like_like so_far i (crash i now));
}

-- one that changes no image
pub touches_rests : {old mid new : Told} {area : Area} → Touches area old mid → Rests mid new → Touches area old new
touches_rests so_far rests =
    touches_on so_far (λ other differs. let same = rests.same in ap (λ (i : Image). i other) same)
    (λ i now. (i, rests.crash i now, λ other differs. refl)) (rests-elapses rests)

-- a write in the area
pub touches_write : {T E : Type 0} {result : Result T E} {old mid new : Told} {area : Area} {place : ℕ} {bytes : List ℕ}
    → Touches area old mid → Writes area place bytes mid new result → Touches area old new
touches_write {result = result} so_far writes =
    touches_on so_far (by_result result writes.written writes.part (λ becomes. becomes.others) (λ torn. torn.others))
    (λ i now. let torn = writes.crash i now in (torn.0, torn.1, torn.2.others)) writes.time

-- a cut of the area
pub touches_cut : {T E : Type 0} {result : Result T E} {old mid new : Told} {area : Area} {n : ℕ}
    → Touches area old mid → Cuts area n mid new result → Touches area old new
touches_cut {result = result} so_far cuts =
    touches_on so_far (by_result result cuts.cut cuts.part (λ becomes. becomes.others) (λ torn. torn.others))
    (λ i now. let torn = cuts.crash i now in (torn.0, torn.1, torn.2.others)) cuts.time

-- one stretch after another
pub touches_joined : {old mid new : Told} {area : Area} → Touches area old mid → Touches area mid new → Touches area old new
touches_joined first second = record {
  others = λ other differs. second.others other differs ∙ first.others other differs;
  crash = λ i now. like_like first i (second.crash i now);
  moments = joined _ _ first.moments second.moments (λ i like. like_like first i like);
}

-- calls that write in another area
pub spares_touches : {old new : Told} {area : Area} (other : Area) → other ≢ area → Touches area old new → Spares other old new
spares_touches other differs touches = record {
  reads = touches.others other differs;
  crash = λ i now. let like = touches.crash i now in (like.0, like.1, like.2 other differs);
  moments = weaker _ _ _ _ touches.moments (λ i like. (like.0, like.1, like.2 other differs));
}

-- one stretch that spares it after another
pub spares_joined : {old mid new : Told} {area : Area} → Spares area old mid → Spares area mid new → Spares area old new
spares_joined first second = record {
  reads = second.reads ∙ first.reads;
  crash = λ i now. let like = second.crash i now in let before = first.crash like.0 like.1 in (before.0, before.1, like.2 ∙ before.2);
  moments = joined _ _ first.moments second.moments (λ i like. let before = first.crash like.0 like.1 in (before.0, before.1, like.2 ∙ before.2));
}
