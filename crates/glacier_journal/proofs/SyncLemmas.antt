-- Writes in an area, moment by moment, and one with a sync behind it.
use Rattle.std.proofs.Common.{ℕ, ◌+◌, ◌-◌, ◌≤◌, max, List, ◌++◌, length, take, drop, replicate, Result, sym, subst, arith, length-append, length-drop}
use Rattle.std.proofs.lemmas.List.{length-take, length-replicate}
use Rattle.glacier_disk.specs.declared.area.Area.{Area}
use Rattle.glacier_disk.specs.Calls.{Rests}
use Rattle.glacier_disk.specs.DiskCalls.{Cuts, Writes}
use Rattle.glacier_disk.specs.Image.{Image, Becomes, put, padded, write_self}
use Rattle.glacier_disk.specs.Moments.{started, goes_on}
use Rattle.glacier_disk.specs.Time.{rests-elapses}
use Rattle.glacier_disk.specs.Told.{Told, Lawful}
use Rattle.glacier_disk.proofs.Results.{by_result}
use Rattle.glacier_disk.proofs.TouchesLemmas.{touches_start, touches_cut, touches_write, touches_rests}
use Rattle.glacier_journal.specs.Appending.{Writing, WritesPart, WritesUpTo}

-- bytes that are put at a place end there, or where the old ones do
length-put : (place : ℕ) (bytes xs : List ℕ) → length (put place bytes xs) ≤ max (length xs) (place + length bytes)
length-put place bytes xs =
    omega (
      arith,
      length-append (padded place xs ++ bytes) (drop (place + length bytes) xs),
      length-append (padded place xs) bytes,
      length-append (take place xs) (replicate (place - length xs) 0),
      length-take place xs,
      length-replicate {A = ℕ} (place - length xs) 0,
      length-drop (place + length bytes) xs,
    )

becomes_no_longer : (area : Area) (place : ℕ) (bytes : List ℕ) (old new : Image) → Becomes area (put place bytes (old area)) old new
    → length (new area) ≤ max (length (old area)) (place + length bytes)
becomes_no_longer area place bytes old new becomes =
    subst (λ (l : List ℕ). length l ≤ max (length (old area)) (place + length bytes)) (sym becomes.content) (length-put place bytes (old area))

write_no_longer : {T E : Type 0} {result : Result T E} {old new : Told} {area : Area} {place : ℕ} {bytes : List ℕ}
    → Writes area place bytes old new result → length (new.reads area) ≤ max (length (old.reads area)) (place + length bytes)
write_no_longer {result = result} {old = old} {new = new} {area = area} {place = place} {bytes = bytes} writes =
    by_result result writes.written writes.part (becomes_no_longer area place bytes old.reads new.reads) (λ torn. torn.no_longer)

-- before the first write
pub up_to_start : {old : Told} (area : Area) (end : ℕ) → Lawful old → WritesUpTo area end old old
up_to_start area end law = record { touches = touches_start area _ law; no_longer = omega arith }

-- one write more, that doesn't end past the place
pub up_to_write : {T E : Type 0} {result : Result T E} {old mid new : Told} {area : Area} {end place : ℕ} {bytes : List ℕ}
    → WritesUpTo area end old mid → place + length bytes ≤ end → Writes area place bytes mid new result → WritesUpTo area end old new
up_to_write so_far within writes = record {
  touches = touches_write so_far.touches writes;
  no_longer = omega (arith, so_far.no_longer, within, write_no_longer writes);
}

-- one cut more
pub up_to_cut : {T E : Type 0} {result : Result T E} {old mid new : Told} {area : Area} {end n : ℕ}
    → WritesUpTo area end old mid → Cuts area n mid new result → WritesUpTo area end old new
up_to_cut {result = result} {mid = mid} {new = new} {area = area} {n = n} so_far cuts =
    let shorter : length (new.reads area) ≤ length (mid.reads area) = by_result result cuts.cut cuts.part
    (λ becomes. subst (λ (l : List ℕ). length l ≤ length (mid.reads area)) (sym becomes.content) (omega (arith, length-take n (mid.reads area))))
    (λ torn. torn.no_longer) in
    record { touches = touches_cut so_far.touches cuts; no_longer = omega (arith, so_far.no_longer, shorter) }

-- a write alone
pub after_write : {T E : Type 0} {result : Result T E} {old new : Told} {area : Area} {place : ℕ} {bytes : List ℕ}
    → Lawful old → Writes area place bytes old new result → WritesPart area place (length bytes) old new
after_write {old = old} {new = new} {area = area} {place = place} {bytes = bytes} law writes =
    let P = Writing old area place (length bytes) in
    record {
      touches = touches_write (touches_start area old law) writes;
      no_longer = write_no_longer writes;
      any_moment = goes_on old old new P (started old P (λ i left. (i, law.only_now i left, write_self area _ _ i))) writes.time writes.crash;
    }

-- and a sync behind it
pub after_sync : {old mid new : Told} {area : Area} {place count : ℕ}
    → WritesPart area place count old mid → ((i : Image) → mid.leaves i → Writing old area place count i) → Rests mid new → WritesPart area place count old new
after_sync {old = old} {mid = mid} {new = new} {area = area} {place = place} {count = count} part now rests = record {
  touches = touches_rests part.touches rests;
  no_longer = subst (λ (i : Image). length (i area) ≤ max (length (old.reads area)) (place + count)) (sym rests.same) part.no_longer;
  any_moment = goes_on old mid new (Writing old area place count) part.any_moment (rests-elapses rests) (λ i left. now i (rests.crash i left));
}
