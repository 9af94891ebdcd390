-- Bytes at a place, before and after a write elsewhere.
use Rattle.std.proofs.Common.{◌≡◌, ℕ, ◌+◌, ◌-◌, ◌*◌, ◌<◌, ◌≤◌, min, Bool, true, nat_eq, List, length, take, drop, refl, sym, ◌∙◌, ap, ⊎_elim, arith, eq-eqb}
use Rattle.std.proofs.lemmas.List.{take-take, drop-take, drop-drop}
use Rattle.glacier_disk.specs.declared.area.Area.{Area}
use Rattle.glacier_disk.specs.declared.area.Area.TheVariants.{Blobs}
use Rattle.glacier_disk.specs.Image.{Image, put, Becomes, TornWrite, Follows}
use Rattle.glacier_disk.specs.Log.{with_area}
use Rattle.glacier_disk.specs.LogLaws.{becomes, put_torn}
use Rattle.glacier_disk.specs.Told.{Told}
use Rattle.glacier_disk.specs.Moments.{started, goes_on, joined, weaker}
use Rattle.glacier_disk.specs.Calls.{TimePasses}
use Rattle.glacier_extents.specs.Places.{block_size, HasAt, WritesOnly, WritesBlocks}

-- below a front that stays
pub at_before : (s place : ℕ) (bytes old new : List ℕ) → take s new ≡ take s old → place + length bytes ≤ s
    → HasAt place bytes old → HasAt place bytes new
at_before s place bytes old new same le has =
    let n : ℕ = length bytes in
    let in_new : drop place (take (place + n) new) ≡ take n (drop place new) = drop-take place n new in
    let in_old : drop place (take (place + n) old) ≡ take n (drop place old) = drop-take place n old in
    let fronts : take (place + n) new ≡ take (place + n) old =
    sym (take-take (place + n) s new le) ∙ ap (take (place + n)) same ∙ take-take (place + n) s old le in
    sym in_new ∙ ap (drop place) fronts ∙ in_old ∙ has

-- behind a place from which all stays
pub at_after : (e place : ℕ) (bytes old new : List ℕ) → drop e new ≡ drop e old → e ≤ place → HasAt place bytes old
    → HasAt place bytes new
at_after e place bytes old new same le has =
    let sum : e + (place - e) ≡ place = omega arith in
    let backs : drop place new ≡ drop place old =
    ap (λ k. drop k new) (sym sum) ∙ sym (drop-drop (place - e) e new) ∙ ap (drop (place - e)) same ∙ drop-drop (place - e) e old ∙ ap (λ k. drop k old) sum in
    ap (take (length bytes)) backs ∙ has

-- a write that was done is one that may be torn
pub done_torn : (area : Area) (place : ℕ) (bytes : List ℕ) (old new : Image)
    → Becomes area (put place bytes (old area)) old new
    → TornWrite area (min place (length (old area))) (place + length bytes) old new
done_torn area place bytes old new done =
    let made : Image = with_area area (put place bytes (old area)) old in
    let torn : TornWrite area (min place (length (old area))) (place + length bytes) old made = put_torn area place bytes old in
    let same : new area ≡ made area = done.content ∙ sym (becomes area (put place bytes (old area)) old) in
    record {
      before = ap (take (min place (length (old area)))) same ∙ torn.before;
      after = ap (drop (place + length bytes)) same ∙ torn.after;
      no_shorter = omega (arith, ap length same, torn.no_shorter);
      no_longer = omega (arith, ap length same, torn.no_longer);
      others = done.others;
    }

-- a torn write at the start of a block, of no more than the block's bytes, in a disk that reads so many bytes
pub torn_block : (block n end : ℕ) (old new : Image) → n ≤ block_size → 0 < n
    → TornWrite Blobs (min (block * block_size) end) (block * block_size + n) old new
    → WritesOnly (nat_eq block) end old new
torn_block block n end old new small some torn =
    let own : nat_eq block block ≡ true = eq-eqb block block refl in
    record {
      others = torn.others;
      stays = λ place bytes within clear has. ⊎_elim
          (λ below. at_before (min (block * block_size) end) place bytes (old Blobs) (new Blobs) torn.before (omega (arith, below, within)) has)
          (λ above. at_after (block * block_size + n) place bytes (old Blobs) (new Blobs) torn.after (omega (arith, above, small)) has)
          (clear block own);
      no_longer = λ m high. omega (arith, high block own, torn.no_longer, small);
    }

-- nothing written
pub nothing_written : (own : ℕ → Bool) (end : ℕ) (i : Image) → WritesOnly own end i i
nothing_written own end i = record { others = λ other differs. refl; stays = λ place bytes within clear has. has; no_longer = λ n high. omega arith }

-- one write after another, of a disk that reads no fewer bytes
pub written_on : (own : ℕ → Bool) (end later : ℕ) (old mid new : Image) → end ≤ later → WritesOnly own end old mid
    → WritesOnly own later mid new → WritesOnly own end old new
written_on own end later old mid new grows first second = record {
  others = λ other differs. second.others other differs ∙ first.others other differs;
  stays = λ place bytes within clear has. second.stays place bytes (omega (arith, within, grows)) clear (first.stays place bytes within clear has);
  no_longer = λ n high. omega (arith, first.no_longer n high, second.no_longer n high);
}

-- blocks of which more are the own ones
pub written_wider : (own more : ℕ → Bool) (end : ℕ) (old new : Image) → ((b : ℕ) → own b ≡ true → more b ≡ true)
    → WritesOnly own end old new → WritesOnly more end old new
written_wider own more end old new wider written = record {
  others = written.others;
  stays = λ place bytes within clear has. written.stays place bytes within (λ b is. clear b (wider b is)) has;
  no_longer = λ n high. written.no_longer n (λ b is. high b (wider b is));
}

-- before the first write
pub blocks_start : (own : ℕ → Bool) (old : Told) → ((i : Image) → old.left old.moment i → old.leaves i)
    → WritesBlocks own old old
blocks_start own old only = record {
  reads = nothing_written own (length (old.reads Blobs)) old.reads;
  no_shorter = omega arith;
  crash = λ i now. (i, now, nothing_written own (length (old.reads Blobs)) i);
  moments = started old _ (λ i left. (i, only i left, nothing_written own (length (old.reads Blobs)) i));
}

-- one stretch of writes after another
pub blocks_on : (own : ℕ → Bool) (old mid new : Told) → WritesBlocks own old mid → WritesBlocks own mid new
    → WritesBlocks own old new
blocks_on own old mid new first second =
    let end : ℕ = length (old.reads Blobs) in
    let later : ℕ = length (mid.reads Blobs) in
    let step : (i : Image) → ((d : Image) × mid.leaves d × WritesOnly own later d i) → (d : Image) × old.leaves d × WritesOnly own end d i =
    λ i (m, leaves, to). (let from : (d : Image) × old.leaves d × WritesOnly own end d m = first.crash m leaves in
    (from.0, from.1, written_on own end later from.0 m i first.no_shorter from.2 to)) in
    record {
      reads = written_on own end later old.reads mid.reads new.reads first.no_shorter first.reads second.reads;
      no_shorter = omega (arith, first.no_shorter, second.no_shorter);
      crash = λ i now. step i (second.crash i now);
      moments = joined _ _ first.moments second.moments step;
    }

pub blocks_wider : (own more : ℕ → Bool) (old new : Told) → ((b : ℕ) → own b ≡ true → more b ≡ true)
    → WritesBlocks own old new → WritesBlocks more old new
blocks_wider own more old new wider written =
    let end : ℕ = length (old.reads Blobs) in
    let step : (i : Image) → ((d : Image) × old.leaves d × WritesOnly own end d i) → (d : Image) × old.leaves d × WritesOnly more end d i =
    λ i (d, leaves, to). (d, leaves, written_wider own more end d i wider to) in
    record {
      reads = written_wider own more end old.reads new.reads wider written.reads;
      no_shorter = written.no_shorter;
      crash = λ i now. step i (written.crash i now);
      moments = weaker old new _ _ written.moments step;
    }

-- one write of the disk
pub blocks_write : (block n : ℕ) (old new : Told) → n ≤ block_size → 0 < n
    → ((i : Image) → old.left old.moment i → old.leaves i)
    → TornWrite Blobs (min (block * block_size) (length (old.reads Blobs))) (block * block_size + n) old.reads new.reads
    → Follows (TornWrite Blobs (min (block * block_size) (length (old.reads Blobs))) (block * block_size + n)) old.leaves new.leaves
    → TimePasses old new → WritesBlocks (nat_eq block) old new
blocks_write block n old new small some only read crash time =
    let own : ℕ → Bool = nat_eq block in
    let end : ℕ = length (old.reads Blobs) in
    let step : (i : Image) → new.leaves i → (d : Image) × old.leaves d × WritesOnly own end d i =
    λ i now. (let from : (d : Image) × old.leaves d × TornWrite Blobs (min (block * block_size) end) (block * block_size + n) d i = crash i now in
    (from.0, from.1, torn_block block n end from.0 i small some from.2)) in
    record {
      reads = torn_block block n end old.reads new.reads small some read;
      no_shorter = read.no_shorter;
      crash = step;
      moments = goes_on old old new _ (started old _ (λ i left. (i, only i left, nothing_written own end i))) time step;
    }
