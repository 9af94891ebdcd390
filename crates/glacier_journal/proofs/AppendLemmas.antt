-- What a crash leaves in each of the two steps of an append.
use Rattle.std.proofs.Common.{◌≡◌, inl, inr, ⊎_elim, ℕ, ◌+◌, ◌-◌, ◌≤◌, min, List, [], ◌∷◌, ◌++◌, length, take, refl, sym, ◌∙◌, ap, subst, arith, length-append}
use Rattle.glacier_disk.specs.declared.area.Area.{Area}
use Rattle.glacier_disk.specs.declared.area.Area.TheVariants.{Lead}
use Rattle.glacier_disk.specs.Image.{Image, put, TornWrite, Becomes, SameBut, Only}
use Rattle.glacier_disk.specs.Moments.{LeavesOnly, started, weaker, joined}
use Rattle.glacier_disk.specs.Told.{Told, Lawful}
use Rattle.glacier_disk.proofs.TouchesLemmas.{touches_start, touches_joined}
use Rattle.glacier_journal.specs.Listed.{framed, sized, most, Lists, Picks, Payloads, Listed, AllList}
use Rattle.glacier_journal.specs.Appending.{Writing, WritesPart, Appending, Appends, IsDurable}
use Rattle.glacier_journal.proofs.PickLemmas.{picks_other}
use Rattle.glacier_journal.proofs.ListLemmas.{length-sized, open_part, tail, long, kept, staged, staged_long, torn_gate, opened}

-- the area's front stays, and Lead
pub listed_kept : (area : Area) (payloads : Payloads) (end : ℕ) (d i : Image) → Listed d area payloads end → SameBut area d i → take end (i area) ≡ take end (d area) → Listed i area payloads end
listed_kept area payloads end d i listed others same = record {
  picks = subst (λ (l : List ℕ). Picks l area) (sym (others Lead (picks_other (d Lead) area listed.picks))) listed.picks;
  lists = kept (d area) payloads end listed.lists (i area) same;
}

module _ (old mid new : Told) (area : Area) (payloads : Payloads) (end : ℕ) (lists : AllList old.leaves area payloads end) (reads_left : old.leaves old.reads) (payload : List ℕ) (short : length payload ≤ most) where
  abbrev pub P : Image → Type 0
  P = Appending old area payloads end payload

  at_start : Listed old.reads area payloads end
  at_start = lists old.reads reads_left

  -- the first step leaves the list
  stage_leaves : (n : ℕ) (i : Image) → Writing old area end n i → P i
  stage_leaves n i torn =
      let here : min end (length (old.reads area)) ≡ end = omega (arith, long (old.reads area) payloads end at_start.lists) in
      inl (record {
        from = torn.0;
        was = torn.1;
        others = torn.2.others;
        listed = listed_kept area payloads end torn.0 i (lists torn.0 torn.1) torn.2.others (subst (λ (m : ℕ). take m (i area) ≡ take m (torn.0 area)) here torn.2.before);
      })

  -- what a crash leaves in the first step
  pub staging : (n : ℕ) → LeavesOnly old mid (Writing old area end n) → LeavesOnly old mid P
  staging n so_far = weaker _ _ _ _ so_far (stage_leaves n)

  module _ (becomes : Becomes area (put end (framed payload) (old.reads area)) old.reads mid.reads) where
    mid_is : mid.reads area ≡ open_part at_start.lists.all ++ 0 ∷ tail (old.reads area) payloads end at_start.lists payload
    mid_is = becomes.content ∙ staged (old.reads area) payloads end at_start.lists payload

    lead_stays : (i : Image) → SameBut area old.reads i → Picks (i Lead) area
    lead_stays i others = subst (λ (l : List ℕ). Picks l area) (sym (others Lead (picks_other (old.reads Lead) area at_start.picks))) at_start.picks

    joins : (i : Image) → SameBut area mid.reads i → SameBut area old.reads i
    joins i others = λ other differs. others other differs ∙ becomes.others other differs

    -- the second leaves it with the payload or without
    gate_leaves : Only mid.reads mid.leaves → (i : Image) → Writing mid area (end - 1) 1 i → P i
    gate_leaves only i torn =
        let t = subst (λ (d : Image). TornWrite area (min (end - 1) (length (mid.reads area))) (end - 1 + 1) d i) (only torn.0 torn.1) torn.2 in
        let here : min (end - 1) (length (mid.reads area)) ≡ end - 1 = omega (arith, staged_long (old.reads area) payloads end at_start.lists payload (mid.reads area) mid_is) in
        let others = joins i t.others in
        let picks = lead_stays i others in
        ⊎_elim
        (λ before. inl (record { from = old.reads; was = reads_left; others = others; listed = record { picks = picks; lists = before } }))
        (λ after. inr (record { others = others; listed = record { picks = picks; lists = after } }))
        (torn_gate (old.reads area) payloads end at_start.lists payload (mid.reads area) (i area) short mid_is (subst (λ (m : ℕ). take m (i area) ≡ take m (mid.reads area)) here t.before) t.after t.no_shorter)

    -- what a crash leaves in both
    pub opening : (n : ℕ) → LeavesOnly old mid (Writing old area end n) → Only mid.reads mid.leaves → LeavesOnly mid new (Writing mid area (end - 1) 1) → LeavesOnly old new P
    opening n first only second = joined _ _ (staging n first) second (gate_leaves only)

    -- the list afterwards
    pub done : Becomes area (put (end - 1) (1 ∷ []) (mid.reads area)) mid.reads new.reads → Only new.reads new.leaves → IsDurable old new area area (payloads ++ payload ∷ []) (end + (length payload + 5))
    done opens only = record {
      only = only;
      now = record {
        others = joins new.reads opens.others;
        listed = record {
          picks = lead_stays new.reads (joins new.reads opens.others);
          lists = subst (λ (l : List ℕ). Lists l (payloads ++ payload ∷ []) (end + (length payload + 5))) (sym opens.content) (opened (old.reads area) payloads end at_start.lists payload (mid.reads area) short mid_is);
        };
      };
    }

-- the bytes of a record with its gate
pub length-framed : (payload bytes : List ℕ) → bytes ≡ framed payload → length bytes ≡ length payload + 5
length-framed payload bytes is =
    omega (arith, ap (λ (l : List ℕ). length l) is, length-append (sized payload) (0 ∷ []), length-sized payload)

-- nothing is written
pub appends_nothing : {old : Told} (area : Area) (end : ℕ) (payload : List ℕ) → Lawful old → Appends area end payload old old
appends_nothing {old = old} area end payload law = record {
  touches = touches_start area old law;
  no_longer = omega arith;
  any_moment = λ payloads lists. started old (Appending old area payloads end payload) (λ i left.
      let was = law.only_now i left in
      inl (record { from = i; was = was; others = λ other differs. refl; listed = lists i was }));
}

module _ (old mid : Told) (area : Area) (end : ℕ) (payload bytes : List ℕ) (law : Lawful old) (short : length payload ≤ most) (is : bytes ≡ framed payload) (first : WritesPart area end (length bytes) old mid) where
  -- the record is written behind the closed gate, or a part of it
  pub appends_staged : Appends area end payload old mid
  appends_staged = record {
    touches = first.touches;
    no_longer = omega (arith, length-framed payload bytes is, first.no_longer);
    any_moment = λ payloads lists. staging old mid mid area payloads end lists law.reads_left payload short (length bytes) first.any_moment;
  }

  module _ (new : Told) (written : Becomes area (put end bytes (old.reads area)) old.reads mid.reads) where
    whole : Becomes area (put end (framed payload) (old.reads area)) old.reads mid.reads
    whole = subst (λ (l : List ℕ). Becomes area (put end l (old.reads area)) old.reads mid.reads) is written

    -- and then the gate is written
    pub appends_opened : 1 ≤ end → Only mid.reads mid.leaves → WritesPart area (end - 1) 1 mid new → Appends area end payload old new
    appends_opened enough settled second = record {
      touches = touches_joined first.touches second.touches;
      no_longer = omega (arith, length-framed payload bytes is, first.no_longer, second.no_longer, enough);
      any_moment = λ payloads lists. opening old mid new area payloads end lists law.reads_left payload short whole (length bytes) first.any_moment settled second.any_moment;
    }

    -- the list with the payload
    pub acknowledged : Becomes area (put (end - 1) (1 ∷ []) (mid.reads area)) mid.reads new.reads → Only new.reads new.leaves
        → (payloads : Payloads) → AllList old.leaves area payloads end → IsDurable old new area area (payloads ++ payload ∷ []) (end + length bytes)
    acknowledged opens only payloads lists =
        subst (λ (n : ℕ). IsDurable old new area area (payloads ++ payload ∷ []) (end + n)) (sym (length-framed payload bytes is))
        (done old mid new area payloads end lists law.reads_left payload short whole opens only)
