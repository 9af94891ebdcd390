-- A new list beside the old one.
use Rattle.std.proofs.Common.{◌≡◌, ◌≢◌, ◌⊎◌, inl, inr, ⊎_elim, ℕ, ◌+◌, ◌-◌, ◌≤◌, ◌==◌, min, Bool, true, false, List, [], ◌∷◌, ◌++◌, length, take, if◌then◌else◌, refl, sym, ◌∙◌, ap, subst, arith}
use Rattle.glacier_disk.specs.declared.area.Area.{Area}
use Rattle.glacier_disk.specs.declared.area.Area.TheVariants.{Lead, Left, Right}
use Rattle.glacier_disk.specs.Image.{Image, put, TornWrite, Becomes, Only}
use Rattle.glacier_disk.specs.Calls.{Rests}
use Rattle.glacier_disk.specs.Moments.{LeavesOnly, started, goes_on, joined}
use Rattle.glacier_disk.specs.Time.{rests-elapses}
use Rattle.glacier_disk.specs.Told.{Told, Lawful}
use Rattle.glacier_journal.specs.Listed.{header, framed, most, Lists, Picks, Payloads, Listed, AllList}
use Rattle.glacier_journal.specs.Appending.{Writing, StillLists, NowLists}
use Rattle.glacier_journal.specs.Sides.{other_side}
use Rattle.glacier_journal.proofs.PickLemmas.{picks_other}
use Rattle.glacier_journal.proofs.ListLemmas.{staged, opened}

-- a list of nothing
pub begun : (old mid new : Image) (area : Area) → Becomes area (take 0 (old area)) old mid → Becomes area (put 0 (header ++ 0 ∷ []) (mid area)) mid new → Lists (new area) [] 17
begun old mid new area first second =
    let is : new area ≡ header ++ 0 ∷ [] = second.content ∙ ap (put 0 (header ++ 0 ∷ [])) first.content in
    record { all = []; rest = []; spelled = is; are_open = tt; payloads_are = refl; end_is = refl }

-- a payload more
pub added : (old mid new : Image) (area : Area) (payloads : Payloads) (end : ℕ) (payload : List ℕ) → length payload ≤ most → Lists (old area) payloads end → Becomes area (put end (framed payload) (old area)) old mid → Becomes area (put (end - 1) (1 ∷ []) (mid area)) mid new → Lists (new area) (payloads ++ payload ∷ []) (end + (length payload + 5))
added old mid new area payloads end payload short lists first second =
    let mid_is = first.content ∙ staged (old area) payloads end lists payload in
    subst (λ (l : List ℕ). Lists l (payloads ++ payload ∷ []) (end + (length payload + 5))) (sym second.content) (opened (old area) payloads end lists payload (mid area) short mid_is)

-- a byte picks the one side or the other
which : (u t : Bool) (picked area : Area) → picked ≡ (if u then Left else Right) → area ≡ other_side picked → (picked ≡ (if t then Left else Right)) ⊎ (area ≡ (if t then Left else Right))
which true true picked area is other = inl is
which true false picked area is other = inr (other ∙ ap other_side is)
which false true picked area is other = inr (other ∙ ap other_side is)
which false false picked area is other = inl is

either_side : (lead other_lead : List ℕ) (picked area : Area) → Picks lead picked → area ≡ other_side picked → length lead ≤ length other_lead → Picks other_lead picked ⊎ Picks other_lead area
either_side [] other_lead picked area picks other long = absurd picks
either_side (b ∷ rest) [] picked area picks other long = absurd (omega arith)
either_side (b ∷ rest) (c ∷ more) picked area picks other long = which (b == 0) (c == 0) picked area picks other

module _ (old mid new : Told) (picked area : Area) (olds news : Payloads) (end far : ℕ) (other : area ≡ other_side picked) (lists : AllList old.leaves picked olds end) (written : Lists (old.reads area) news far) (reads_left : old.leaves old.reads) (only : Lawful old) (rests : Rests old mid) where
  abbrev pub P : Image → Type 0
  P i = StillLists old.leaves Lead picked olds end i ⊎ NowLists old.reads Lead area news far i

  still : (i : Image) → old.leaves i → P i
  still i left = inl (record { from = i; was = left; others = λ o differs. refl; listed = lists i left })

  -- before Lead is written
  pub turning_not : LeavesOnly old mid P
  turning_not = goes_on _ _ _ _ (started old P (λ i left. still i (only.only_now i left))) (rests-elapses rests) (λ i now. still i (rests.crash i now))

  at_start : Listed old.reads picked olds end
  at_start = lists old.reads reads_left

  not_lead : Lead ≢ area
  not_lead same = at (old.reads Lead) at_start.picks
    where
      at : (lead : List ℕ) → Picks lead picked → ⊥
      at [] none = none
      at (b ∷ rest) is = by (b == 0) is
        where
          by : (t : Bool) → picked ≡ (if t then Left else Right) → ⊥
          by true is = let l : Lead ≡ Right = same ∙ other ∙ ap other_side is in cc l
          by false is = let l : Lead ≡ Left = same ∙ other ∙ ap other_side is in cc l

  torn : Only old.reads mid.leaves → (i : Image) → Writing mid Lead 0 1 i → P i
  torn settled i (d, left, tears) =
      let t = subst (λ (j : Image). TornWrite Lead (min 0 (length (mid.reads Lead))) 1 j i) (settled d left) tears in
      let sides = either_side (old.reads Lead) (i Lead) picked area at_start.picks other t.no_shorter in
      ⊎_elim
      (λ (old_side : Picks (i Lead) picked).
      let same : i picked ≡ old.reads picked = t.others picked (λ p. picks_other (old.reads Lead) picked at_start.picks (sym p)) in
      inl (record { from = old.reads; was = reads_left; others = t.others; listed = record { picks = old_side; lists = subst (λ (l : List ℕ). Lists l olds end) (sym same) at_start.lists } }))
      (λ (new_side : Picks (i Lead) area).
      let same : i area ≡ old.reads area = t.others area (λ p. not_lead (sym p)) in
      inr (record { others = t.others; listed = record { picks = new_side; lists = subst (λ (l : List ℕ). Lists l news far) (sym same) written } }))
      sides

  -- while Lead is written
  pub turning : Only old.reads mid.leaves → LeavesOnly mid new (Writing mid Lead 0 1) → LeavesOnly old new P
  turning settled second = joined _ _ turning_not second (torn settled)
