-- What is held on a disk, and what an event that is appended makes of it.
use Rattle.std.proofs.Common.{◌≡◌, ◌≢◌, inl, inr, ⊎_elim, ℕ, ◌+◌, ◌==◌, Bool, true, false, List, [], ◌∷◌, ◌++◌, length, if◌then◌else◌, sym, ◌∙◌, subst}
use Rattle.glacier_bodies.specs.Blobs.{Holds}
use Rattle.glacier_bodies.specs.Stands.{Layouts}
use Rattle.glacier_disk.specs.declared.area.Area.{Area}
use Rattle.glacier_disk.specs.declared.area.Area.TheVariants.{Lead, Left, Right, Blobs}
use Rattle.glacier_disk.specs.Image.{Image, NoMore, Only}
use Rattle.glacier_disk.specs.Moments.{started, weaker}
use Rattle.glacier_disk.specs.Told.{Told, Lawful}
use Rattle.glacier_extents.specs.declared.run.Run.{Run}
use Rattle.glacier_journal.specs.Appending.{Appends, IsDurable, NowLists, StillLists}
use Rattle.glacier_journal.specs.Listed.{Listed, Payloads, Picks}
use Rattle.glacier_journal.specs.declared.journal.Journal.{Journal}
use Rattle.glacier_records.specs.Spells.{Spells}
use Rattle.glacier_vault.specs.Lawful.{IsLawful}
use Rattle.glacier_vault.specs.Accounts.{account_in, AccountEvent}
use Rattle.glacier_replay.specs.Changes.{IsBodyOf, State, after_account_event}
use Rattle.glacier_replay.specs.Made.{EventFits, after_event, record_of}
use Rattle.glacier_replay.specs.Standing.{IsStateOf, Stands}
use Rattle.glacier_replay.proofs.StateLemmas.{state_after}
use Rattle.glacier_store.specs.Kept.{Changes, IsHeld, IsHeldBy, Kept, Stays}
use Rattle.glacier_store.specs.declared.store.Store.{Store}

-- a list stands in another area than the blobs
pub picks_blobs : (bytes : List ℕ) (area : Area) → Picks bytes area → Blobs ≢ area
picks_blobs [] area none = absurd none
picks_blobs (b ∷ rest) area is = λ blobs. not_blobs (b == 0) (blobs ∙ is)
  where
    not_blobs : (t : Bool) → Blobs ≡ (if t then Left else Right) → ⊥
    not_blobs true same = cc same
    not_blobs false same = cc same

listed_stands : (i : Image) (area : Area) (payloads : Payloads) (end : ℕ) (layouts : Layouts) (state : State) → Listed i area payloads end
    → IsStateOf payloads layouts (i Blobs) state → Stands i state
listed_stands i area payloads end layouts state listed is = record {
  area = area;
  payloads = payloads;
  end = end;
  layouts = layouts;
  listed = listed;
  state_is = is;
}

-- what is held stands
pub kept_stands : (disk : Told) (journal : Journal) (layouts : Layouts) (state : State) → IsHeldBy disk journal layouts state → (i : Image) → disk.leaves i → Stands i state
kept_stands disk journal layouts state held i left = listed_stands i journal.area held.payloads journal.length layouts state (held.listed i left) (held.state_is i left)

-- a store that is kept is held
pub kept_held : {disk : Told} {store : Store} {state : State} → Kept disk store state → IsHeld disk store state
kept_held kept = record { accounts = kept.accounts; held = kept.held }

-- and stays held where a crash leaves no other image
pub held_rests : (old new : Told) (journal : Journal) (layouts : Layouts) (state : State) → NoMore old.leaves new.leaves → IsHeldBy old journal layouts state → IsHeldBy new journal layouts state
held_rests old new journal layouts state rests held = record {
  payloads = held.payloads;
  listed = λ i now. held.listed i (rests i now);
  state_is = λ i now. held.state_is i (rests i now);
}

-- before the first call of the disk
pub stays_start : (old : Told) (journal : Journal) (layouts : Layouts) (state : State) → Lawful old → IsHeldBy old journal layouts state → Stays old old state
stays_start old journal layouts state law held = started old (λ i. Stands i state) (λ i left. kept_stands old journal layouts state held i (law.only_now i left))

-- on a disk of which only what is read is left
pub only_held : (reads : Image) (new : Told) (journal : Journal) (payloads : Payloads) (layouts : Layouts) (state : State) → Only reads new.leaves
    → Listed reads journal.area payloads journal.length → IsStateOf payloads layouts (reads Blobs) state → IsHeldBy new journal layouts state
only_held reads new journal payloads layouts state only listed is = record {
  payloads = payloads;
  listed = λ i left. subst (λ (j : Image). Listed j journal.area payloads journal.length) (sym (only i left)) listed;
  state_is = λ i left. subst (λ (j : Image). IsStateOf payloads layouts (j Blobs) state) (sym (only i left)) is;
}

-- the runs of the blobs after an event
abbrev pub layouts_after : State → Layouts → AccountEvent → List Run → Layouts
layouts_after state layouts h runs = (after_event (record { accounts = state.accounts; layouts = layouts }) h.account h.moment h.event runs).layouts

module _ (old new : Told) (journal : Journal) (layouts : Layouts) (state : State) (h : AccountEvent) (runs : List Run) (payload : List ℕ) (law : Lawful old)
    (spells : Spells payload (record_of h runs)) (lawful : IsLawful (account_in state.accounts h.account))
    (fits : EventFits (record { accounts = state.accounts; layouts = layouts }) h.account h.moment h.event runs)
    (body_is : IsBodyOf h.event h.body) (stored : Holds runs h.body (old.reads Blobs)) where
  module _ (held : IsHeldBy old journal layouts state) where
    elsewhere : Blobs ≢ journal.area
    elsewhere = picks_blobs (old.reads Lead) journal.area (held.listed old.reads law.reads_left).picks

    -- what the disk reads has the bytes of the state after the event
    state_now : IsStateOf (held.payloads ++ payload ∷ []) (layouts_after state layouts h runs) (old.reads Blobs) (after_account_event state h)
    state_now = state_after held.payloads payload layouts (old.reads Blobs) state h runs lawful (held.state_is old.reads law.reads_left) spells fits body_is stored

    still : (i : Image) → StillLists old.leaves journal.area journal.area held.payloads journal.length i → Stands i state
    still i lists = listed_stands i journal.area held.payloads journal.length layouts state lists.listed
        (subst (λ (content : List ℕ). IsStateOf held.payloads layouts content state) (sym (lists.others Blobs elsewhere)) (held.state_is lists.from lists.was))

    now : (i : Image) → NowLists old.reads journal.area journal.area (held.payloads ++ payload ∷ []) (journal.length + (length payload + 5)) i → Stands i (after_account_event state h)
    now i lists = listed_stands i journal.area (held.payloads ++ payload ∷ []) (journal.length + (length payload + 5)) (layouts_after state layouts h runs) (after_account_event state h) lists.listed
        (subst (λ (content : List ℕ). IsStateOf (held.payloads ++ payload ∷ []) (layouts_after state layouts h runs) content (after_account_event state h)) (sym (lists.others Blobs elsewhere)) state_now)

    -- a crash leaves the state before the event or the one after it
    pub becomes : Appends journal.area journal.length payload old new → Changes old new state (after_account_event state h)
    becomes appends = weaker old new _ _ (appends.any_moment held.payloads held.listed) (λ i. ⊎_elim
        (λ (lists : StillLists old.leaves journal.area journal.area held.payloads journal.length i). inl (still i lists))
        (λ (lists : NowLists old.reads journal.area journal.area (held.payloads ++ payload ∷ []) (journal.length + (length payload + 5)) i). inr (now i lists)))

    -- and once it is acknowledged, the one after it
    pub held_on : (next : Journal) → IsDurable old new journal.area next.area (held.payloads ++ payload ∷ []) next.length → IsHeldBy new next (layouts_after state layouts h runs) (after_account_event state h)
    held_on next durable = only_held new.reads new next (held.payloads ++ payload ∷ []) (layouts_after state layouts h runs) (after_account_event state h) durable.only durable.now.listed
        (subst (λ (content : List ℕ). IsStateOf (held.payloads ++ payload ∷ []) (layouts_after state layouts h runs) content (after_account_event state h)) (sym (durable.now.others Blobs elsewhere)) state_now)
