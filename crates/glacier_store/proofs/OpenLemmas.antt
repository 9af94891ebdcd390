-- What opening a store answers, and what making one does.
use Rattle.std.specs.FinMap as map
use Rattle.std.proofs.Common.{◌≡◌, ◌⊎◌, inl, inr, ⊎_elim, ℕ, ◌<◌, true, List, [], Some, None, Ok, Err, ◌∙◌, sym, ap, subst}
use Rattle.std.specs.Prelude.{◌↔◌}
use Rattle.glacier_bodies.specs.Stands.{Layouts, at_blob}
use Rattle.glacier_bodies.proofs.NameLemmas.{no_blob_at}
use Rattle.glacier_disk.specs.declared.area.Area.{Area}
use Rattle.glacier_disk.specs.declared.area.Area.TheVariants.{Blobs}
use Rattle.glacier_disk.specs.Image.{Image, Only}
use Rattle.glacier_disk.specs.Moments.{Looks}
use Rattle.glacier_disk.specs.Told.{Told}
use Rattle.glacier_extents.specs.declared.run.Run.{Run}
use Rattle.glacier_extents.specs.FreeRuns.{blocks}
use Rattle.glacier_extents.specs.Runs.{has_block}
use Rattle.glacier_journal.specs.Breaks.{Breaks}
use Rattle.glacier_journal.specs.Listed.{Listed, Payloads}
use Rattle.glacier_journal.specs.declared.fault.JournalFault.{JournalFault}
use Rattle.glacier_journal.specs.declared.fault.JournalFault.TheVariants as journal
use Rattle.glacier_journal.specs.declared.journal.Journal.{Journal}
use Rattle.glacier_journal.proofs.OneList.{breaks_none, one_list}
use Rattle.glacier_vault.specs.Accounts.{Accounts}
use Rattle.glacier_replay.specs.Changes.{State}
use Rattle.glacier_replay.specs.Made.{Holdings, IsRest, Makes, nothing}
use Rattle.glacier_replay.specs.Standing.{IsStateOf, Stands}
use Rattle.glacier_replay.proofs.MadeLemmas.{bad_makes_none, leads_one}
use Rattle.glacier_replay.proofs.RestLemmas.{rest_empty}
use Rattle.glacier_replay.proofs.ReadStates.{none_kept}
use Rattle.glacier_store.specs.Drawn.{AreDrawn}
use Rattle.glacier_store.specs.Faults.{store_fault}
use Rattle.glacier_store.specs.Kept.{IsHeldBy, Kept, ListsBadRecord, Reads, Refuses}
use Rattle.glacier_store.specs.Calls.{Opens, no_state}
use Rattle.glacier_store.specs.declared.fault.StoreFault.{StoreFault}
use Rattle.glacier_store.specs.declared.fault.StoreFault.TheVariants as fault
use Rattle.glacier_store.specs.declared.store.Store.{Store}
use Rattle.glacier_store.proofs.KeptLemmas.{only_held}

-- what is refused can't be read
pub refused_reads_none : (i : Image) (area : Area) (at : ℕ) (accounts : Accounts) → Refuses i area at → Reads i accounts → ⊥
refused_reads_none i area at accounts refused reads =
    ⊎_elim
    (λ breaks. breaks_none i area reads.area at reads.end reads.payloads breaks reads.listed)
    (λ (bad : ListsBadRecord i area at).
    let same = one_list i reads.area area reads.payloads bad.payloads reads.end bad.end reads.listed bad.listed in
    bad_makes_none bad.payloads at (record { accounts = accounts; layouts = reads.layouts }) bad.record_is
    (subst (λ (l : Payloads). Makes l accounts reads.layouts) same.1 reads.made))
    refused

abbrev IsRefusal : JournalFault → Type 0
IsRefusal failure = (area : Area) × (at : ℕ) × (failure ≡ journal.NotAJournal area at)

module _ (old new : Told) (looks : Looks old new) where
  -- a store is found, and it is that of the state that the disk stands for
  module _ (h : Store) (payloads : Payloads) (listed : Listed old.reads h.journal.area payloads h.journal.length) (made : Makes payloads h.accounts h.area.blobs)
      (rest : IsRest h.area.free h.area.blobs) (only : Only old.reads new.leaves) where
    kept : (state : State) → Stands old.reads state → Kept new h state
    kept state stands =
        let lists = one_list old.reads stands.area h.journal.area stands.payloads payloads stands.end h.journal.length stands.listed listed in
        let is : IsStateOf payloads stands.layouts (old.reads Blobs) state = subst (λ (l : Payloads). IsStateOf l stands.layouts (old.reads Blobs) state) lists.1 stands.state_is in
        let same : ◌≡◌ {A = Holdings} (record { accounts = h.accounts; layouts = h.area.blobs }) (record { accounts = state.accounts; layouts = stands.layouts }) = leads_one payloads nothing _ _ made is.made in
        let layouts : stands.layouts ≡ h.area.blobs = sym (ap (λ (x : Holdings). x.layouts) same) in
        record {
          accounts = ap (λ (x : Holdings). x.accounts) same;
          held = only_held old.reads new h.journal payloads h.area.blobs state only listed (subst (λ (l : Layouts). IsStateOf payloads l (old.reads Blobs) state) layouts is);
          rest = rest;
        }

    found : (accounts : Accounts) → Reads old.reads accounts → h.accounts ≡ accounts
    found accounts reads =
        let lists = one_list old.reads reads.area h.journal.area reads.payloads payloads reads.end h.journal.length reads.listed listed in
        let is : Makes payloads accounts reads.layouts = subst (λ (l : Payloads). Makes l accounts reads.layouts) lists.1 reads.made in
        let same : ◌≡◌ {A = Holdings} (record { accounts = h.accounts; layouts = h.area.blobs }) (record { accounts = accounts; layouts = reads.layouts }) = leads_one payloads nothing _ _ made is in
        ap (λ (x : Holdings). x.accounts) same

    pub opened : Opens old new (Ok h)
    opened = record {
      reads = record { payloads = payloads; listed = listed; made = made };
      refuses = λ area at is. absurd (cc is);
      found = found;
      kept = kept;
      not_refused = λ accounts reads. tt;
      looks = looks;
    }

  -- the disk is refused
  pub unread : (area : Area) (at : ℕ) → Refuses old.reads area at → Opens old new (Err (fault.NotAJournal area at))
  unread area at refuses = record {
    reads = tt;
    refuses = λ other place is.
        let area_is : area ≡ other = cc is in
        let at_is : at ≡ place = cc is in
        subst (λ (a : Area). Refuses old.reads a place) area_is (subst (λ (n : ℕ). Refuses old.reads area n) at_is refuses);
    found = λ accounts reads. tt;
    kept = λ state stands. tt;
    not_refused = λ accounts reads. absurd (refused_reads_none old.reads area at accounts refuses reads);
    looks = looks;
  }

  -- a call of the disk failed, or memory was wanting
  pub gave_up : (why : StoreFault) → (why ≡ fault.Disk) ⊎ (why ≡ fault.Memory) → Opens old new (Err why)
  gave_up why cause = record {
    reads = tt;
    refuses = λ area at is. absurd (⊎_elim (λ e. cc (is, e)) (λ e. cc (is, e)) cause);
    found = λ accounts reads. tt;
    kept = λ state stands. tt;
    not_refused = λ accounts reads. cause;
    looks = looks;
  }

  -- the journal wasn't opened
  pub no_journal : (failure : JournalFault) (why : StoreFault) → why ≡ store_fault failure
      → (failure ≡ journal.Disk) ⊎ ((failure ≡ journal.Memory) ⊎ IsRefusal failure)
      → ((area : Area) (at : ℕ) → failure ≡ journal.NotAJournal area at → Breaks old.reads area at)
      → Opens old new (Err why)
  no_journal failure why is cause breaks =
      ⊎_elim
      (λ (e : failure ≡ journal.Disk). gave_up why (inl (is ∙ ap store_fault e)))
      (⊎_elim
      (λ (e : failure ≡ journal.Memory). gave_up why (inr (is ∙ ap store_fault e)))
      (λ (e : IsRefusal failure).
      subst (λ (w : StoreFault). Opens old new (Err w)) (sym (is ∙ ap store_fault e.2))
      (unread e.0 e.1 (inl (breaks e.0 e.1 e.2)))))
      cause

-- a new list holds the state of no account
pub new_held : (new : Told) (found : Journal) (layouts : Layouts) → Only new.reads new.leaves → Listed new.reads found.area [] found.length → layouts ≡ map.empty
    → IsHeldBy new found layouts no_state
new_held new found layouts only listed none =
    only_held new.reads new found [] layouts no_state only listed
    (subst (λ (l : Layouts). IsStateOf [] l (new.reads Blobs) no_state) (sym none) (none_kept (new.reads Blobs)))

-- and all blocks are free
pub new_rest : (free : List Run) (layouts : Layouts) → ((b : ℕ) → (has_block free b ≡ true) ↔ (b < blocks)) → layouts ≡ map.empty → IsRest free layouts
new_rest free layouts all none = subst (λ (l : Layouts). IsRest free l) (sym none) (rest_empty free all)

-- no blob has a number
pub none_drawn : (accounts : Accounts) (layouts : Layouts) → layouts ≡ map.empty → AreDrawn accounts layouts
none_drawn accounts layouts none account number runs there =
    let clash : None ≡ Some runs = sym (no_blob_at account number) ∙ ap (λ (l : Layouts). at_blob l account number) (sym none) ∙ there in
    cc
