-- What each call of the journal makes of what is told.
use Rattle.std.specs.Prelude.{◌≡◌, ◌⊎◌, ◌↔◌, ℕ, ◌+◌, ◌<◌, ◌^◌, true, Some, None, Result, OnOk, IfErr, IsErrOf}
use Rattle.glacier_base.specs.Outside.{one_more}
use Rattle.glacier_disk.specs.declared.area.Area.{Area}
use Rattle.glacier_disk.specs.Image.{Only}
use Rattle.glacier_disk.specs.Moments.{Looks}
use Rattle.glacier_disk.specs.Told.{Told}
use Rattle.glacier_journal.specs.declared.fault.JournalFault.{JournalFault}
use Rattle.glacier_journal.specs.declared.fault.JournalFault.TheVariants.{Disk, NotAJournal, NotEmpty, End}
use Rattle.glacier_journal.specs.Breaks.{Breaks, BreaksAt, areas, first_full}
use Rattle.glacier_journal.specs.Listed.{IsNew}

-- the disk stays open, and its count of faults rises by one where the call answers Disk, and else stays
pub record JournalCall {T : Type 0} (old new : Told) (result : Result T JournalFault) : Type 0 where
  pub opened : new.opened ≡ true
  pub disk : IsErrOf result Disk → new.disk_faults ≡ one_more old.disk_faults
  pub no_disk : (IsErrOf result Disk → ⊥) → new.disk_faults ≡ old.disk_faults

-- a record that takes so many bytes is refused exactly where the list of this length would end past 2^62
pub record EndsAt {T : Type 0} (length more : ℕ) (result : Result T JournalFault) : Type 0 where
  pub end : IsErrOf result (End length) ↔ (2 ^ 62 < length + more)
  pub no_other : IfErr result (λ fault. (fault ≡ Disk) ⊎ (fault ≡ End length))

-- reading the list in an area changes nothing, and NotAJournal names the place that breaks it
pub record ReadsList {T : Type 0} (area : Area) (old new : Told) (result : Result T JournalFault) : Type 0 where
  pub looks : Looks old new
  pub breaks : (other : Area) (at : ℕ) → IsErrOf result (NotAJournal other at)
      → (other ≡ area) × BreaksAt (old.reads area) at

-- opening changes nothing; where it answers Ok a crash from now on leaves what is read, and NotAJournal names the first
-- place that breaks it
pub record Opens {T : Type 0} (old new : Told) (result : Result T JournalFault) : Type 0 where
  pub looks : Looks old new
  pub durable : OnOk result (Only old.reads new.leaves)
  pub not_a_journal : (area : Area) (at : ℕ) → IsErrOf result (NotAJournal area at) → Breaks old.reads area at

-- creation asks that all areas are empty, and where one isn't it names the first and changes nothing, whatever it
-- answers; what it makes is a new list, durably
pub record Creates {T : Type 0} (old new : Told) (result : Result T JournalFault) : Type 0 where
  pub empty : OnOk result (first_full old.reads areas ≡ None)
  pub made : OnOk result (IsNew new.reads)
  pub durable : OnOk result (Only new.reads new.leaves)
  pub not_empty : (area : Area) (size : ℕ) → IsErrOf result (NotEmpty area size)
      → first_full old.reads areas ≡ Some (area, size)
  pub untouched : (first_full old.reads areas ≡ None → ⊥) → Looks old new
