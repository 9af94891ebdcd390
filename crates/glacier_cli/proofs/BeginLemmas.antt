-- A store that is made, or opened, in a folder.
use Rattle.std.proofs.Common.{◌≡◌, ◌⊎◌, ◌++◌, ◌∷◌, [], ℕ, Bool, List, true, false, inl, inr, ⊎_elim, refl, sym, subst, ◌∙◌}
use Rattle.std.specs.Prelude.{Result, Ok, Err, IfErr, IfOk, None}
use Rattle.glacier_disk.specs.Calls.{Rests}
use Rattle.glacier_disk.specs.declared.area.Area.{Area}
use Rattle.glacier_disk.specs.Image.{Image}
use Rattle.glacier_disk.specs.Moments.{Looks, looks_start, looks_on, looks_joined}
use Rattle.glacier_disk.specs.Told.{Told, Lawful}
use Rattle.glacier_journal.specs.Breaks.{areas, first_full}
use Rattle.glacier_replay.specs.Changes.{State}
use Rattle.glacier_store.specs.Calls.{Creates, Opens}
use Rattle.glacier_store.specs.Kept.{HoldsNothing, Kept}
use Rattle.glacier_store.specs.declared.fault.StoreFault.{StoreFault}
use Rattle.glacier_store.specs.declared.fault.StoreFault.TheVariants as fault
use Rattle.glacier_store.specs.declared.store.Store.{Store}
use Rattle.glacier_cli.specs.Beginning.{Begins, BeginsIn, Finds, HasNoStore, IsSpared, Starts, StartsFrom, of_store}

-- why a store isn't made
abbrev pub IsNotMade : StoreFault → Type 0
IsNotMade why = (why ≡ fault.Disk) ⊎ ((why ≡ fault.Memory) ⊎ ((area : Area) × (size : ℕ) × (why ≡ fault.NotEmpty area size)))

never_refused : {P : Type 0} (why : StoreFault) (area : Area) (at : ℕ) → IsNotMade why → why ≡ fault.NotAJournal area at → P
never_refused why area at (inl is) not = absurd (cc)
never_refused why area at (inr (inl is)) not = absurd (cc)
never_refused why area at (inr (inr (other, size, is))) not = absurd (cc)

-- in empty areas only the disk and want of memory keep a store from being made
made_in_order : {old new : Told} (why : StoreFault) → IsNotMade why → Creates old new (Err why) → first_full old.reads areas ≡ None
    → (why ≡ fault.Disk) ⊎ (why ≡ fault.Memory)
made_in_order why (inl is) creates order = inl is
made_in_order why (inr (inl is)) creates order = inr is
made_in_order (fault.NotEmpty area size) (inr (inr (other, most, is))) creates order =
    let full = creates.not_empty area size refl in absurd (cc)
made_in_order fault.Disk (inr (inr (other, most, is))) creates order = inl refl
made_in_order fault.Memory (inr (inr (other, most, is))) creates order = inr refl
made_in_order (fault.NotAJournal area at) (inr (inr (other, most, is))) creates order = absurd (cc)
made_in_order (fault.End length) (inr (inr (other, most, is))) creates order = absurd (cc)

-- a store that is made
pub created : {old new : Told} (result : Result Store StoreFault) → IfErr result IsNotMade
    → IfOk result HoldsNothing → Creates old new result → Begins true old new result
created {new = new} (Ok it) other nothing creates = record {
  kept = λ state from. subst (λ (s : State). Kept new it s) (sym from.1) creates.kept;
  starts = ((creates.empty, nothing.accounts), nothing.length);
  found = λ accounts from. nothing.accounts ∙ sym from.1;
  refuses = λ area at is. absurd (cc);
  full = creates.not_empty;
  in_order = λ order. tt;
  looks = ⊎_elim (λ is. absurd (cc)) creates.untouched;
}
created (Err why) other nothing creates = record {
  kept = λ state from. tt;
  starts = tt;
  found = λ accounts from. tt;
  refuses = λ area at is. let same : why ≡ fault.NotAJournal area at = cc in never_refused why area at other same;
  full = creates.not_empty;
  in_order = made_in_order why other creates;
  looks = ⊎_elim (λ is. absurd (cc)) creates.untouched;
}

-- why a store isn't opened
abbrev pub IsNotOpened : StoreFault → Type 0
IsNotOpened why = (why ≡ fault.Disk) ⊎ ((why ≡ fault.Memory) ⊎ ((area : Area) × (at : ℕ) × (why ≡ fault.NotAJournal area at)))

never_full : {P : Type 0} (why : StoreFault) (area : Area) (size : ℕ) → IsNotOpened why → why ≡ fault.NotEmpty area size → P
never_full why area size (inl is) full = absurd (cc)
never_full why area size (inr (inl is)) full = absurd (cc)
never_full why area size (inr (inr (other, at, is))) full = absurd (cc)

-- a store that is opened
pub opened : {old new : Told} (result : Result Store StoreFault) → IfErr result IsNotOpened → Opens old new result
    → Begins false old new result
opened {old = old} (Ok it) other opens = record {
  kept = opens.kept;
  starts = (
    record {
      area = it.journal.area;
      payloads = opens.reads.payloads;
      end = it.journal.length;
      layouts = it.area.blobs;
      listed = opens.reads.listed;
      made = opens.reads.made;
    },
    (opens.reads.payloads, opens.reads.listed),
  );
  found = opens.found;
  refuses = opens.refuses;
  full = λ area size is. absurd (cc);
  in_order = λ order. tt;
  looks = λ _. opens.looks;
}
opened (Err why) other opens = record {
  kept = λ state stands. tt;
  starts = tt;
  found = λ accounts reads. tt;
  refuses = opens.refuses;
  full = λ area size is. let same : why ≡ fault.NotEmpty area size = cc in never_full why area size other same;
  in_order = λ order. opens.not_refused order.0 order.1;
  looks = λ _. opens.looks;
}

-- why no store stands there
why_not : {is_new : Bool} (mid new : Told) (why : StoreFault) → Begins is_new mid new (Err why)
    → HasNoStore is_new mid.reads (of_store why)
why_not mid new fault.Disk b = tt
why_not mid new fault.Memory b = tt
why_not mid new (fault.NotAJournal area at) b =
    (λ order. ⊎_elim (λ is. absurd (cc)) (λ is. absurd (cc)) (b.in_order order), b.refuses area at refl)
why_not mid new (fault.NotEmpty area size) b =
    (λ order. ⊎_elim (λ is. absurd (cc)) (λ is. absurd (cc)) (b.in_order order), b.full area size refl)
why_not mid new (fault.End length) b = tt

-- what was opened and only looked at
looked : {is_new : Bool} (old mid new : Told) → Lawful old → Rests old mid → (IsSpared is_new mid.reads → Looks mid new)
    → IsSpared is_new old.reads → Looks old new
looked {is_new = is_new} old mid new law rests looks spared =
    looks_joined old mid new (looks_on old old mid (looks_start old law) rests)
    (looks (subst (λ (image : Image). IsSpared is_new image) (sym rests.same) spared))

module _ {is_new : Bool} {folder : List ℕ} (old mid new : Told) (law : Lawful old) (rests : Rests old mid)
    (folders : new.folders ≡ old.folders ++ folder ∷ []) where
  pub begins_in : (it : Store) → Begins is_new mid new (Ok it) → BeginsIn is_new folder old new (Ok it)
  begins_in it b = record {
    opens = folders;
    at_most = inr folders;
    kept = λ state from. b.kept state (subst (λ (image : Image). StartsFrom is_new image state) (sym rests.same) from);
    starts = subst (λ (image : Image). Starts is_new image it) rests.same b.starts;
    found = λ accounts from. b.found accounts (subst (λ (image : Image). Finds is_new image accounts) (sym rests.same) from);
    why = tt;
    looks = looked old mid new law rests b.looks;
  }

  pub begins_not : (why : StoreFault) → Begins is_new mid new (Err why) → BeginsIn is_new folder old new (Err (of_store why))
  begins_not why b = record {
    opens = tt;
    at_most = inr folders;
    kept = λ state from. tt;
    starts = tt;
    found = λ accounts from. tt;
    why = subst (λ (image : Image). HasNoStore is_new image (of_store why)) rests.same (why_not mid new why b);
    looks = looked old mid new law rests b.looks;
  }
