-- A store that is kept stands on the disk, and stays kept where no image changes.
use Rattle.std.proofs.Common.{List, [], ◌++◌, Ok, Err, refl}
use Rattle.glacier_disk.specs.Calls.{Rests}
use Rattle.glacier_disk.specs.Image.{Image}
use Rattle.glacier_disk.specs.Moments.{started}
use Rattle.glacier_disk.specs.Told.{Told, Lawful}
use Rattle.glacier_replay.specs.Changes.{State}
use Rattle.glacier_replay.specs.Standing.{Stands}
use Rattle.glacier_vault.specs.Accounts.{AccountEvent}
use Rattle.glacier_server.specs.declared.end.ServeFault.TheVariants.{Memory}
use Rattle.glacier_server.specs.Events.{KeepsEvents, KeepsFirst}
use Rattle.glacier_server.specs.Placed.{IsKept, Placed}
use Rattle.glacier_server.proofs.RoomLemmas.{grew_none}
use Rattle.glacier_store.specs.Kept.{Kept}
use Rattle.glacier_store.specs.declared.store.Store.{Store}
use Rattle.glacier_store.proofs.KeptLemmas.{held_rests, kept_stands}

pub stands : (disk : Told) (placed : Placed) → IsKept disk placed → (i : Image) → disk.leaves i → Stands i placed.state
stands disk placed kept = kept_stands disk placed.store.journal placed.store.area.blobs placed.state kept.held

pub still_kept : (old new : Told) (placed : Placed) → Rests old new → IsKept old placed → IsKept new placed
still_kept old new placed rests kept = record {
  accounts = kept.accounts;
  held = held_rests old new placed.store.journal placed.store.area.blobs placed.state rests.crash kept.held;
  rest = kept.rest;
}

-- where a crash leaves the state before, it leaves the one after no event
pub none_first : {disk : Told} → Lawful disk → (store : Store) (state : State) (events : List AccountEvent)
    → Kept disk store state → KeepsFirst disk disk state events
none_first {disk = disk} law store state events kept =
    started _ _ (λ i left. record {
      count = 0;
      stands = kept_stands disk store.journal store.area.blobs state kept.held i (law.only_now i left);
    })

-- no call of the store
pub no_events : {T : Type 0} {disk : Told} → Lawful disk → (store : Store) (x : T)
    → KeepsEvents disk disk store [] [] (Ok (x, store))
no_events law store x = record {
  accounts = refl;
  grew = grew_none store.journal.length;
  any_moment = λ state. none_first law store state [];
  kept = λ state kept. kept;
  memory = λ state kept never. absurd (cc);
  end = λ length never. absurd (cc);
}

-- nor was there memory for one
pub no_memory : {T : Type 0} {disk : Told} → Lawful disk → (store : Store) (passed done : List AccountEvent)
    → KeepsEvents {T = T} disk disk store passed done (Err Memory)
no_memory law store passed done = record {
  accounts = tt;
  grew = tt;
  any_moment = λ state. none_first law store state (passed ++ done);
  kept = λ state kept. tt;
  memory = λ state kept same. none_first law store state passed kept;
  end = λ length never. absurd (cc);
}
