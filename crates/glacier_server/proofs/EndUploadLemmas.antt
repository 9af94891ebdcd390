-- A body that was taken whole is ended by the store's call.
use Rattle.std.proofs.Common.{◌≡◌, ⊎_elim, subst, ℕ, ◌+◌, ◌^◌, ◌<◌, List, [], length, Option, Ok, Err, sym, ap}
use Rattle.std.specs.Int.{div_ceil}
use Rattle.glacier_disk.specs.Told.{Told}
use Rattle.glacier_extents.specs.declared.run.Run.{Run}
use Rattle.glacier_extents.specs.Places.{block_size}
use Rattle.glacier_extents.specs.Runs.{block_count}
use Rattle.glacier_journal.specs.declared.journal.Journal.{Journal}
use Rattle.glacier_machine.specs.ArchiveSteps.{archive_step}
use Rattle.glacier_machine.specs.Outcomes.{events_of}
use Rattle.glacier_vault.specs.declared.event.Event.{Event}
use Rattle.glacier_machine.specs.declared.action.Action.TheVariants as action
use Rattle.glacier_machine.specs.declared.action.Answer.{Answer}
use Rattle.glacier_store.specs.Endings.{Ends, HasEnded, room_with}
use Rattle.glacier_store.specs.Steps.{Grows, action_events}
use Rattle.glacier_store.specs.declared.fault.StoreFault.{StoreFault}
use Rattle.glacier_store.specs.declared.store.Store.{Store}
use Rattle.glacier_upload.specs.declared.asks.UploadAsk.{UploadAsk}
use Rattle.glacier_vault.specs.Accounts.{AccountEvent, account_in}
use Rattle.glacier_vault.specs.declared.rules.Rules.{Rules}
use Rattle.glacier_server.specs.declared.end.ServeFault.{ServeFault}
use Rattle.glacier_server.specs.declared.end.ServeFault.TheVariants.{Memory, JournalEnd}
use Rattle.glacier_server.specs.Events.{IsCallFault, IsFault}
use Rattle.glacier_server.specs.Rooms.{GrewBy, HasNoRoom}
use Rattle.glacier_server.specs.UploadCalls.{EndsUpload}
use Rattle.glacier_server.proofs.StoreCallLemmas.{changes_first, is_end, is_memory, stays_first}
use Rattle.glacier_server.proofs.UploadRooms.{archive_events, grew_with, no_room_with}

-- the store gives up for what stops a server
pub call_fault : (journal : Journal) (room : ℕ) (fault : StoreFault) → Grows journal room (Err fault) → IsCallFault fault
call_fault journal room fault grows =
    ⊎_elim (λ disk. subst IsCallFault (sym disk) tt)
    (λ other. ⊎_elim (λ memory. subst IsCallFault (sym memory) tt) (λ end. subst IsCallFault (sym end) tt) other)
    grows.no_other

-- the event of an upload, and that the bytes that come with it are the body
abbrev event_of : Store → Rules → ℕ → UploadAsk → List ℕ → Option Event
event_of store rules m ask body = (archive_step rules m ask body (account_in store.accounts rules.account)).answer.change.event

told_by : (store : Store) (rules : Rules) (m : ℕ) (ask : UploadAsk) (body : List ℕ)
    → action_events rules m (action.Upload ask) body store.accounts
    ≡ events_of rules.account m (event_of store rules m ask body) body
told_by store rules m ask body = archive_events rules m ask body (account_in store.accounts rules.account) rules.account

module _ {old new : Told} (store : Store) (rules : Rules) (m : ℕ) (ask : UploadAsk) (own : List Run) (body : List ℕ)
    (some : 0 < length body) (blocks : block_count own ≡ div_ceil (length body) block_size) where
  -- its event is kept
  pub ended : (after : Store) (answer : Answer) → HasEnded rules m ask body store (after, answer)
      → Ends old new store own (action_events rules m (action.Upload ask) body store.accounts) (Ok after)
      → Grows store.journal (room_with own (action_events rules m (action.Upload ask) body store.accounts)) (Ok after)
      → EndsUpload old new store own (action_events rules m (action.Upload ask) body store.accounts) (Ok (answer.reply, after))
  ended after answer done ends grows = record {
    accounts = done.accounts;
    grew = subst (λ (l : List AccountEvent). GrewBy store.journal.length after.journal.length l) (sym (told_by store rules m ask body))
        (grew_with own rules.account m body some blocks store.journal.length after.journal.length (event_of store rules m ask body)
        (subst (λ (l : List AccountEvent). after.journal.length ≡ store.journal.length + room_with own l) (told_by store rules m ask body) grows.longer));
    any_moment = λ state held. changes_first state (action_events rules m (action.Upload ask) body store.accounts) (ends.any_moment state held);
    kept = λ state held beside. ends.kept state held beside;
    memory = λ state held never. absurd (cc);
    end = λ length never. absurd (cc);
  }

  -- or a fault broke the server off
  pub ended_broken : (fault : StoreFault) (other : ServeFault) → IsFault fault other
      → Ends old new store own (action_events rules m (action.Upload ask) body store.accounts) (Err fault)
      → Grows store.journal (room_with own (action_events rules m (action.Upload ask) body store.accounts)) (Err fault)
      → EndsUpload old new store own (action_events rules m (action.Upload ask) body store.accounts) (Err other)
  ended_broken fault other is ends grows = record {
    accounts = tt;
    grew = tt;
    any_moment = λ state held. changes_first state (action_events rules m (action.Upload ask) body store.accounts) (ends.any_moment state held);
    kept = λ state held beside. tt;
    memory = λ state held same. let at : other ≡ Memory = cc in
        stays_first state [] (ends.memory state held (ap Err (is_memory fault other is at)));
    end = λ length same.
        let at : other ≡ JournalEnd length = cc in
        let why = ap Err (is_end fault other length is at) in (
          (grows.end length why).0,
          subst (λ (l : List AccountEvent). HasNoRoom length l) (sym (told_by store rules m ask body))
              (no_room_with own rules.account m body some blocks length (event_of store rules m ask body)
              (subst (λ (l : List AccountEvent). 2 ^ 62 < length + room_with own l) (told_by store rules m ask body) (grows.end length why).1)
              (subst (λ (l : List AccountEvent). 0 < room_with own l) (told_by store rules m ask body) (grows.some length why))),
        );
  }
