use Rattle.std.proofs.Common.{◌≡◌, rules, Err, List, [], refl, sym, ap, subst, arith}
use Rattle.std.specs.Prelude.{Result}
use Rattle.glacier_extents.specs.declared.run.Run.{Run}
use Rattle.glacier_records.specs.Room.{EventHasRoom}
use Rattle.glacier_records.specs.Spells.{Spells}
use Rattle.glacier_vault.specs.Accounts.{account_in}
use Rattle.glacier_replay.specs.Changes.{with_new}
use Rattle.glacier_replay.specs.Made.{record_of}
use Rattle.glacier_replay.specs.Replayed.{replayed}
use Rattle.glacier_replay.proofs.CounterLemmas.{of_replayed}
use Rattle.glacier_replay.proofs.Options.{there_is}
use Rattle.glacier_store.specs.Calls.{event_at}
use Rattle.glacier_store.proofs.EventOfLemmas.{no_new, none_open, rest_alone}
use Rattle.glacier_store.proofs.CommitLemmas.{kept_by_append, kept_without_memory}
use Rattle.glacier_store.proofs.RoomLemmas.{no_body, no_leaf, plain_room}
use Rattle.glacier_store.specs.declared.fault.StoreFault.{StoreFault}
use Rattle.glacier_store.specs.declared.fault.StoreFault.TheVariants.{Memory}
use Rattle.glacier_store.specs.declared.store.Store.{Store}
use Rattle.glacier_store.proofs.store.Store.keep.Goals as goal

pub record_frame-requires-clause-room : goal.record_frame-requires-clause-room
record_frame-requires-clause-room g c =
    let event = c.args.event.now in
    let a = c.requires.fits.0 in
    subst (λ (runs : List Run). EventHasRoom event runs) (sym c.new-runs.ensures)
    (there_is (replayed a c.args.m event) c.requires.fits.1 (λ p is. plain_room a c.args.m event p (of_replayed a c.args.m event p is).1 c.requires.plain))

pub record_frame-requires-clause-leaves : goal.record_frame-requires-clause-leaves
record_frame-requires-clause-leaves g c = omega (arith, no_leaf c.args.event.now c.requires.plain)

pub returns-in_err-frame-clause-keeps : goal.returns-in_err-frame-clause-keeps
returns-in_err-frame-clause-keeps g c t before event =
    let is : ◌≡◌ {A = Result Store StoreFault} c.from_residual.result (Err Memory) = search rules in
    kept_without_memory (g.D.Disk.told c.args.disk.now) c.args.self.journal c.args.self.area [] before _ c.from_residual.result is (g.met.D.Disk.lawful t c.args.disk.now)

pub returns-clause-keeps : goal.returns-clause-keeps
returns-clause-keeps g c t before event =
    let h = event_at c.args.account.now c.args.m c.args.event.now [] in
    let area = c.args.self.area in
    let frame = c.in_ok-frame.frame in
    kept_by_append (g.D.Disk.told c.args.disk.now) (g.D.Disk.told c.append.new.disk) c.args.self.journal area [] before h c.args.self.accounts c.args.freed.now frame
    (g.met.D.Disk.lawful t c.args.disk.now) event
    (subst (λ (runs : List Run). Spells frame (record_of h runs)) c.new-runs.ensures c.in_ok-frame.ensures)
    (none_open area) (sym (no_leaf c.args.event.now c.requires.plain)) (no_body c.args.event.now c.requires.plain) refl
    area (sym (ap (λ new. with_new area.blobs c.args.account.now new) (no_new (account_in before.accounts c.args.account.now).counter c.args.event.now [] c.requires.plain)))
    (λ apart. apart) (rest_alone area.free area.blobs) (c.append.ensures.appends t) c.append.result (c.append.ensures.acknowledged t) c.append.ensures.accounts c.append.ensures.area c.append.ensures.no_memory
