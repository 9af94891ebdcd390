use Rattle.std.proofs.Common.{◌≡◌, rules, Err, List, length, ◌∙◌, sym, ap, subst, arith}
use Rattle.std.proofs.lemmas.Result.{IfOk-weaker}
use Rattle.std.specs.Prelude.{Result}
use Rattle.glacier_extents.specs.declared.run.Run.{Run}
use Rattle.glacier_extents.specs.FreeRuns.{blocks}
use Rattle.glacier_bodies.specs.BlobAreas.{with_blob}
use Rattle.glacier_bodies.specs.Stands.{AreApart, Layouts}
use Rattle.glacier_records.specs.Room.{EventHasRoom}
use Rattle.glacier_records.specs.Spells.{Spells}
use Rattle.glacier_vault.specs.Accounts.{account_in}
use Rattle.glacier_replay.specs.Changes.{with_new}
use Rattle.glacier_replay.specs.Made.{IsRest, record_of}
use Rattle.glacier_replay.proofs.RestLemmas.{apart_with}
use Rattle.glacier_store.specs.Drawn.{AreDrawn}
use Rattle.glacier_store.specs.Calls.{event_at}
use Rattle.glacier_store.proofs.EventOfLemmas.{drawn_with, its_new, rest_named}
use Rattle.glacier_store.proofs.CommitLemmas.{kept_by_append, kept_without_memory}
use Rattle.glacier_store.proofs.OpenBodies.{has_named}
use Rattle.glacier_store.proofs.RoomLemmas.{body_room, runs_few}
use Rattle.glacier_store.specs.declared.fault.StoreFault.{StoreFault}
use Rattle.glacier_store.specs.declared.fault.StoreFault.TheVariants.{Memory}
use Rattle.glacier_store.specs.declared.store.Store.{Store}
use Rattle.glacier_store.proofs.store.Store.keep_body.Goals as goal

pub record_frame-requires-clause-room : goal.record_frame-requires-clause-room
record_frame-requires-clause-room g c =
    subst (λ (runs : List Run). EventHasRoom c.args.event.now runs) (sym c.runs.ensures.runs)
    (body_room blocks c.args.event.now c.args.layout blocks c.requires.body c.requires.free.distinct c.requires.count (omega (arith, c.count.ensures.count, c.count.ensures.bound)) (omega arith))

pub record_frame-requires-clause-leaves : goal.record_frame-requires-clause-leaves
record_frame-requires-clause-leaves g c = omega (arith, c.requires.count, c.count.ensures.count, c.count.ensures.bound)

pub record_frame-requires-clause-runs : goal.record_frame-requires-clause-runs
record_frame-requires-clause-runs g c =
    omega (arith, ap (λ (runs : List Run). length runs) c.runs.ensures.runs, runs_few blocks c.args.layout c.requires.free.distinct, c.count.ensures.count, c.count.ensures.bound)

pub invariant_of-append : goal.invariant_of-append
invariant_of-append g c =
    let held = c.args.self in
    record {
      drawn = subst (λ (l : Layouts). AreDrawn held.accounts l) (sym c.in_ok-name_blob.ensures.ok)
          (drawn_with held.accounts held.area.blobs c.args.account.now c.args.number c.args.layout held.drawn c.requires.drawn);
    }

pub returns-in_err-frame-clause-keeps : goal.returns-in_err-frame-clause-keeps
returns-in_err-frame-clause-keeps g c t before body event counter its stored =
    let is : ◌≡◌ {A = Result Store StoreFault} c.from_residual.result (Err Memory) = search rules in
    kept_without_memory (g.D.Disk.told c.args.disk.now) c.args.self.journal c.args.self.area c.args.layout before _ c.from_residual.result is (g.met.D.Disk.lawful t c.args.disk.now)

pub returns-in_err-name_blob-clause-keeps : goal.returns-in_err-name_blob-clause-keeps
returns-in_err-name_blob-clause-keeps g c t before body event counter its stored =
    let is : ◌≡◌ {A = Result Store StoreFault} c.from_residual-in_err-name_blob.result (Err Memory) = search rules in
    kept_without_memory (g.D.Disk.told c.args.disk.now) c.args.self.journal c.args.self.area c.args.layout before _ c.from_residual-in_err-name_blob.result is (g.met.D.Disk.lawful t c.args.disk.now)

pub returns-clause-keeps : goal.returns-clause-keeps
returns-clause-keeps g c t before body event counter its stored =
    let account = c.args.account.now in
    let h = event_at account c.args.m c.args.event.now body in
    let area = c.args.self.area in
    let own = c.args.layout in
    let frame = c.in_ok-frame.frame in
    let named = c.name_blob.new.self in
    kept_by_append (g.D.Disk.told c.args.disk.now) (g.D.Disk.told c.append.new.disk) c.args.self.journal area own before h c.args.self.accounts c.args.freed.now frame
    (g.met.D.Disk.lawful t c.args.disk.now) event
    (subst (λ (runs : List Run). Spells frame (record_of h runs)) c.runs.ensures.runs c.in_ok-frame.ensures)
    c.requires.free c.requires.count its stored named
    (c.in_ok-name_blob.ensures.ok
    ∙ ap (λ n. with_blob area.blobs account n own) counter
    ∙ sym (ap (λ new. with_new area.blobs account new) (its_new (account_in before.accounts account).counter c.args.event.now own c.requires.body)))
    (λ apart. subst AreApart (sym c.in_ok-name_blob.ensures.ok) (apart_with area.blobs account c.args.number own apart c.requires.free.distinct c.requires.free.unnamed))
    (λ beside. subst (λ (l : Layouts). IsRest named.free l) (sym c.in_ok-name_blob.ensures.ok)
    (subst (λ (f : List Run). IsRest f (with_blob area.blobs account c.args.number own)) (sym c.name_blob.ensures.free)
    (rest_named own area.free area.blobs account c.args.number c.requires.fresh beside)))
    (c.append.ensures.appends t) c.append.result (c.append.ensures.acknowledged t) c.append.ensures.accounts c.append.ensures.area c.append.ensures.no_memory

pub returns-clause-area : goal.returns-clause-area
returns-clause-area g c =
    IfOk-weaker c.append.result _ _
    (λ (done : Store) freed. has_named c.args.self.area c.name_blob.new.self done.area c.args.account.now c.args.number c.args.layout c.args.freed.now
    c.name_blob.ensures.free c.in_ok-name_blob.ensures.ok freed)
    c.append.ensures.area
