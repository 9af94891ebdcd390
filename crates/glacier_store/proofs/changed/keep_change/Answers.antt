use Rattle.std.proofs.Common.{List, ℕ, [], subst}
use Rattle.glacier_replay.specs.Changes.{after_account_event}
use Rattle.glacier_store.specs.Calls.{IsEventOf, Commits, event_at}
use Rattle.glacier_store.proofs.AdvanceLemmas.{none_keeps, some_keeps}
use Rattle.glacier_store.proofs.changed.keep_change.Goals as goal

pub returns-in-None-clause-keeps : goal.returns-in-None-clause-keeps
returns-in-None-clause-keeps g c t before is =
    let change = c.args.change.now in
    none_keeps c.args.account.now c.args.m change.freed (g.D.Disk.told c.args.disk.now) c.args.store before change.event c.in-None.is (g.met.D.Disk.lawful t c.args.disk.now) is

pub returns-in-Some-clause-keeps : goal.returns-in-Some-clause-keeps
returns-in-Some-clause-keeps g c t before is =
    let change = c.args.change.now in
    let h = event_at c.args.account.now c.args.m c.in-Some.event [] in
    let old = g.D.Disk.told c.args.disk.now in
    let new = g.D.Disk.told c.keep.new.disk in
    let store = c.args.store in
    some_keeps c.args.account.now c.args.m change.freed old new store before change.event c.in-Some.event c.keep.result c.in-Some.is is
    (subst (λ (freed : List ℕ). IsEventOf before.accounts store.accounts h freed → Commits old new store.journal store.area [] before (after_account_event before h) c.keep.result)
    c.as_slice.ensures (c.keep.ensures.keeps t before))
