use Rattle.std.proofs.Common.{Some, List, ℕ, length, subst}
use Rattle.glacier_treehash.specs.Leaves.{leaves_of}
use Rattle.glacier_replay.specs.Changes.{after_account_event}
use Rattle.glacier_store.specs.Calls.{Commits, IsEventOf, event_at}
use Rattle.glacier_store.proofs.EndLemmas.{named_stays, none_ends, none_fills, some_ends, some_fills}
use Rattle.glacier_store.proofs.ending.keep_or_release.Goals as goal

pub returns-in-None-clause-stays : goal.returns-in-None-clause-stays
returns-in-None-clause-stays g c = record { accounts = c.given_back.ensures.same.accounts; others = c.given_back.ensures.released.others }

pub returns-in-None-clause-keeps : goal.returns-in-None-clause-keeps
returns-in-None-clause-keeps g c t before body is counter stored =
    let change = c.args.change.now in
    none_ends c.args.account.now c.args.m change.freed (g.D.Disk.told c.args.disk.now) c.args.store c.given_back.result c.args.layout before body
    (Some (length body, leaves_of body)) change.event c.in-None.is (g.met.D.Disk.lawful t c.args.disk.now) is c.given_back.ensures.same c.given_back.ensures.rest

pub returns-in-None-clause-grows : goal.returns-in-None-clause-grows
returns-in-None-clause-grows g c body =
    let change = c.args.change.now in
    none_fills c.args.account.now c.args.m change.freed c.args.store c.given_back.result c.args.layout body change.event c.in-None.is c.given_back.ensures.same.journal

pub returns-in-Some-clause-stays : goal.returns-in-Some-clause-stays
returns-in-Some-clause-stays g c =
    named_stays c.args.store c.args.account.now c.args.number c.args.layout c.as_slice.result.now c.keep_body.result c.keep_body.ensures.accounts c.keep_body.ensures.area

pub returns-in-Some-clause-keeps : goal.returns-in-Some-clause-keeps
returns-in-Some-clause-keeps g c t before body is counter stored =
    let change = c.args.change.now in
    let store = c.args.store in
    let h = event_at c.args.account.now c.args.m c.in-Some.event body in
    let old = g.D.Disk.told c.args.disk.now in
    let new = g.D.Disk.told c.keep_body.new.disk in
    some_ends c.args.account.now c.args.m change.freed old new store c.args.layout before body change.event c.in-Some.event c.keep_body.result c.in-Some.is is
    (λ event told. subst (λ (freed : List ℕ). IsEventOf before.accounts store.accounts h freed → Commits old new store.journal store.area c.args.layout before (after_account_event before h) c.keep_body.result)
    c.as_slice.ensures (λ its. c.keep_body.ensures.keeps t before body its counter told stored) event)

pub returns-in-Some-clause-grows : goal.returns-in-Some-clause-grows
returns-in-Some-clause-grows g c body =
    let change = c.args.change.now in
    some_fills c.args.account.now c.args.m change.freed c.args.store.journal c.args.layout body change.event c.in-Some.event c.keep_body.result c.in-Some.is c.keep_body.ensures.lengthens
