use Rattle.std.proofs.Common.{◌≡◌, List, ap, subst, Err, inr}
use Rattle.glacier_journal.specs.Listed.{bytes_of, placed}
use Rattle.glacier_journal.specs.declared.payload.Payload.{Payload}
use Rattle.glacier_replay.specs.Made.{BadRecord, Makes}
use Rattle.glacier_store.proofs.OpenLemmas.{no_journal, opened, unread}
use Rattle.glacier_store.proofs.store.Store.open.Goals as goal

pub returns-in-Err-clause-opens : goal.returns-in-Err-clause-opens
returns-in-Err-clause-opens g c t =
    no_journal (g.D.Disk.told c.args.disk.now) (g.D.Disk.told c.open.new.disk) (c.open.ensures.opens t).looks
    c.in-Err.fault c.from.result c.from.ensures c.in-Err.ensures.no_other
    (λ area at is. (c.in-Err.ensures.opens t).not_a_journal area at (ap Err is))

pub returns-in-Ok-replay_all-clause-opens : goal.returns-in-Ok-replay_all-clause-opens
returns-in-Ok-replay_all-clause-opens g c t =
    let journal = c.in-Ok.found.0 in
    let restored = c.in-Ok-replay_all.restored in
    let made = subst (λ (l : List Payload). Makes (bytes_of l) restored.accounts restored.area.blobs) c.as_slice.ensures c.in-Ok-replay_all.ensures.made in
    opened (g.D.Disk.told c.args.disk.now) (g.D.Disk.told c.open.new.disk) (c.open.ensures.opens t).looks
    _
    (bytes_of c.in-Ok.found.1) (c.in-Ok.ensures.listed t) made c.in-Ok-replay_all.ensures.rest (c.in-Ok.ensures.opens t).durable

pub returns-in-Err-At-clause-opens : goal.returns-in-Err-At-clause-opens
returns-in-Err-At-clause-opens g c t =
    let journal = c.in-Ok.found.0 in
    let at = c.in-Err-At.at in
    let bad = c.in-Err-At.ensures.bad at (ap Err c.in-Err-At.field-0-is) in
    let refuses = subst (λ (l : List Payload). l ≡ placed 16 (bytes_of l) → BadRecord (bytes_of l) at)
    c.as_slice.ensures bad in
    unread (g.D.Disk.told c.args.disk.now) (g.D.Disk.told c.open.new.disk) (c.open.ensures.opens t).looks
    journal.area at
    (inr (record {
      payloads = bytes_of c.in-Ok.found.1;
      end = journal.length;
      listed = c.in-Ok.ensures.listed t;
      record_is = refuses c.in-Ok.ensures.places;
    }))
