use Rattle.glacier_server.specs.Placed.{placed_as}
use Rattle.glacier_server.proofs.PassLemmas.{has_read}
use Rattle.glacier_server.proofs.StepLemmas.{reads}
use Rattle.glacier_server.proofs.service.Service.answer.Goals as goal

pub returns-then-is_bulk_at-clause-exchange : goal.returns-then-is_bulk_at-clause-exchange
returns-then-is_bulk_at-clause-exchange g c t state kept =
    let read = reads (placed_as c.args.store state) c.now-reading.result c.now-reading.ensures.call (c.now-reading.ensures.reading t) in
    c.answer_bulk.ensures.exchange t c.args.station.now state (has_read kept read)

pub returns-then-is_bulk_at-clause-broken : goal.returns-then-is_bulk_at-clause-broken
returns-then-is_bulk_at-clause-broken g c t state kept =
    let read = reads (placed_as c.args.store state) c.now-reading.result c.now-reading.ensures.call (c.now-reading.ensures.reading t) in
    c.answer_bulk.ensures.broken t c.args.station.now state (has_read kept read)

pub returns-else-is_bulk_at-clause-exchange : goal.returns-else-is_bulk_at-clause-exchange
returns-else-is_bulk_at-clause-exchange g c t state kept =
    let read = reads (placed_as c.args.store state) c.now-reading.result c.now-reading.ensures.call (c.now-reading.ensures.reading t) in
    c.answer_plain.ensures.exchange t c.args.station.now state (has_read kept read)

pub returns-else-is_bulk_at-clause-broken : goal.returns-else-is_bulk_at-clause-broken
returns-else-is_bulk_at-clause-broken g c t state kept =
    let read = reads (placed_as c.args.store state) c.now-reading.result c.now-reading.ensures.call (c.now-reading.ensures.reading t) in
    c.answer_plain.ensures.broken t c.args.station.now state (has_read kept read)
