use Rattle.glacier_server.proofs.ConnectionLemmas.{never_began}
use Rattle.glacier_server.proofs.HeadlineLemmas.{served_headline, part_headline}
use Rattle.glacier_server.proofs.connection.serve_connection.Goals as goal

pub returns-in-Err-clause-broken : goal.returns-in-Err-clause-broken
returns-in-Err-clause-broken g c t state kept = never_began

pub returns-in-Err-clause-headline : goal.returns-in-Err-clause-headline
returns-in-Err-clause-headline g c t state kept = part_headline (g.met.S.Disk.lawful t c.args.station.now) kept never_began

pub returns-in-Ok-serve_open-clause-headline : goal.returns-in-Ok-serve_open-clause-headline
returns-in-Ok-serve_open-clause-headline g c t state kept =
    served_headline (g.met.S.Disk.lawful t c.args.station.now) kept (c.in-Ok-serve_open.ensures.served t state kept).1

pub returns-clause-headline : goal.returns-clause-headline
returns-clause-headline g c t state kept =
    part_headline (g.met.S.Disk.lawful t c.args.station.now) kept (c.in-Err-serve_open.ensures.broken t state kept)

pub returns-in-Ok-serve_open-clause-served : goal.returns-in-Ok-serve_open-clause-served
returns-in-Ok-serve_open-clause-served g c t state kept = c.in-Ok-serve_open.ensures.served t state kept

pub returns-clause-broken : goal.returns-clause-broken
returns-clause-broken g c t state kept = c.in-Err-serve_open.ensures.broken t state kept
