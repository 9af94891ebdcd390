use Rattle.std.proofs.Common.{[], inr, rules}
use Rattle.glacier_cli.specs.Forms.{serve_words}
use Rattle.glacier_cli.specs.StationUse.{Idle, station_use}
use Rattle.glacier_cli.proofs.StationLemmas.{before_all, none_came}
use Rattle.glacier_cli.proofs.serve.serve_keys.Goals as goal

pub returns-in-Err-clause-headline : goal.returns-in-Err-clause-headline
returns-in-Err-clause-headline g c t =
    let told = g.S.Disk.told c.args.station.now in
    let idle : Idle (station_use g.S.Disk.tells told told) = search rules in
    ([], inr idle, none_came g.S.Disk.tells [] (serve_words c.args.serving.now) (before_all (g.met.S.Disk.lawful t c.args.station.now)))
