use Rattle.std.proofs.Common.{length, arith}
use Rattle.glacier_server.specs.Uploads.{upload_of}
use Rattle.glacier_server.proofs.KeepLemmas.{keeps_broken, keeps_disk, keeps_then}
use Rattle.glacier_server.proofs.UploadLemmas.{cut_at, failed_at, no_body, stream_broken}
use Rattle.glacier_server.proofs.WholeUploads.{whole_broken, whole_uploaded}
use Rattle.glacier_server.proofs.upload.take_upload.Goals as goal

pub returns-in-Err-clause-broken : goal.returns-in-Err-clause-broken
returns-in-Err-clause-broken g c t =
    no_body (upload_of c.args.store c.args.rules.now c.args.m c.args.ask.now c.args.here.now c.args.missing) (length c.args.piece.now)

pub returns-then-left-gt0-clause-ended : goal.returns-then-left-gt0-clause-ended
returns-then-left-gt0-clause-ended g c t =
    cut_at (upload_of c.args.store c.args.rules.now c.args.m c.args.ask.now c.args.here.now c.args.missing)
    c.in-Ok.ensures.same c.in-Ok.ensures.opened (length c.args.piece.now) c.stream_body.new.body c.stream_body.ensures.runs
    c.give_back.new.store c.give_back.ensures.same c.give_back.ensures.rest
    c.in-Ok-stream_body.left c.if-left-gt0.true (c.in-Ok-stream_body.ensures.streams t)

pub returns-in-Err-Receive-clause-ended : goal.returns-in-Err-Receive-clause-ended
returns-in-Err-Receive-clause-ended g c t =
    failed_at (upload_of c.args.store c.args.rules.now c.args.m c.args.ask.now c.args.here.now c.args.missing)
    c.in-Ok.ensures.same c.in-Ok.ensures.opened (length c.args.piece.now) c.stream_body.new.body c.stream_body.ensures.runs
    c.give_back-in-Err-Receive.new.store c.give_back-in-Err-Receive.ensures.same c.give_back-in-Err-Receive.ensures.rest
    c.in-Err-Receive.field-0 c.in-Err-Receive.field-0-is (c.in-Err-Receive.ensures.failed t)

pub returns-in-Err-Disk-clause-broken : goal.returns-in-Err-Disk-clause-broken
returns-in-Err-Disk-clause-broken g c t =
    stream_broken (upload_of c.args.store c.args.rules.now c.args.m c.args.ask.now c.args.here.now c.args.missing)
    c.in-Ok.ensures.same c.in-Ok.ensures.opened (length c.args.piece.now) c.in-Err-Disk.field-0 c.in-Err-Disk.field-0-is (c.in-Err-Disk.ensures.failed t)

pub returns-in-Ok-end_upload-clause-ended : goal.returns-in-Ok-end_upload-clause-ended
returns-in-Ok-end_upload-clause-ended g c t =
    whole_uploaded (upload_of c.args.store c.args.rules.now c.args.m c.args.ask.now c.args.here.now c.args.missing)
    c.in-Ok.ensures.same c.in-Ok.ensures.opened (length c.args.piece.now) (g.met.S.Disk.lawful t c.end_upload.new.disk)
    (g.met.S.Disk.by_disk_keeps c.stream_body.new.station c.end_upload.new.disk c.end_upload.ensures.alone)
    c.stream_body.new.body c.stream_body.ensures.runs c.in-Ok-stream_body.left (omega (arith, c.if-left-gt0.false))
    (c.in-Ok-stream_body.ensures.streams t)
    c.in-Ok-end_upload.reply c.in-Ok-end_upload.store c.in-Ok-end_upload.ensures.reply (c.in-Ok-end_upload.ensures.ends t)

pub returns-in-Err-end_upload-clause-broken : goal.returns-in-Err-end_upload-clause-broken
returns-in-Err-end_upload-clause-broken g c t =
    whole_broken (upload_of c.args.store c.args.rules.now c.args.m c.args.ask.now c.args.here.now c.args.missing)
    c.in-Ok.ensures.same c.in-Ok.ensures.opened (length c.args.piece.now) (g.met.S.Disk.lawful t c.end_upload.new.disk)
    (g.met.S.Disk.by_disk_keeps c.stream_body.new.station c.end_upload.new.disk c.end_upload.ensures.alone)
    c.stream_body.new.body c.stream_body.ensures.runs c.in-Ok-stream_body.left (omega (arith, c.if-left-gt0.false))
    (c.in-Ok-stream_body.ensures.streams t)
    c.in-Err-end_upload.fault c.in-Err-end_upload.ensures.fault (c.in-Err-end_upload.ensures.ends t)

pub returns-in-Ok-end_upload-clause-keeps : goal.returns-in-Ok-end_upload-clause-keeps
returns-in-Ok-end_upload-clause-keeps g c =
    keeps_then c.in-Ok-stream_body.ensures.keeps (keeps_disk
    (g.met.S.Disk.by_disk_keeps c.stream_body.new.station c.end_upload.new.disk c.end_upload.ensures.alone)
    c.in-Ok-stream_body.ensures.keeps.connected c.in-Ok-end_upload.ensures.fault)

pub returns-in-Err-end_upload-clause-keeps : goal.returns-in-Err-end_upload-clause-keeps
returns-in-Err-end_upload-clause-keeps g c =
    keeps_then c.in-Ok-stream_body.ensures.keeps (keeps_broken
    (g.met.S.Disk.by_disk_keeps c.stream_body.new.station c.end_upload.new.disk c.end_upload.ensures.alone)
    c.in-Ok-stream_body.ensures.keeps.connected)
