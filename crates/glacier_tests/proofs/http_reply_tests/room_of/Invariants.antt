use Rattle.std.proofs.Common.{◌≡◌, take}
use Rattle.std.specs.List.{sum_by}
use Rattle.glacier_http.specs.Printed.{field_room}
use Rattle.glacier_tests.proofs.http_reply_tests.room_of.Given as goal

abbrev pub invariant-loop-field : goal.invariant-loop-field
invariant-loop-field l = l.room ≡ sum_by field_room (take l.field-index l.fields)
