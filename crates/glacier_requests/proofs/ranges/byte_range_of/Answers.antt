use Rattle.glacier_http.specs.Ranges.{IsByteRange}
use Rattle.glacier_requests.specs.Ranges.{byte_range_of}
use Rattle.glacier_requests.proofs.RangeFound.{one_answer, finds_byte_range_of}
use Rattle.glacier_requests.proofs.ranges.byte_range_of.Goals as goal

pub returns : goal.returns
returns c =
    one_answer (IsByteRange c.args.text.now) c.byte_range.result (byte_range_of c.args.text.now) c.byte_range.ensures (finds_byte_range_of c.args.text.now)
