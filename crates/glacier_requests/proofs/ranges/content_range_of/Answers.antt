use Rattle.glacier_http.specs.Ranges.{IsContentRange}
use Rattle.glacier_requests.specs.Ranges.{content_range_of}
use Rattle.glacier_requests.proofs.RangeFound.{one_answer, finds_content_range_of}
use Rattle.glacier_requests.proofs.ranges.content_range_of.Goals as goal

pub returns : goal.returns
returns c =
    one_answer (IsContentRange c.args.text.now) c.content_range.result (content_range_of c.args.text.now) c.content_range.ensures (finds_content_range_of c.args.text.now)
