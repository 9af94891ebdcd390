use Rattle.glacier_http.specs.Ranges.{IsRange}
use Rattle.glacier_requests.specs.Ranges.{range_of}
use Rattle.glacier_requests.proofs.RangeFound.{one_answer, finds_range_of}
use Rattle.glacier_requests.proofs.ranges.range_of.Goals as goal

pub returns : goal.returns
returns c =
    one_answer (IsRange c.args.text.now) c.job_range.result (range_of c.args.text.now) c.job_range.ensures (finds_range_of c.args.text.now)
