use Rattle.glacier_http.specs.Ranges.{IsByteRange, IsRange}
use Rattle.glacier_http.proofs.RangeLemmas.{byte_range_of, finds_same}
use Rattle.glacier_http.proofs.ranges.byte_range.Goals as goal

pub returns : goal.returns
returns c =
    let text = c.args.text.now in
    let places = c.in_ok-behind.field-0.now in
    finds_same (IsRange places) (IsByteRange text) c.job_range.result (λ range is. (places, c.in_ok-behind.ensures, is))
    (byte_range_of text places c.in_ok-behind.ensures) c.job_range.ensures
