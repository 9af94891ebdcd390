use Rattle.std.proofs.Common.{◌≡◌, ◌++◌, ◌∙◌, List, ℕ, ap}
use Rattle.std.specs.Prelude.{codes}
use Rattle.glacier_http.specs.Ranges.{IsContentRange, IsRange}
use Rattle.glacier_http.proofs.RangeLemmas.{content_range_of, finds_same}
use Rattle.glacier_http.proofs.ranges.content_range.Goals as goal

pub returns : goal.returns
returns c =
    let text = c.args.text.now in
    let places = c.in_ok-before.field-0.now in
    let whole : text ≡ codes "bytes " ++ (places ++ codes "/*") = c.in_ok-behind.ensures ∙ ap (λ (l : List ℕ). codes "bytes " ++ l) c.in_ok-before.ensures in
    finds_same (IsRange places) (IsContentRange text) c.job_range.result (λ range is. (places, whole, is))
    (content_range_of text places whole) c.job_range.ensures
