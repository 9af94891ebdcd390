use Rattle.std.proofs.Common.{◌≡◌, ◌++◌, ◌∙◌, decimal}
use Rattle.std.proofs.lemmas.Result.{on_err_weaker, on_ok_weaker}
use Rattle.glacier_cli.proofs.PartLemmas.{part_of_front, part_of_back, whole_of_two, on_any_err}
use Rattle.glacier_cli.proofs.ending.write_pair.Goals as goal

pub returns-in_err-write-clause-part : goal.returns-in_err-write-clause-part
returns-in_err-write-clause-part g c = λ t.
    let rest = c.args.middle.now ++ (decimal c.args.second ++ c.args.end.now) in
    on_any_err c.from_residual.result
    (part_of_front c.args.begin.now (decimal c.args.first ++ rest) _ _ (c.in_err-write.ensures.prints t).part)

pub returns-in_err-write-2-clause-part : goal.returns-in_err-write-2-clause-part
returns-in_err-write-2-clause-part g c = λ t.
    let digits : c.as_bytes.result.now ≡ decimal c.args.first = c.as_bytes.ensures.value ∙ c.format.ensures.text in
    let rest = c.args.middle.now ++ (decimal c.args.second ++ c.args.end.now) in
    let more = part_of_front c.as_bytes.result.now rest _ _ (c.in_err-write-2.ensures.prints t).part in
    on_any_err c.from_residual-in_err-write-2.result
    (part_of_back c.args.begin.now (decimal c.args.first ++ rest) _ _ _ (c.in_ok-write.ensures.prints t).whole (rw (← digits) more))

pub returns-clause-whole : goal.returns-clause-whole
returns-clause-whole g c = λ t.
    let digits : c.as_bytes.result.now ≡ decimal c.args.first = c.as_bytes.ensures.value ∙ c.format.ensures.text in
    let rest = c.args.middle.now ++ (decimal c.args.second ++ c.args.end.now) in
    on_ok_weaker c.write_number.result
    (λ last. whole_of_two c.args.begin.now (decimal c.args.first ++ rest) _ _ _ (c.in_ok-write.ensures.prints t).whole
    (rw (← digits) (whole_of_two c.as_bytes.result.now rest _ _ _ (c.in_ok-write-2.ensures.prints t).whole last)))
    (c.write_number.ensures.whole t)

pub returns-clause-part : goal.returns-clause-part
returns-clause-part g c = λ t.
    let digits : c.as_bytes.result.now ≡ decimal c.args.first = c.as_bytes.ensures.value ∙ c.format.ensures.text in
    let rest = c.args.middle.now ++ (decimal c.args.second ++ c.args.end.now) in
    on_err_weaker c.write_number.result
    (λ last. part_of_back c.args.begin.now (decimal c.args.first ++ rest) _ _ _ (c.in_ok-write.ensures.prints t).whole
    (rw (← digits) (part_of_back c.as_bytes.result.now rest _ _ _ (c.in_ok-write-2.ensures.prints t).whole last)))
    (c.write_number.ensures.part t)
