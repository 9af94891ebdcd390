use Rattle.std.proofs.Common.{◌≡◌, ◌++◌, decimal}
use Rattle.std.proofs.lemmas.Result.{on_err_weaker}
use Rattle.glacier_cli.specs.Endings.{area_word}
use Rattle.glacier_cli.proofs.PartLemmas.{part_of_front, part_of_back, on_any_err}
use Rattle.glacier_cli.proofs.ending.write_place.Goals as goal

pub returns-in_err-write-2-clause-part : goal.returns-in_err-write-2-clause-part
returns-in_err-write-2-clause-part g c = λ t.
    let word : c.area_word.result.now ≡ area_word c.args.area = c.area_word.ensures in
    let rest = c.args.middle.now ++ (decimal c.args.number ++ c.args.end.now) in
    let more = part_of_front c.area_word.result.now rest _ _ (c.in_err-write-2.ensures.prints t).part in
    on_any_err c.from_residual-in_err-write-2.result
    (part_of_back c.args.begin.now (area_word c.args.area ++ rest) _ _ _ (c.in_ok-write.ensures.prints t).whole (rw (← word) more))

pub returns-clause-part : goal.returns-clause-part
returns-clause-part g c = λ t.
    let word : c.area_word.result.now ≡ area_word c.args.area = c.area_word.ensures in
    let rest = c.args.middle.now ++ (decimal c.args.number ++ c.args.end.now) in
    on_err_weaker c.write_number.result
    (λ last. part_of_back c.args.begin.now (area_word c.args.area ++ rest) _ _ _ (c.in_ok-write.ensures.prints t).whole
    (rw (← word) (part_of_back c.area_word.result.now rest _ _ _ (c.in_ok-write-2.ensures.prints t).whole last)))
    (c.write_number.ensures.part t)
