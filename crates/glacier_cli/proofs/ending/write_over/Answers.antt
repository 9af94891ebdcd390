use Rattle.std.proofs.Common.{◌≡◌, ◌++◌, ◌∷◌, [], decimal}
use Rattle.std.specs.Prelude.{codes}
use Rattle.std.proofs.lemmas.Result.{on_err_weaker, on_ok_weaker}
use Rattle.glacier_cli.proofs.PartLemmas.{part_of_front, part_of_back, whole_of_two, on_any_err}
use Rattle.glacier_cli.proofs.ending.write_over.Goals as goal

pub returns-in_err-write-clause-part : goal.returns-in_err-write-clause-part
returns-in_err-write-clause-part g c = λ t.
    let over = c.args.over.now in
    let rest = codes " uses " ++ (decimal over.used ++ (codes " of " ++ (decimal over.quota ++ 10 ∷ []))) in
    on_any_err c.from_residual.result
    (part_of_front (codes "over quota: ") (over.account ++ rest) _ _ (c.in_err-write.ensures.prints t).part)

pub returns-in_err-write-2-clause-part : goal.returns-in_err-write-2-clause-part
returns-in_err-write-2-clause-part g c = λ t.
    let over = c.args.over.now in
    let rest = codes " uses " ++ (decimal over.used ++ (codes " of " ++ (decimal over.quota ++ 10 ∷ []))) in
    let same : c.bytes.result.now ≡ over.account = c.bytes.ensures.bytes in
    let more = part_of_front c.bytes.result.now rest _ _ (c.in_err-write-2.ensures.prints t).part in
    on_any_err c.from_residual-in_err-write-2.result
    (part_of_back (codes "over quota: ") (over.account ++ rest) _ _ _ (c.in_ok-write.ensures.prints t).whole (rw (← same) more))

pub returns-clause-whole : goal.returns-clause-whole
returns-clause-whole g c = λ t.
    let over = c.args.over.now in
    let rest = codes " uses " ++ (decimal over.used ++ (codes " of " ++ (decimal over.quota ++ 10 ∷ []))) in
    let same : c.bytes.result.now ≡ over.account = c.bytes.ensures.bytes in
    on_ok_weaker c.write_pair.result
    (λ last. whole_of_two (codes "over quota: ") (over.account ++ rest) _ _ _ (c.in_ok-write.ensures.prints t).whole
    (rw (← same) (whole_of_two c.bytes.result.now rest _ _ _ (c.in_ok-write-2.ensures.prints t).whole last)))
    (c.write_pair.ensures.whole t)

pub returns-clause-part : goal.returns-clause-part
returns-clause-part g c = λ t.
    let over = c.args.over.now in
    let rest = codes " uses " ++ (decimal over.used ++ (codes " of " ++ (decimal over.quota ++ 10 ∷ []))) in
    let same : c.bytes.result.now ≡ over.account = c.bytes.ensures.bytes in
    on_err_weaker c.write_pair.result
    (λ last. part_of_back (codes "over quota: ") (over.account ++ rest) _ _ _ (c.in_ok-write.ensures.prints t).whole
    (rw (← same) (part_of_back c.bytes.result.now rest _ _ _ (c.in_ok-write-2.ensures.prints t).whole last)))
    (c.write_pair.ensures.part t)
