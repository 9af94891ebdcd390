use Rattle.std.proofs.Common.{◌≡◌, List, ℕ, sym, subst, arith, rules}
use Rattle.std.specs.Prelude.{None}
use Rattle.glacier_http.specs.Ranges.{Finds, IsRange}
use Rattle.glacier_http.proofs.RangeLemmas.{disordered, finds_none, finds_range, no_dash, no_first, no_last}
use Rattle.glacier_http.proofs.ranges.job_range.Goals as goal

pub returns-in_err-first : goal.returns-in_err-first
returns-in_err-first c =
    let none : c.from_residual.result ≡ None = search rules in
    subst (Finds (IsRange c.args.text.now)) (sym none) (finds_none _ (no_dash c.args.text.now (sym c.in_err-first.ensures.parts)))

pub returns-in_err-first-2 : goal.returns-in_err-first-2
returns-in_err-first-2 c =
    let none : c.from_residual-in_err-first-2.result ≡ None = search rules in
    subst (Finds (IsRange c.args.text.now)) (sym none) (finds_none _
    (no_first c.args.text.now (c.in_ok-first.first.now, c.in_ok-first.last.now) (sym c.in_ok-first.ensures.parts) (sym c.in_err-first-2.ensures)))

pub returns-in_err-last : goal.returns-in_err-last
returns-in_err-last c =
    let none : c.from_residual-in_err-last.result ≡ None = search rules in
    subst (Finds (IsRange c.args.text.now)) (sym none) (finds_none _
    (no_last c.args.text.now (c.in_ok-first.first.now, c.in_ok-first.last.now) (sym c.in_ok-first.ensures.parts) (sym c.in_err-last.ensures)))

pub returns-then-first-last : goal.returns-then-first-last
returns-then-first-last c =
    finds_none _ (disordered c.args.text.now (c.in_ok-first.first.now, c.in_ok-first.last.now) (sym c.in_ok-first.ensures.parts)
    (c.in_ok-first-2.first, c.in_ok-last.last) (sym c.in_ok-first-2.ensures) (sym c.in_ok-last.ensures) (omega (arith, c.if-first-last.true)))

pub returns : goal.returns
returns c =
    finds_range c.args.text.now (c.in_ok-first.first.now, c.in_ok-first.last.now) (sym c.in_ok-first.ensures.parts)
    (c.in_ok-first-2.first, c.in_ok-last.last) (sym c.in_ok-first-2.ensures) (sym c.in_ok-last.ensures) (omega (arith, c.if-first-last.false))
