use Rattle.std.proofs.Common.{List, ◌∙◌, ap, subst, arith}
use Rattle.glacier_extents.specs.declared.run.Run.{Run}
use Rattle.glacier_extents.specs.FreeRuns.{blocks, run_at, IsLowest}
use Rattle.glacier_extents.proofs.RunLemmas.{parts_at}
use Rattle.glacier_extents.proofs.ClaimedLemmas.{IsClaimed, claimed_whole, claimed_cut, next_run}
use Rattle.glacier_extents.proofs.claiming.claim_runs.Goals as goal
use Rattle.glacier_extents.proofs.claiming.claim_runs.Goals.{then-left-gt0, else-left-gt0}

pub cut_first-requires-clause-fits : goal.cut_first-requires-clause-fits
cut_first-requires-clause-fits c =
    let old = c.args.free.now.items in
    let whole = c.in_ok-claimed.whole in
    let low : IsLowest c.args.n old c.in_ok-claimed.claimed.items whole c.in_ok-claimed.left =
    subst (λ (rs : List Run). IsLowest c.args.n rs c.in_ok-claimed.claimed.items whole c.in_ok-claimed.left) c.deref.ensures.value c.in_ok-claimed.ensures in
    let inside = low.more c.if-left-gt0.true in
    let of = parts_at 0 blocks old whole (record { first = 0; count = 0 }) inside c.requires.runs in
    let first = ap (λ (ms : List Run). (run_at ms 0).first) (next_run whole old c.drop_front.new.free.items c.drop_front.ensures.items inside) in
    omega (arith, first, of.to, low.less c.if-left-gt0.true)

claimed : (c : goal.Joined-left-gt0)
    → IsClaimed c.args.n c.args.free.now.items c.if-left-gt0.free.items c.in_ok-claimed.claimed.items
claimed c =
    let n = c.args.n in
    let old = c.args.free.now.items in
    let whole = c.in_ok-claimed.whole in
    let left = c.in_ok-claimed.left in
    let mine = c.in_ok-claimed.claimed.items in
    let low : IsLowest n old mine whole left = subst (λ (rs : List Run). IsLowest n rs mine whole left) c.deref.ensures.value c.in_ok-claimed.ensures in
    elim c.if-left-gt0.branch [
      | then-left-gt0 w ↦ claimed_cut n whole left old c.drop_front.new.free.items c.if-left-gt0.free.items mine c.requires.runs low w.if-left-gt0.true c.drop_front.ensures.items
          (ap (λ v. v.items) w.free-is ∙ w.cut_first.ensures.items)
      | else-left-gt0 w ↦ claimed_whole n whole left old c.if-left-gt0.free.items mine c.requires.runs low (ap (λ v. v.items) w.free-is ∙ c.drop_front.ensures.items) (omega (arith, w.if-left-gt0.false))
    ]

pub returns-clause-ok : goal.returns-clause-ok
returns-clause-ok c = (claimed c).claims

pub returns-clause-count : goal.returns-clause-count
returns-clause-count c = (claimed c).count

pub returns-clause-runs : goal.returns-clause-runs
returns-clause-runs c = (claimed c).runs
