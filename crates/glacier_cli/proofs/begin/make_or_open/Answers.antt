use Rattle.std.proofs.Common.{◌≡◌, Bool, true, false, rules, sym, subst}
use Rattle.glacier_cli.specs.Beginning.{Begins}
use Rattle.glacier_cli.proofs.BeginLemmas.{created, opened}
use Rattle.glacier_cli.proofs.begin.make_or_open.Goals as goal

pub returns-then-is_new-clause-begins : goal.returns-then-is_new-clause-begins
returns-then-is_new-clause-begins g c t =
    let is : c.args.is_new ≡ true = search rules in
    subst (λ (b : Bool). Begins b (g.D.Disk.told c.args.disk.now) (g.D.Disk.told c.create.new.disk) c.create.result) (sym is)
    (created c.create.result c.create.ensures.no_other c.create.ensures.nothing (c.create.ensures.creates t))

pub returns-else-is_new-clause-begins : goal.returns-else-is_new-clause-begins
returns-else-is_new-clause-begins g c t =
    let is : c.args.is_new ≡ false = search rules in
    subst (λ (b : Bool). Begins b (g.D.Disk.told c.args.disk.now) (g.D.Disk.told c.open.new.disk) c.open.result) (sym is)
    (opened c.open.result c.open.ensures.no_other (c.open.ensures.opens t))
