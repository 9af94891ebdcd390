use Rattle.std.proofs.Common.{◌≡◌, ◌++◌, ◌∷◌, ◌∙◌, [], true, rules, sym, subst}
use Rattle.std.specs.Prelude.{Err}
use Rattle.glacier_cli.specs.declared.ending.Ending.{Ending}
use Rattle.glacier_cli.specs.Beginning.{BeginsIn}
use Rattle.glacier_cli.proofs.BeginLemmas.{begins_in, begins_not}
use Rattle.glacier_cli.proofs.begin.begin.Goals as goal

pub returns-in-Ok-clause-begins : goal.returns-in-Ok-clause-begins
returns-in-Ok-clause-begins g c t =
    let old = g.D.Disk.told c.args.disk.now in
    let mid = g.D.Disk.told c.open.new.self in
    let is_open : mid.opened ≡ true = search rules in
    let named : mid.folders ≡ old.folders ++ c.args.serving.now.folder.now ∷ [] = search rules in
    let alone = g.met.D.Disk.by_disk_keeps c.open.new.self c.make_or_open.new.disk c.make_or_open.ensures.alone in
    begins_in old mid (g.D.Disk.told c.make_or_open.new.disk) (g.met.D.Disk.lawful t c.args.disk.now) c.open.ensures.call.rests (alone.folders is_open ∙ named) c.in-Ok.store
    (c.in-Ok.ensures.begins t)

pub returns-in-Err-clause-begins : goal.returns-in-Err-clause-begins
returns-in-Err-clause-begins g c t =
    let old = g.D.Disk.told c.args.disk.now in
    let mid = g.D.Disk.told c.open.new.self in
    let is_open : mid.opened ≡ true = search rules in
    let named : mid.folders ≡ old.folders ++ c.args.serving.now.folder.now ∷ [] = search rules in
    let alone = g.met.D.Disk.by_disk_keeps c.open.new.self c.make_or_open.new.disk c.make_or_open.ensures.alone in
    subst (λ (e : Ending). BeginsIn c.args.serving.now.is_new c.args.serving.now.folder.now old (g.D.Disk.told c.make_or_open.new.disk) (Err e))
    (sym c.store_ending.ensures)
    (begins_not old mid (g.D.Disk.told c.make_or_open.new.disk) (g.met.D.Disk.lawful t c.args.disk.now) c.open.ensures.call.rests (alone.folders is_open ∙ named) c.in-Err.fault
    (c.in-Err.ensures.begins t))
