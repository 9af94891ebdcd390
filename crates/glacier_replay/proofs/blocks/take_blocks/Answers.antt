use Rattle.std.proofs.Common.{rules, ◌≡◌, ◌∙◌, true, length, nat_eq, sym}
use Rattle.std.proofs.lemmas.Bool.{eqb-true}
use Rattle.glacier_extents.specs.Runs.{block_count}
use Rattle.glacier_replay.proofs.RestoredLemmas.{marked_fit, marked_rest, none_fit, told_leaves}
use Rattle.glacier_replay.proofs.blocks.take_blocks.Goals as goal

pub returns-in_default-clause-fits : goal.returns-in_default-clause-fits
returns-in_default-clause-fits c = none_fit c.args.area.now.blobs c.args.event.now c.args.runs.now c.in_default.ensures c.is_empty.result (search rules)

pub returns-clause-fits : goal.returns-clause-fits
returns-clause-fits c =
    let same : nat_eq (block_count c.args.runs.now) (length c.in-Some.leaves.now) ≡ true = search rules in
    let count = eqb-true (block_count c.args.runs.now) (length c.in-Some.leaves.now) same in
    marked_fit c.mark_blob.result c.args.area.now.free c.args.area.now.blobs c.args.event.now c.args.runs.now c.in_ok-own.own (search rules) c.requires.rest
    (count ∙ sym (told_leaves c.args.event.now c.in-Some.leaves.now c.in-Some.ensures)) c.mark_blob.ensures.free

pub returns-clause-rest : goal.returns-clause-rest
returns-clause-rest c =
    marked_rest c.mark_blob.result c.args.area.now.free c.mark_blob.new.self.free c.args.area.now.blobs c.mark_blob.new.self.blobs c.args.account.now c.args.number c.in_ok-own.own
    c.requires.rest c.requires.fresh c.mark_blob.ensures.named c.mark_blob.ensures.taken
