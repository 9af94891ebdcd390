use Rattle.std.proofs.Common.{◌≡◌, ◌∙◌, ap, [], drop}
use Rattle.serde_json.specs.Data.{object}
use Rattle.serde_json.specs.Written.{has_float}
use Rattle.std.proofs.lemmas.List.{drop_all}
use Rattle.serde_json.proofs.Views.{view-Object}
use Rattle.glacier_replies.specs.Bodies.{object_of}
use Rattle.glacier_replies.proofs.objects.object.Goals as goal

pub returns : goal.returns
unfolding object_of
returns c =
    let done : drop c.loop-name.name-index c.args.members.now ≡ [] = drop_all _ _ c.loop-name-test.false in
    record {
      value = view-Object c.loop-name.all ∙ ap object (rw done at c.loop-name.invariant.value);
      plain = ap has_float (view-Object c.loop-name.all) ∙ c.loop-name.invariant.plain;
    }
