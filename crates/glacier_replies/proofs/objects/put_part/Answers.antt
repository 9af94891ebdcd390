use Rattle.std.proofs.Common.{◌∙◌, ap}
use Rattle.std.proofs.lemmas.Result.{on_ok_weaker}
use Rattle.serde_json.specs.Written.{has_float, members_have_float}
use Rattle.serde_json.specs.View.{view, members_view}
use Rattle.glacier_replies.proofs.Floats.{put_plain, part_plain}
use Rattle.glacier_replies.proofs.objects.put_part.Goals as goal

pub returns-clause-plain : goal.returns-clause-plain
returns-clause-plain c =
    let plain = ap has_float c.in_ok-value.ensures ∙ part_plain c.args.part in
    on_ok_weaker c.put.result (λ e old. ap members_have_float e
    ∙ put_plain c.args.name.now (view c.in_ok-value.value) (members_view c.args.all.now.entries) plain old) c.put.ensures.ok
