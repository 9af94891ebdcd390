use Rattle.std.proofs.Common.{ap, sym, ◌∙◌}
use Rattle.serde_json.specs.View.{view}
use Rattle.glacier_requests.specs.Reads.{or_else}
use Rattle.glacier_requests.proofs.MemberLemmas.{object_of-none, object_of-read}
use Rattle.glacier_requests.proofs.members.object_of.Goals as goal
use Rattle.glacier_vault.specs.declared.refusal.Refusal.TheVariants.{NotJson}

pub returns-in_default : goal.returns-in_default
returns-in_default c = ap (or_else NotJson) (object_of-none c.args.body.now c.in_default.ensures.cases.0)

pub returns-then-is_object : goal.returns-then-is_object
returns-then-is_object c =
    ap (or_else NotJson) (object_of-read c.args.body.now (view c.in-Ok-from_str.value) c.in-Ok.ensures.cases.1
    (cc (c.in-Ok-from_str.ensures.ok, c.in-Ok.ensures.cases.0)) (sym c.is_object.ensures ∙ c.if-is_object.true))
