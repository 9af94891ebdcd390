use Rattle.std.proofs.Common.{◌≡◌, drop, map, false}
use Rattle.serde_json.specs.Data.{no_members}
use Rattle.serde_json.specs.View.{members_view}
use Rattle.serde_json.specs.Written.{members_have_float}
use Rattle.glacier_replies.specs.Bodies.{put_all, pair_of}
use Rattle.glacier_replies.proofs.objects.object.Given as goal

abbrev pub invariant-loop-name : goal.invariant-loop-name
invariant-loop-name l = record {
  value : put_all (map pair_of (drop l.name-index l.members)) (members_view l.all.entries)
      ≡ put_all (map pair_of l.members) no_members;
  plain : members_have_float (members_view l.all.entries) ≡ false;
}
