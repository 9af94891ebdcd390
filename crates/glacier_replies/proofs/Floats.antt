-- An object of plain members has no float.
use Rattle.std.proofs.Common.{◌≡◌, ◌||◌, ℕ, List, Bool, true, false, refl, Ordering, Less, Equal, Greater, nat_cmp}
use Rattle.std.specs.Ordering.{match_ordering}
use Rattle.std.specs.Cmp.Lexicographic.{slice_cmp}
use Rattle.serde_json.specs.Data.{Data, Members, no_members, member, put}
use Rattle.serde_json.specs.Written.{has_float, members_have_float}
use Rattle.glacier_replies.specs.declared.objects.Part.{Part}
use Rattle.glacier_replies.specs.declared.objects.Part.TheVariants.{Text, Number, Flag, Date, Digest, Id, Range, Null}
use Rattle.glacier_replies.specs.Bodies.{part_data}

neither : (a b : Bool) → a ≡ false → b ≡ false → (a || b) ≡ false
neither true b h i = h
neither false b h i = i

parts : (a b : Bool) → (a || b) ≡ false → (a ≡ false) × (b ≡ false)
parts true b h = cc
parts false b h = (refl, h)

picked : (o : Ordering) (a b c : Members) → members_have_float a ≡ false → members_have_float b ≡ false
    → members_have_float c ≡ false
    → members_have_float (match_ordering o a b c) ≡ false
picked Less a b c x y z = x
picked Equal a b c x y z = y
picked Greater a b c x y z = z

pub put_plain : (k : List ℕ) (d : Data) (ms : Members) → has_float d ≡ false → members_have_float ms ≡ false
    → members_have_float (put k d ms) ≡ false
put_plain k d no_members h i = neither _ _ h refl
put_plain k d (member l e ms) h i =
    let rest = parts (has_float e) (members_have_float ms) i in
    picked (slice_cmp nat_cmp k l) _ _ _ (neither _ _ h i) (neither _ _ h rest.1)
    (neither _ _ rest.0 (put_plain k d ms h rest.1))

pub part_plain : (p : Part) → has_float (part_data p) ≡ false
part_plain (Text s) = refl
part_plain (Number n) = refl
part_plain (Flag flag) = refl
part_plain (Date date) = refl
part_plain (Digest digest) = refl
part_plain (Id id) = refl
part_plain (Range first last) = refl
part_plain Null = refl
