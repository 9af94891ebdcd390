-- Steps that may find nothing.
use Rattle.std.proofs.Common.{◌≡◌, Bool, true, false, cond, Option, Some, None, IsTrue, refl}
use Rattle.glacier_records.specs.Codec.{◌>>=◌}

pub some_is : {A : Type 0} (x y : A) → Some x ≡ Some y → x ≡ y
some_is x y e = cc

-- the value that a step found, where the next one found something
pub bind_some : {A B : Type 0} (o : Option A) (next : A → Option B) (y : B) → (o >>= next) ≡ Some y → (x : A) × (o ≡ Some x) × (next x ≡ Some y)
bind_some None next y e = absurd cc
bind_some (Some x) next y e = (x, refl, e)

-- a test that let a value through
pub passed : {A : Type 0} (b : Bool) (x y : A) → cond b (Some x) None ≡ Some y → IsTrue b × (x ≡ y)
passed true x y e = (refl, cc)
passed false x y e = absurd cc

-- a test that would have stopped a value
pub stopped : {A : Type 0} (b : Bool) (x y : A) → cond b None (Some x) ≡ Some y → (b ≡ false) × (x ≡ y)
stopped true x y e = absurd cc
stopped false x y e = (refl, cc)

-- a choice, by what follows from each side
pub either_way : {A G : Type 0} (b : Bool) (x y : Option A) (z : A) → (b ≡ true → x ≡ Some z → G) → (y ≡ Some z → G) → cond b x y ≡ Some z → G
either_way true x y z one other e = one refl e
either_way false x y z one other e = other e
