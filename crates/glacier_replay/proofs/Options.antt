-- What is there, if something is.
use Rattle.std.specs.Prelude.{◌≡◌, Bool, true, false, ◌&&◌, Option, Some, None, IfSome, is_some}
use Rattle.std.proofs.Common.{subst, refl}

-- what is known of a value is known of one that is there
pub of_some : {X : Type 0} (P : X → Type 0) (r : Option X) (x : X) → r ≡ Some x → IfSome r P → P x
of_some P r x e h = let here : IfSome (Some x) P = subst (λ q. IfSome q P) e h in here

pub there_is : {X : Type 0} {P : Type 0} (r : Option X) → is_some r ≡ true → ((x : X) → r ≡ Some x → P) → P
there_is None t f = cc
there_is (Some x) t f = f x refl

pub first_of : (x y z : Bool) → (x && y && z) ≡ true → x ≡ true
first_of true y z t = refl
first_of false true z t = cc
first_of false false z t = cc
