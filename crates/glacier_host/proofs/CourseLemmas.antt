-- Places in a message: what none handed out leaves, and one stretch after another.
use Rattle.std.specs.Prelude.{◌≡◌, ◌⊎◌, ℕ, zero, suc, ◌<◌, List, take, Option, Some, MatchOption}
use Rattle.std.proofs.Common.{refl, sym, ◌∙◌, ap, subst, inl, inr, arith}
use Rattle.std.proofs.lemmas.Bool.Decides.{nat_tests}
use Rattle.glacier_host.specs.Courses.{GoesOn, IsWhole, after, most_of}
use Rattle.glacier_host.specs.Turns.{EndsTurn, MovesOn, Place, Rests}
use Rattle.glacier_host.specs.declared.course.Course.{Course}
use Rattle.glacier_host.specs.declared.course.Course.TheVariants.{Between, Inside, Rest}
use Rattle.glacier_host.proofs.HeldLemmas.{keeps_then_takes}

-- where none are handed out the place stays, unless nothing of the message is left
pub stays : (course : Course) → IsWhole course ⊎ (course ≡ after course 0)
stays Between = inl refl
stays (Inside zero) = inl refl
stays (Inside (suc left)) = inr (grind (arith, nat_tests))
stays Rest = inr refl

pub goes_none : (course : Course) → GoesOn course course 0
goes_none course = stays course

-- where none may be handed out into some room, nothing of the message is left
pub none_left : (course : Course) (room : ℕ) → 0 < room → most_of course room ≡ 0 → IsWhole course
none_left Between room some is = refl
none_left (Inside left) room some is =
    let none : left ≡ 0 = omega (arith, is, some) in
    subst (λ (n : ℕ). IsWhole (Inside n)) (sym none) refl
none_left Rest room some is = absurd (omega (arith, is, some))

-- none, and then so many
pub goes_on : (first second third : Course) (count : ℕ) → GoesOn first second 0 → GoesOn second third count → GoesOn first third count
goes_on first second third count (inl whole) more = inl whole
goes_on first second third count (inr is) (inr more) = by_stay (stays first)
  where
    by_stay : IsWhole first ⊎ (first ≡ after first 0) → GoesOn first third count
    by_stay (inl whole) = inl whole
    by_stay (inr same) = inr (more ∙ ap (λ (c : Course). after c count) (is ∙ sym same))
goes_on first second third count (inr is) (inl whole) = by_stay (stays first)
  where
    by_stay : IsWhole first ⊎ (first ≡ after first 0) → GoesOn first third count
    by_stay (inl done) = inl done
    by_stay (inr same) = inl (subst IsWhole (is ∙ sym same) whole)

-- none, and then the end of a turn
pub turn_ends : (first second : Course) (third : Place) → GoesOn first second 0 → EndsTurn second third → EndsTurn first third
turn_ends first second third on (inl end) = inl end
turn_ends first second third (inl whole) (inr (done, is)) = inr (whole, is)
turn_ends first second third (inr is) (inr (done, ends)) = by_stay (stays first)
  where
    by_stay : IsWhole first ⊎ (first ≡ after first 0) → EndsTurn first third
    by_stay (inl whole) = inr (whole, ends)
    by_stay (inr same) = inr (subst IsWhole (is ∙ sym same) done, ends)

-- nothing was taken, and then these bytes were handed out
pub hands_out : (first second third : Place) (came : Option ℕ) (count : ℕ) (into : List ℕ) → came ≡ Some count → Rests first second
    → MatchOption came (Rests second third) (MovesOn second third into) → MovesOn first third into count
hands_out first second third came count into is rests may =
    let out = subst (λ (c : Option ℕ). MatchOption c (Rests second third) (MovesOn second third into)) is may in (
      keeps_then_takes first.coming second.coming third.coming (take count into) rests.0 out.0,
      λ none some. turn_ends first.course second.course third rests.1 (out.1 none some),
      goes_on first.course second.course third.course count rests.1 out.2,
    )
