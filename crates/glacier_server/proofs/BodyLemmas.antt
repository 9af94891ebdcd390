-- What was taken of a body is kept, unless the body is too long.
use Rattle.std.proofs.Common.{◌≡◌, ℕ, ◌-◌, ◌+◌, ◌<◌, ◌≤◌, List, ◌++◌, length, take, refl, sym, ap, subst, ◌∙◌, arith, length-append}
use Rattle.std.specs.Prelude.{Result, Ok, Err, IfOk}
use Rattle.glacier_disk.specs.Told.{Told}
use Rattle.glacier_machine.specs.declared.content_hash.TheConstants.{MOST_BODY}
use Rattle.glacier_server.specs.Transfer.{TakesBehind, TakesBody, TakesOf}
use Rattle.glacier_server.specs.Does.{nothing}
use Rattle.glacier_server.proofs.TransferLemmas.{of_behind}

module _ (a b : Told) (here : List ℕ) (missing size : ℕ) (sized : size ≡ length here + missing) where
  -- nothing is said of a body that is too long
  pub dropped : {E : Type 0} (kept : List ℕ) (most : ℕ) → most ≡ MOST_BODY → most < size → (result : Result ℕ E)
      → IfOk result (λ left. TakesOf a b missing left nothing)
      → IfOk result (λ left. TakesBody a b here kept missing left)
  dropped kept most is long (Ok left) took = record {
    rest = took;
    keeps = λ none fits. absurd (too_long (length (here ++ took.got)) (omega (arith, sized, took.sum, none, length-append here took.got))
        (subst (λ (k : ℕ). length (here ++ took.got) ≤ k) (sym is) fits));
  }
    where
      too_long : (n : ℕ) → n ≡ size → n ≤ most → ⊥
      too_long n all few = omega (arith, all, few, long)
  dropped kept most is long (Err e) took = tt

  -- the bytes behind those that were there are the rest of it
  pub kept_behind : (front new : List ℕ) (filled : ℕ)
      → TakesBehind a b front (take filled new) (λ l. length l < size) nothing → front ≡ here
      → length (take filled new) ≡ filled → filled ≤ size
      → TakesBody a b here (take size new) missing (size - filled)
  kept_behind front new filled first same now_is within =
      let behind : TakesBehind a b here (take filled new) (λ l. length l < size) nothing =
      subst (λ (l : List ℕ). TakesBehind a b l (take filled new) (λ k. length k < size) nothing) same first in record {
        rest = of_behind (length here) filled missing size sized behind refl now_is within;
        keeps = λ none fits. ap (λ (n : ℕ). take n new) (omega (arith, none, within)) ∙ behind.behind;
      }
