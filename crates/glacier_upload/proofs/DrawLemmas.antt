-- When the next number is drawn.
use Rattle.std.specs.Prelude.{◌≡◌, ◌≢◌, ℕ, ◌+◌, Bool, true, false, cond, Some, None, nat_eq, nat_lt}
use Rattle.std.proofs.Common.{refl}
use Rattle.std.proofs.lemmas.Bool.{eqb-true, eqb-false}
use Rattle.glacier_vault.specs.Account.{counter_end}
use Rattle.glacier_vault.specs.Rows.{draw_refusal}
use Rattle.glacier_vault.specs.Totals.{need, used_in}
use Rattle.glacier_vault.specs.declared.refusal.Refusal.TheVariants.{NoRoom, CounterEnd}
use Rattle.glacier_vault.specs.declared.state.AccountState.{AccountState}
use Rattle.glacier_upload.specs.Bodies.{room_refusal}

-- one that isn't refused is left
pub drawn_left : (a : AccountState) → draw_refusal a ≡ None → a.counter ≢ counter_end
drawn_left a e end = at (nat_eq a.counter counter_end) refl e
  where
    at : (b : Bool) → nat_eq a.counter counter_end ≡ b → cond b (Some CounterEnd) None ≡ None → ⊥
    at true t h = cc
    at false t h = eqb-false a.counter counter_end t end

-- and one that is left isn't refused
pub left_drawn : (a : AccountState) → a.counter ≢ counter_end → draw_refusal a ≡ None
left_drawn a apart = at (nat_eq a.counter counter_end) refl
  where
    at : (b : Bool) → nat_eq a.counter counter_end ≡ b → cond b (Some CounterEnd) None ≡ None
    at true t = absurd (apart (eqb-true a.counter counter_end t))
    at false t = refl

-- where there is room for a body a number is drawn
pub room_draws : (quota : ℕ) (a : AccountState) (size : ℕ) → room_refusal quota a size ≡ None → draw_refusal a ≡ None
room_draws quota a size = at (nat_lt quota (used_in a.vaults + need size))
  where
    at : (full : Bool) → cond full (Some (NoRoom (used_in a.vaults) (need size) quota)) (draw_refusal a) ≡ None → draw_refusal a ≡ None
    at true e = cc
    at false e = e
