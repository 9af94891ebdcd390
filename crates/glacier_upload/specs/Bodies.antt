-- What a body is held to before it is taken, and after.
use Rattle.std.specs.Prelude.{ℕ, ◌+◌, Bool, List, Option, Some, None, not, if◌then◌else◌, nat_eq, nat_lt}
use Rattle.std.specs.Cmp.Lexicographic.{pointwise}
use Rattle.glacier_treehash.specs.Roots.{root_of_digests}
use Rattle.glacier_vault.specs.Rows.{draw_refusal}
use Rattle.glacier_vault.specs.Totals.{need, used_in}
use Rattle.glacier_vault.specs.declared.refusal.Refusal.{Refusal}
use Rattle.glacier_vault.specs.declared.refusal.Refusal.TheVariants.{NoRoom, ContentMismatch, TreeMismatch}
use Rattle.glacier_vault.specs.declared.state.AccountState.{AccountState}
use Rattle.glacier_upload.specs.declared.asks.Found.{Found}

-- whether two digests are one
abbrev pub is_same : List ℕ → List ℕ → Bool
is_same one other = pointwise nat_eq one other

-- why a body of this size isn't taken: there is no room, or no number left to draw
abbrev pub room_refusal : ℕ → AccountState → ℕ → Option Refusal
room_refusal quota account size =
    if nat_lt quota (used_in account.vaults + need size) then Some (NoRoom (used_in account.vaults) (need size) quota)
    else draw_refusal account

-- why a body isn't the one that was named
abbrev pub body_refusal : List ℕ → List ℕ → Found → Option Refusal
body_refusal linear tree found =
    if not (is_same found.linear linear) then Some (ContentMismatch found.linear linear)
    else if not (is_same (root_of_digests found.leaves) tree) then Some (TreeMismatch (root_of_digests found.leaves) tree)
    else None
