-- Each blob's number stays drawn where an account's counter doesn't go back.
use Rattle.std.proofs.Common.{◌≡◌, ℕ, ◌<◌, ◌≤◌, Bool, true, false, cond, List, refl, sym, ◌∙◌, ap, subst, arith}
use Rattle.std.specs.Cmp.{eq_by_cmp_equiv}
use Rattle.std.specs.Cmp.Lexicographic.{nat_list_cmp_total}
use Rattle.std.specs.FinMap as map
use Rattle.glacier_bodies.specs.Stands.{Layouts}
use Rattle.glacier_vault.specs.Accounts.{Accounts, account_in}
use Rattle.glacier_vault.specs.declared.state.AccountState.{AccountState}
use Rattle.glacier_replay.proofs.BlobMaps.{account_is, is_account}
use Rattle.glacier_replay.proofs.PutLemmas.{put_over}
use Rattle.glacier_replay.proofs.SettledLemmas.{account_after}
use Rattle.glacier_store.specs.Drawn.{AreDrawn}

-- an account is taken out, and put back as a call left it
module _ (before taken after : Accounts) (k : List ℕ) (state : AccountState) (took : taken ≡ map.remove before k)
    (put : after ≡ map.insert taken k state) where
  each : (a : List ℕ) → account_in after a ≡ cond (is_account k a) state (account_in before a)
  each a =
      ap (λ (all : Accounts). account_in all a)
      (put ∙ ap (λ (m : Accounts). map.insert m k state) took ∙ put_over before k state)
      ∙ account_after before k state a

  pub put_there : account_in after k ≡ state
  put_there = each k ∙ ap (λ (b : Bool). cond b state (account_in before k)) ((eq_by_cmp_equiv nat_list_cmp_total).refl k)

  pub still_drawn : (layouts : Layouts) → (account_in before k).counter ≤ state.counter → AreDrawn before layouts → AreDrawn after layouts
  still_drawn layouts stays drawn a n own there =
      subst (λ (s : AccountState). n < s.counter) (sym (each a)) (at (is_account k a) refl)
    where
      at : (b : Bool) → is_account k a ≡ b → n < (cond b state (account_in before a)).counter
      at true t =
          let low : n < (account_in before a).counter = drawn a n own there in
          let same : (account_in before a).counter ≡ (account_in before k).counter = ap (λ (q : List ℕ). (account_in before q).counter) (account_is k a t) in
          omega (arith, low, same, stays)
      at false t = drawn a n own there
