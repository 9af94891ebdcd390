-- An account's state is taken out of the store, and put back; one that was never changed has no vault.
use Rattle.std.specs.Prelude.{◌≡◌, ℕ, Bool, true, false, cond, not, nat_lt, List, Option, Some, None, unwrap_or}
use Rattle.std.specs.Cmp.Lexicographic.{nat_list_cmp_total, slice_cmp}
use Rattle.std.specs.FinMap as map
use Rattle.std.specs.Option.{is_some}
use Rattle.std.specs.Ordering.{eq_by_cmp, nat_cmp}
use Rattle.std.proofs.Common.{◌∙◌, ap, sym, refl}
use Rattle.glacier_base.proofs.Finite.{bytes_cmp-IsAntisymmetric}
use Rattle.glacier_base.proofs.Sorted.{tied}
use Rattle.glacier_upload.specs.Bodies.{room_refusal}
use Rattle.glacier_upload.specs.Single.{upload_refusal}
use Rattle.glacier_upload.specs.declared.asks.UploadAsk.{UploadAsk}
use Rattle.glacier_upload.specs.declared.single.TheConstants.{MOST_BYTES}
use Rattle.glacier_vault.specs.Account.{empty_account}
use Rattle.glacier_vault.specs.declared.refusal.Refusal.TheVariants.{NoVault, Empty, TooLarge}
use Rattle.glacier_vault.specs.declared.state.AccountState.{AccountState}
use Rattle.glacier_vault.specs.Accounts.{Accounts}

same : (a b : Accounts) → ((q : List ℕ) → map.get a q ≡ map.get b q) → a ≡ b
same a b h = map.same_map nat_list_cmp_total bytes_cmp-IsAntisymmetric a b h

-- what is put in place of what was taken out
put_over : (accounts : Accounts) (k : List ℕ) (state : AccountState)
    → map.insert (map.remove accounts k) k state ≡ map.insert accounts k state
put_over accounts k state = same _ _ (λ q.
    map.get-insert nat_list_cmp_total (map.remove accounts k) k state q
    ∙ ap (cond (eq_by_cmp (slice_cmp nat_cmp) q k) (Some state)) (map.get-remove nat_list_cmp_total accounts k q)
    ∙ twice (eq_by_cmp (slice_cmp nat_cmp) q k) (map.get accounts q)
    ∙ sym (map.get-insert nat_list_cmp_total accounts k state q))
  where
    twice : (b : Bool) (r : Option AccountState) → cond b (Some state) (cond b None r) ≡ cond b (Some state) r
    twice true r = refl
    twice false r = refl

-- what is there may be put again
pub put_same : (accounts : Accounts) (k : List ℕ) (state : AccountState) → map.get accounts k ≡ Some state
    → map.insert accounts k state ≡ accounts
put_same accounts k state e = same _ _ (λ q.
    map.get-insert nat_list_cmp_total accounts k state q ∙ at q (eq_by_cmp (slice_cmp nat_cmp) q k) refl)
  where
    at : (q : List ℕ) (b : Bool) → eq_by_cmp (slice_cmp nat_cmp) q k ≡ b
        → cond b (Some state) (map.get accounts q) ≡ map.get accounts q
    at q true t = sym (ap (map.get accounts) (bytes_cmp-IsAntisymmetric q k (tied _ t)) ∙ e)
    at q false t = refl

-- nothing is taken out where nothing is
take_none : (accounts : Accounts) (k : List ℕ) → map.get accounts k ≡ None → map.remove accounts k ≡ accounts
take_none accounts k e = same _ _ (λ q.
    map.get-remove nat_list_cmp_total accounts k q ∙ at q (eq_by_cmp (slice_cmp nat_cmp) q k) refl)
  where
    at : (q : List ℕ) (b : Bool) → eq_by_cmp (slice_cmp nat_cmp) q k ≡ b
        → cond b None (map.get accounts q) ≡ map.get accounts q
    at q true t = sym (ap (map.get accounts) (bytes_cmp-IsAntisymmetric q k (tied _ t)) ∙ e)
    at q false t = refl

-- an account with no event is put back where it was there
pub put_back : (accounts : Accounts) (k : List ℕ) (r : Option AccountState) → map.get accounts k ≡ r
    → cond (is_some r) (map.insert (map.remove accounts k) k (unwrap_or r empty_account)) (map.remove accounts k)
    ≡ accounts
put_back accounts k None e = take_none accounts k e
put_back accounts k (Some state) e = put_over accounts k state ∙ put_same accounts k state e

-- an upload to an account that was never changed is refused, since it has no vault
pub no_vault : (quota : ℕ) (ask : UploadAsk) → upload_refusal quota empty_account ask ≡ Some (NoVault ask.vault)
no_vault quota ask =
    ap (λ (there : Bool). cond (not there) (Some (NoVault ask.vault)) (cond (nat_lt ask.size 1) (Some Empty)
    (cond (nat_lt MOST_BYTES ask.size) (Some (TooLarge ask.size MOST_BYTES)) (room_refusal quota empty_account ask.size))))
    (ap is_some (map.get-empty (slice_cmp nat_cmp) ask.vault))
