-- An account's state is taken out of all accounts, and put back.
use Rattle.std.specs.Prelude.{◌≡◌, ℕ, Bool, true, false, cond, List, Option, Some, None, IfSome, unwrap_or}
use Rattle.std.specs.Prelude.{Result, Ok, Err, OnOk, OnErr}
use Rattle.std.specs.Cmp.Lexicographic.{nat_list_cmp_total, slice_cmp}
use Rattle.std.specs.FinMap as map
use Rattle.std.specs.Ordering.{eq_by_cmp, nat_cmp}
use Rattle.std.proofs.Common.{◌∙◌, ap, sym, refl, subst}
use Rattle.glacier_base.proofs.Finite.{bytes_cmp-IsAntisymmetric}
use Rattle.glacier_base.proofs.LookUps.{if_some-empty, if_some-insert, if_some-remove}
use Rattle.glacier_vault.specs.Account.{empty_account}
use Rattle.glacier_vault.specs.Lawful.{IsLawful}
use Rattle.glacier_vault.specs.declared.state.AccountState.{AccountState}
use Rattle.glacier_vault.specs.Accounts.{Accounts, AllLawful, account_in}
use Rattle.glacier_vault.proofs.KeepsLawful.{empty_lawful}

pub none_lawful : AllLawful map.empty
none_lawful = if_some-empty (slice_cmp nat_cmp) IsLawful

-- an account is lawful, also where it was never changed
pub lawful_in : (accounts : Accounts) → AllLawful accounts → (account : List ℕ) → IsLawful (account_in accounts account)
lawful_in accounts lawful account = at (map.get accounts account) (lawful account)
  where
    at : (r : Option AccountState) → IfSome r IsLawful → IsLawful (unwrap_or r empty_account)
    at None h = empty_lawful
    at (Some state) h = h

pub inserted_lawful : (accounts : Accounts) (k : List ℕ) (state : AccountState) → AllLawful accounts → IsLawful state
    → AllLawful (map.insert accounts k state)
inserted_lawful accounts k state h l q =
    if_some-insert nat_list_cmp_total bytes_cmp-IsAntisymmetric (λ _. IsLawful) accounts k q state l (h q)

pub put_lawful : {X E : Type 0} (result : Result X E) (old new : Accounts) (k : List ℕ) (state : AccountState)
    → OnOk result (new ≡ map.insert old k state) → OnErr result (new ≡ old) → AllLawful old → IsLawful state
    → AllLawful new
put_lawful (Ok x) old new k state ok err h l = subst AllLawful (sym ok) (inserted_lawful old k state h l)
put_lawful (Err x) old new k state ok err h l = subst AllLawful (sym err) h

pub taken_lawful : (accounts : Accounts) (k : List ℕ) → AllLawful accounts → AllLawful (map.remove accounts k)
taken_lawful accounts k h q =
    if_some-remove nat_list_cmp_total bytes_cmp-IsAntisymmetric (λ _. IsLawful) accounts k q (h q)

same : (a b : Accounts) → ((q : List ℕ) → map.get a q ≡ map.get b q) → a ≡ b
same a b h = map.same_map nat_list_cmp_total bytes_cmp-IsAntisymmetric a b h

-- what is put in place of what was taken out
pub put_over : (accounts : Accounts) (k : List ℕ) (state : AccountState)
    → map.insert (map.remove accounts k) k state ≡ map.insert accounts k state
put_over accounts k state = same _ _ (λ q.
    map.get-insert nat_list_cmp_total (map.remove accounts k) k state q
    ∙ ap (cond (eq_by_cmp (slice_cmp nat_cmp) q k) (Some state)) (map.get-remove nat_list_cmp_total accounts k q)
    ∙ twice (eq_by_cmp (slice_cmp nat_cmp) q k) (map.get accounts q)
    ∙ sym (map.get-insert nat_list_cmp_total accounts k state q))
  where
    twice : (b : Bool) (r : Option AccountState) → cond b (Some state) (cond b None r) ≡ cond b (Some state) r
    twice true r = refl
    twice false r = refl
