-- What all accounts use is at most the sum of their quotas, where each is within its own.
use Rattle.std.specs.Prelude.{◌≡◌, ℕ, ◌+◌, ◌<◌, ◌≤◌, Bool, true, false, cond, ◌&&◌, List, [], ◌∷◌, Option, Some, None, bytes_eq}
use Rattle.std.specs.Cmp.{eq_by_cmp_equiv}
use Rattle.std.specs.Cmp.Lexicographic.{nat_list_cmp_total}
use Rattle.std.specs.FinMap as map
use Rattle.std.proofs.Common.{◌∙◌, ap, sym, refl, subst, arith}
use Rattle.std.proofs.lemmas.List.Sums.{sum_by-cons}
use Rattle.std.proofs.lemmas.Slice.Eq.{bytes_eq-Decides}
use Rattle.glacier_base.proofs.Finite.{bytes_cmp-IsAntisymmetric}
use Rattle.glacier_base.proofs.Sums.{weight, sum_by-insert, sum_by-remove}
use Rattle.glacier_bodies.specs.Stands.{Layouts}
use Rattle.glacier_extents.specs.declared.run.Run.{Run}
use Rattle.glacier_extents.specs.FreeRuns.{Claims}
use Rattle.glacier_extents.specs.Runs.{has_block}
use Rattle.glacier_journal.specs.Listed.{Payloads}
use Rattle.glacier_vault.specs.declared.state.AccountState.{AccountState}
use Rattle.glacier_vault.specs.Accounts.{Accounts, account_in}
use Rattle.glacier_replay.specs.InUse.{AreWithin, Quotas, quota_in, quotas_total, used_by_all}
use Rattle.glacier_replay.specs.Made.{IsRest, Makes}
use Rattle.glacier_replay.proofs.BlobMaps.{account_is, is_account}
use Rattle.glacier_replay.proofs.InUseLemmas.{below_used}
use Rattle.glacier_replay.proofs.SameSums.{none_sum}
use Rattle.glacier_replay.proofs.UsedLemmas.{use_in}

abbrev in_use : AccountState → ℕ
in_use state = state.used

fit : (quotas : Quotas) (accounts : Accounts) → ((account : List ℕ) → weight in_use (map.get accounts account) ≤ quota_in quotas account) → used_by_all accounts ≤ quotas_total quotas
fit [] accounts each = omega (arith, none_sum nat_list_cmp_total bytes_cmp-IsAntisymmetric in_use accounts (λ account. omega (arith, each account)))
fit (entry ∷ entries) accounts each =
    omega (
      arith,
      here,
      sum_by-remove nat_list_cmp_total in_use bytes_cmp-IsAntisymmetric accounts entry.0,
      fit entries (map.remove accounts entry.0) (λ account. later account (is_account entry.0 account) refl),
      sum_by-cons (λ (e : List ℕ × ℕ). e.1) entry entries,
    )
  where
    here : weight in_use (map.get accounts entry.0) ≤ entry.1
    here = omega (arith, each entry.0, ap (λ (b : Bool). cond {A = ℕ} b entry.1 (quota_in entries entry.0)) ((bytes_eq-Decides entry.0 entry.0).1 refl))

    removed : (account : List ℕ) (b : Bool) → is_account entry.0 account ≡ b → map.get (map.remove accounts entry.0) account ≡ cond b None (map.get accounts account)
    removed account b t = map.get-remove nat_list_cmp_total accounts entry.0 account ∙ ap (λ b. cond b None (map.get accounts account)) t

    later : (account : List ℕ) (b : Bool) → is_account entry.0 account ≡ b → weight in_use (map.get (map.remove accounts entry.0) account) ≤ quota_in entries account
    later account true t = omega (arith, ap (weight in_use) (removed account true t))
    later account false t = by (bytes_eq entry.0 account) refl
      where
        by : (c : Bool) → bytes_eq entry.0 account ≡ c → weight in_use (map.get (map.remove accounts entry.0) account) ≤ quota_in entries account
        by true u =
            let is : is_account entry.0 account ≡ true = ap (is_account entry.0) (sym ((bytes_eq-Decides entry.0 account).0 u)) ∙ (eq_by_cmp_equiv nat_list_cmp_total).refl entry.0 in
            let no : true ≡ false = sym is ∙ t in
            cc
        by false u = omega (arith, each account, ap (λ (b : Bool). cond {A = ℕ} b entry.1 (quota_in entries account)) u, ap (weight in_use) (removed account false t))

module _ (quotas : Quotas) (accounts : Accounts) (within : AreWithin quotas accounts) (account : List ℕ) (count : ℕ) (fits : (account_in accounts account).used + count ≤ quota_in quotas account) where
  -- the account with as many blocks more
  abbrev more : AccountState
  more = record (account_in accounts account) { used = (account_in accounts account).used + count }

  more_within : (other : List ℕ) → weight in_use (map.get (map.insert accounts account more) other) ≤ quota_in quotas other
  more_within other = subst (λ (r : Option AccountState). weight in_use r ≤ quota_in quotas other) (sym (map.get-insert nat_list_cmp_total accounts account more other)) (at (is_account account other) refl)
    where
      at : (b : Bool) → is_account account other ≡ b → weight in_use (cond b (Some more) (map.get accounts other)) ≤ quota_in quotas other
      at true t = subst (λ (k : List ℕ). (account_in accounts account).used + count ≤ quota_in quotas k) (sym (account_is account other t)) fits
      at false t = omega (arith, within other, use_in accounts other)

  pub within_total : used_by_all accounts + count ≤ quotas_total quotas
  within_total =
      omega (
        arith,
        fit quotas (map.insert accounts account more) more_within,
        sum_by-insert nat_list_cmp_total in_use accounts account more,
        use_in accounts account,
      )

  pub below_quotas : (payloads : Payloads) (layouts : Layouts) (old new claimed : List Run) → Makes payloads accounts layouts → IsRest old layouts → Claims count old new claimed
      → (b : ℕ) → has_block claimed b ≡ true → b < quotas_total quotas
  below_quotas payloads layouts old new claimed makes rest claims b its =
      omega (
        arith,
        within_total,
        below_used payloads accounts layouts [] old new claimed count (record { made = makes; whole = old; rest = rest; taken = λ b. and_true (has_block old b) }) claims b its,
      )
    where
      and_true : (c : Bool) → c ≡ (c && true)
      and_true true = refl
      and_true false = refl
