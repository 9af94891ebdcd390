-- What an item of a snapshot leaves is lawful.
use Rattle.std.specs.Prelude.{◌≡◌, ℕ, ◌+◌, ◌<◌, Bool, true, false, cond, not, List, [], ◌∷◌, ◌++◌, length, drop, Option, Some, None, Result, Ok, Err, IfSome, OnOk, unwrap_or, nat_eq, nat_le}
use Rattle.std.specs.FinMap as map
use Rattle.std.proofs.Common.{◌∙◌, ap, refl, subst, sym, get_or, append_assoc, arith}
use Rattle.std.proofs.lemmas.List.{drop_more}
use Rattle.std.proofs.lemmas.Bool.{and_parts, eqb-true}
use Rattle.glacier_base.specs.declared.outside.Memory.{Memory}
use Rattle.glacier_policy.specs.Policies.{policy_of}
use Rattle.glacier_treehash.specs.Roots.{root_of_digests}
use Rattle.glacier_vault.specs.Account.{new_vault}
use Rattle.glacier_vault.specs.Lawful.{IsLawful}
use Rattle.glacier_vault.specs.Totals.{naming}
use Rattle.glacier_vault.specs.declared.lock.Lock.{Lock}
use Rattle.glacier_vault.specs.declared.state.AccountState.{AccountState}
use Rattle.glacier_vault.proofs.KeepsLawful.{lawful-later, lawful-insert, new_lawful}
use Rattle.glacier_vault.proofs.Later.{later_vault}
use Rattle.glacier_vault.proofs.TotalsLemmas.{vault_total-new_vault}
use Rattle.glacier_restore.specs.Fitting.{is_body}
use Rattle.glacier_restore.specs.Putting.{where_fits, put_account, put_vault, put_lock}
use Rattle.glacier_restore.specs.Restoring.{kept_lock, names_some, numbers_of, put}
use Rattle.glacier_records.specs.declared.kept.Blob.{Blob}
use Rattle.glacier_records.specs.declared.kept.Kept.{Kept}
use Rattle.glacier_records.specs.declared.kept.Kept.TheVariants as kept
use Rattle.glacier_restore.proofs.NamedLemmas.{not_true}
use Rattle.glacier_restore.proofs.PutLemmas.{lawful-put_archive, lawful-put_upload, lawful-put_part, lawful-put_finished, lawful-put_job, lawful-put_line, lawful-put_lock}
use Rattle.glacier_restore.proofs.VaultLemmas.{le_of, none_there, right_body}

-- what is left where a test fails is None
where_passes : (b : Bool) (r : Option AccountState) → (b ≡ true → IfSome r IsLawful) → IfSome (cond b r None) IsLawful
where_passes true r h = h refl
where_passes false r h = tt

-- the same of what is made where it passes
made_passes : {X : Type 0} (b : Bool) (x : X) (f : X → Option AccountState) → (b ≡ true → IfSome (f x) IsLawful) → IfSome (elim (cond b (Some x) None) [ None ↦ None | Some y ↦ f y ]) IsLawful
made_passes true x f h = h refl
made_passes false x f h = tt

module _ (a : AccountState) (lawful : IsLawful a) (m : ℕ) where
  where_lawful : (b : Bool) (after : AccountState) → (b ≡ true → IsLawful after) → IfSome (where_fits b after) IsLawful
  where_lawful true after h = h refl
  where_lawful false after h = tt

  lawful-put_account : (counter : ℕ) → IfSome (put_account a m counter) IsLawful
  lawful-put_account counter = where_lawful _ _ (λ unseen.
      let first = and_parts _ _ (and_parts _ _ unseen).0 in
      let last = eqb-true a.last 0 first.0 in
      let none = eqb-true a.counter 0 first.1 in
      lawful-later a counter m (omega arith) (omega arith) lawful)

  lawful-put_vault : (name : List ℕ) → IfSome (put_vault a m name) IsLawful
  lawful-put_vault name = where_lawful _ _ (λ fits.
      let parts = and_parts (not (map.contains_key a.vaults name)) (nat_le m a.last) fits in
      lawful-insert a a.counter a.last (omega arith) (omega arith) lawful name (new_vault m) (none_there _ (not_true _ parts.0))
      (later_vault a.counter a.counter (omega arith) m a.last (le_of m a.last parts.1) (new_vault m) (new_lawful a.counter m))
      (λ blob. vault_total-new_vault (naming blob) m))

  -- a lock of a text that reads as its policy
  lawful-kept_lock : (name : List ℕ) (number : ℕ) (locked : Bool) (text : List ℕ)
      → IfSome (elim (kept_lock m number locked text) [ None ↦ None | Some lock ↦ put_lock a name lock ]) IsLawful
  lawful-kept_lock name number locked text = elim (policy_of text) as (λ r. policy_of text ≡ r → IfSome (elim (elim r as (λ _. Option Lock) [ Err fault ↦ None | Ok read ↦ Some (record { number = number; text = text; policy = read; created = m; locked = locked }) ]) [ None ↦ None | Some lock ↦ put_lock a name lock ]) IsLawful) [
    | Err fault ↦ (λ e. tt)
    | Ok read ↦ (λ e. lawful-put_lock a lawful name (record { number = number; text = text; policy = read; created = m; locked = locked }) e)
  ] refl

  pub lawful-put : (item : Kept) → names_some a item ≡ false → IfSome (put a m item) IsLawful
  lawful-put (kept.Account counter) new = lawful-put_account counter
  lawful-put (kept.Vault name) new = lawful-put_vault name
  lawful-put (kept.Archive name number held size description leaves blobs) new = made_passes (is_body size leaves) _ _ (λ body.
      lawful-put_archive a lawful name held number (record { size = size; leaves = leaves; tree = root_of_digests leaves; description = description; created = m; blobs = numbers_of blobs })
      blobs (right_body size leaves body) refl new)
  lawful-put (kept.OpenUpload name number part_size description) new = lawful-put_upload a lawful name number (record { created = m; part_size = part_size; description = description; parts = map.empty }) refl
  lawful-put (kept.OpenPart name upload index size blob leaves runs) new = where_passes (nat_eq m 0) _ (λ zero. made_passes (is_body size leaves) _ _ (λ body.
      lawful-put_part a lawful name upload index (record { size = size; leaves = leaves; tree = root_of_digests leaves; blob = blob }) (right_body size leaves body) new))
  lawful-put (kept.Finished name upload size tree archive) new = lawful-put_finished a lawful name upload _
  lawful-put (kept.Job name number ready tier stage description work) new = lawful-put_job a lawful name number _
  lawful-put (kept.Line name job archive size created description tree) new = where_passes (nat_eq m 0) _ (λ fits. lawful-put_line a lawful name job _)
  lawful-put (kept.Lock name number locked policy) new = lawful-kept_lock name number locked policy

  -- so is the account that a call leaves, whether the item fits or not
  pub lawful_left : (r : Result Bool Memory) (after : AccountState) (put : Option AccountState) → IfSome put IsLawful → OnOk r (after ≡ unwrap_or put a) → OnOk r (IsLawful after)
  lawful_left (Err e) after put right is = tt
  lawful_left (Ok b) after None right is = subst IsLawful (sym is) lawful
  lawful_left (Ok b) after (Some next) right is = subst IsLawful (sym is) right

-- one more number of a list was pushed
pub numbers_more : (xs : List Blob) (i : ℕ) (d : Blob) → i < length xs → (numbers new whole : List ℕ) → new ≡ numbers ++ (get_or xs i d).number ∷ []
    → numbers ++ numbers_of (drop i xs) ≡ whole → new ++ numbers_of (drop (i + 1) xs) ≡ whole
numbers_more xs i d lt numbers new whole is so_far =
    ap (λ (l : List ℕ). l ++ numbers_of (drop (i + 1) xs)) is
    ∙ append_assoc numbers ((get_or xs i d).number ∷ []) (numbers_of (drop (i + 1) xs))
    ∙ ap (λ (l : List Blob). numbers ++ numbers_of l) (sym (drop_more xs i d lt))
    ∙ so_far
