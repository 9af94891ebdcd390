-- What there is for a blob, after blobs came and went.
use Rattle.std.specs.Prelude.{◌≡◌, ◌⊎◌, ℕ, ◌+◌, ◌<◌, Bool, true, false, cond, ◌&&◌, ◌||◌, List, [], ◌∷◌, Option, Some, None, is_some, unwrap_or, option_and_then, length, drop}
use Rattle.std.specs.Cmp.{nat_cmp_total}
use Rattle.std.specs.Cmp.Lexicographic.{nat_list_cmp_total, slice_cmp}
use Rattle.std.specs.FinMap as map
use Rattle.std.specs.FinMap.{FinMap}
use Rattle.std.specs.List.{list_any}
use Rattle.std.specs.Option.{option_map}
use Rattle.std.specs.Ordering.{nat_cmp, eq_by_cmp}
use Rattle.std.proofs.Common.{sym, ◌∙◌, ap, refl, inl, inr, get_or}
use Rattle.std.proofs.lemmas.List.{drop_more}
use Rattle.glacier_base.proofs.Changed.{get-changed_at}
use Rattle.glacier_base.proofs.Finite.{bytes_cmp-IsAntisymmetric}
use Rattle.glacier_base.proofs.Sorted.{tied}
use Rattle.glacier_bodies.specs.BlobAreas.{with_blob, without_blob}
use Rattle.glacier_bodies.specs.Stands.{ByBlob, at_blob}
use Rattle.glacier_vault.specs.declared.event.Event.{Event}
use Rattle.glacier_vault.specs.declared.state.AccountState.{AccountState}
use Rattle.glacier_replay.specs.Changes.{body_in, new_blob, with_new, without_blobs, blobs_after}

-- an account is this one
abbrev pub is_account : List ℕ → List ℕ → Bool
is_account account a = eq_by_cmp (slice_cmp nat_cmp) a account

pub account_is : (account a : List ℕ) → is_account account a ≡ true → a ≡ account
account_is account a t = bytes_cmp-IsAntisymmetric a account (tied _ t)

pub number_is : (number n : ℕ) → eq_by_cmp nat_cmp n number ≡ true → n ≡ number
number_is number n t = map.nat_cmp-IsAntisymmetric n number (tied _ t)

-- what is there for a number, if an account has a map
abbrev pub look : {X : Type 0} → ℕ → Option (FinMap nat_cmp X) → Option X
look n r = option_and_then (λ inner. map.get inner n) r

module _ {X : Type 0} where
  inner_of : (r : Option (FinMap nat_cmp X)) (n : ℕ) → map.get (unwrap_or r map.empty) n ≡ look n r
  inner_of None n = map.get-empty nat_cmp n
  inner_of (Some inner) n = refl

  inner_without : (r : Option (FinMap nat_cmp X)) (number n : ℕ) → look n (option_map (λ inner. map.remove inner number) r) ≡ cond (eq_by_cmp nat_cmp n number) None (look n r)
  inner_without None number n = elim (eq_by_cmp nat_cmp n number) as (λ b. ◌≡◌ {A = Option X} None (cond b None None)) [ true ↦ refl | false ↦ refl ]
  inner_without (Some inner) number n = map.get-remove nat_cmp_total inner number n

  module _ (m : ByBlob X) (account : List ℕ) (number : ℕ) (a : List ℕ) (n : ℕ) where
    pub at_with : (x : X) → at_blob (with_blob m account number x) a n ≡ cond (is_account account a && eq_by_cmp nat_cmp n number) (Some x) (at_blob m a n)
    at_with x = ap (look n) (map.get-insert nat_list_cmp_total m account inner a) ∙ at (is_account account a) refl
      where
        inner : FinMap nat_cmp X
        inner = map.insert (unwrap_or (map.get m account) map.empty) number x

        at : (b : Bool) → is_account account a ≡ b → look n (cond b (Some inner) (map.get m a)) ≡ cond (b && eq_by_cmp nat_cmp n number) (Some x) (look n (map.get m a))
        at true t =
            map.get-insert nat_cmp_total (unwrap_or (map.get m account) map.empty) number x n
            ∙ ap (cond (eq_by_cmp nat_cmp n number) (Some x)) (inner_of (map.get m account) n ∙ ap (λ k. look n (map.get m k)) (sym (account_is account a t)))
        at false t = refl

    pub at_without : at_blob (without_blob m account number) a n ≡ cond (is_account account a && eq_by_cmp nat_cmp n number) None (at_blob m a n)
    at_without = ap (look n) (get-changed_at nat_list_cmp_total (λ inner. map.remove inner number) m account a) ∙ at (is_account account a)
      where
        at : (b : Bool) → look n (cond b (option_map (λ inner. map.remove inner number) (map.get m a)) (map.get m a)) ≡ cond (b && eq_by_cmp nat_cmp n number) None (look n (map.get m a))
        at true = inner_without (map.get m a) number n
        at false = refl

  -- the accounts that have a map
  pub has_with : (m : ByBlob X) (account : List ℕ) (number : ℕ) (x : X) (a : List ℕ) → map.contains_key (with_blob m account number x) a ≡ (is_account account a || map.contains_key m a)
  has_with m account number x a = ap is_some (map.get-insert nat_list_cmp_total m account (map.insert (unwrap_or (map.get m account) map.empty) number x) a) ∙ at (is_account account a)
    where
      at : (b : Bool) → is_some (cond b (Some (map.insert (unwrap_or (map.get m account) map.empty) number x)) (map.get m a)) ≡ (b || map.contains_key m a)
      at true = refl
      at false = refl

  pub has_without : (m : ByBlob X) (account : List ℕ) (number : ℕ) (a : List ℕ) → map.contains_key (without_blob m account number) a ≡ map.contains_key m a
  has_without m account number a = ap is_some (get-changed_at nat_list_cmp_total (λ inner. map.remove inner number) m account a) ∙ at (is_account account a) (map.get m a)
    where
      at : (b : Bool) (r : Option (FinMap nat_cmp X)) → is_some (cond b (option_map (λ inner. map.remove inner number) r) r) ≡ is_some r
      at true None = refl
      at true (Some inner) = refl
      at false r = refl

-- a blob is one of these of an account
abbrev pub is_among : List ℕ → List ℕ → List ℕ → ℕ → Bool
is_among account numbers a n = is_account account a && list_any (eq_by_cmp nat_cmp n) numbers

-- it is the new one of an event
abbrev pub is_new : List ℕ → ℕ → Event → List ℕ → ℕ → Bool
is_new account counter event a n = is_some (body_in event) && (is_account account a && eq_by_cmp nat_cmp n counter)

module _ {X : Type 0} (account a : List ℕ) (n : ℕ) where
  pub at_without_blobs : (m : ByBlob X) (numbers : List ℕ) → at_blob (without_blobs m account numbers) a n ≡ cond (is_among account numbers a n) None (at_blob m a n)
  at_without_blobs m [] = elim (is_account account a) as (λ b. at_blob m a n ≡ cond (b && false) None (at_blob m a n)) [ true ↦ refl | false ↦ refl ]
  at_without_blobs m (number ∷ numbers) =
      at_without_blobs (without_blob m account number) numbers
      ∙ ap (cond (is_among account numbers a n) None) (at_without m account number a n)
      ∙ joined (is_account account a) (eq_by_cmp nat_cmp n number) (list_any (eq_by_cmp nat_cmp n) numbers) (at_blob m a n)
    where
      joined : (e f g : Bool) (r : Option X) → cond (e && g) None (cond (e && f) None r) ≡ cond (e && (f || g)) None r
      joined true true true r = refl
      joined true true false r = refl
      joined true false g r = refl
      joined false f g r = refl

  pub at_new : (m : ByBlob X) (counter : ℕ) (event : Event) (x : X) → at_blob (with_new m account (new_blob counter event x)) a n ≡ cond (is_new account counter event a n) (Some x) (at_blob m a n)
  at_new m counter event x = at (body_in event)
    where
      at : (r : Option (ℕ × List (List ℕ))) → at_blob (with_new m account (elim r [ None ↦ None | Some told ↦ Some (counter, x) ])) a n ≡ cond (is_some r && (is_account account a && eq_by_cmp nat_cmp n counter)) (Some x) (at_blob m a n)
      at None = refl
      at (Some told) = at_with m account counter a n x

  -- after an event that fits
  pub at_after : (m : ByBlob X) (counter : ℕ) (event : Event) (x : X) (done : AccountState × List ℕ)
      → at_blob (blobs_after m account (new_blob counter event x) (Some done)) a n ≡ cond (is_among account done.1 a n) None (cond (is_new account counter event a n) (Some x) (at_blob m a n))
  at_after m counter event x done = at_without_blobs (with_new m account (new_blob counter event x)) done.1 ∙ ap (cond (is_among account done.1 a n) None) (at_new m counter event x)

-- a blob that is there after an event isn't freed, and is the new one or was there
pub was_there : {X : Type 0} (account a : List ℕ) (n : ℕ) (m : ByBlob X) (counter : ℕ) (event : Event) (x y : X) (done : AccountState × List ℕ)
    → at_blob (blobs_after m account (new_blob counter event x) (Some done)) a n ≡ Some y
    → (is_among account done.1 a n ≡ false) × (((is_new account counter event a n ≡ true) × (y ≡ x)) ⊎ ((is_new account counter event a n ≡ false) × (at_blob m a n ≡ Some y)))
was_there {X} account a n m counter event x y done is = at (is_among account done.1 a n) (is_new account counter event a n) (sym (at_after account a n m counter event x done) ∙ is)
  where
    at : (b c : Bool) → cond b None (cond c (Some x) (at_blob m a n)) ≡ Some y → (b ≡ false) × (((c ≡ true) × (y ≡ x)) ⊎ ((c ≡ false) × (at_blob m a n ≡ Some y)))
    at true c e = cc
    at false true e = (refl, inl ((refl, cc)))
    at false false e = (refl, inr ((refl, e)))

-- the new one is the account's, at its counter
pub new_is : (account : List ℕ) (counter : ℕ) (event : Event) (a : List ℕ) (n : ℕ) → is_new account counter event a n ≡ true → (is_some (body_in event) ≡ true) × (a ≡ account) × (n ≡ counter)
new_is account counter event a n t = at (is_some (body_in event)) (is_account account a) (eq_by_cmp nat_cmp n counter) refl refl refl t
  where
    at : (b c d : Bool) → is_some (body_in event) ≡ b → is_account account a ≡ c → eq_by_cmp nat_cmp n counter ≡ d → (b && (c && d)) ≡ true → (is_some (body_in event) ≡ true) × (a ≡ account) × (n ≡ counter)
    at true true true e f g t = (e, account_is account a f, number_is counter n g)
    at true true false e f g t = cc
    at true false d e f g t = cc
    at false c d e f g t = cc

-- one blob less, of those that are still to go
pub without_next : {X : Type 0} (m : ByBlob X) (account numbers : List ℕ) (i : ℕ) → i < length numbers
    → without_blobs (without_blob m account (get_or numbers i 0)) account (drop (i + 1) numbers) ≡ without_blobs m account (drop i numbers)
without_next m account numbers i inside = sym (ap (without_blobs m account) (drop_more numbers i 0 inside))
