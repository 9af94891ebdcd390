-- The runs and the bytes of blobs go along with each other, event after event.
use Rattle.std.specs.Prelude.{◌≡◌, ◌⊎◌, ℕ, Bool, true, false, cond, ◌&&◌, ◌||◌, List, [], ◌∷◌, Option, Some, None, is_some, length}
use Rattle.std.specs.FinMap as map
use Rattle.std.specs.List.{list_any}
use Rattle.std.specs.Ordering.{nat_cmp, eq_by_cmp}
use Rattle.std.proofs.Common.{sym, ◌∙◌, ap, subst, refl, inl, inr}
use Rattle.std.proofs.Math.Bool.{and-false}
use Rattle.glacier_bodies.specs.BlobAreas.{without_blob}
use Rattle.glacier_bodies.specs.Blobs.{Holds}
use Rattle.glacier_bodies.specs.Stands.{ByBlob, Bodies, Layouts, AllHeld, at_blob}
use Rattle.glacier_extents.specs.declared.run.Run.{Run}
use Rattle.glacier_extents.specs.Runs.{block_count}
use Rattle.glacier_vault.specs.Totals.{need}
use Rattle.glacier_vault.specs.declared.event.Event.{Event}
use Rattle.glacier_vault.specs.declared.state.AccountState.{AccountState}
use Rattle.glacier_replay.specs.Changes.{body_in, new_blob, with_new, without_blobs, blobs_after}
use Rattle.glacier_replay.specs.Standing.{Matches}
use Rattle.glacier_replay.proofs.BlobMaps.{at_after, has_with, has_without, is_account, is_among, is_new, was_there}

-- a blob that isn't freed is the new one's, or as it was
pub is_there : {X : Type 0} (account a : List ℕ) (n : ℕ) (m : ByBlob X) (counter : ℕ) (event : Event) (x : X) (done : AccountState × List ℕ) (b : Bool)
    → is_among account done.1 a n ≡ false → is_new account counter event a n ≡ b
    → at_blob (blobs_after m account (new_blob counter event x) (Some done)) a n ≡ cond b (Some x) (at_blob m a n)
is_there {X} account a n m counter event x done b kept new =
    at_after account a n m counter event x done
    ∙ ap (λ (c : Bool). cond c None (cond (is_new account counter event a n) (Some x) (at_blob m a n))) kept
    ∙ ap (λ (c : Bool). cond c (Some x) (at_blob m a n)) new

-- of another account all stay
pub elsewhere : {X : Type 0} (account other : List ℕ) (n : ℕ) (m : ByBlob X) (counter : ℕ) (event : Event) (x : X) (done : AccountState × List ℕ) → is_account account other ≡ false
    → at_blob (blobs_after m account (new_blob counter event x) (Some done)) other n ≡ at_blob m other n
elsewhere account other n m counter event x done apart = is_there account other n m counter event x done false
    (ap (λ b. b && list_any (eq_by_cmp nat_cmp n) done.1) apart)
    (ap (λ b. is_some (body_in event) && (b && eq_by_cmp nat_cmp n counter)) apart ∙ and-false (is_some (body_in event)))

module _ {X Y : Type 0} where
  -- the same accounts have a map
  keys_without : (xs : ByBlob X) (ys : ByBlob Y) (account : List ℕ) (numbers : List ℕ) (a : List ℕ) → map.contains_key xs a ≡ map.contains_key ys a → map.contains_key (without_blobs xs account numbers) a ≡ map.contains_key (without_blobs ys account numbers) a
  keys_without xs ys account [] a same = same
  keys_without xs ys account (number ∷ numbers) a same = keys_without (without_blob xs account number) (without_blob ys account number) account numbers a (has_without xs account number a ∙ same ∙ sym (has_without ys account number a))

  pub keys_after : (xs : ByBlob X) (ys : ByBlob Y) (account : List ℕ) (counter : ℕ) (event : Event) (x : X) (y : Y) (done : AccountState × List ℕ) (a : List ℕ) → map.contains_key xs a ≡ map.contains_key ys a
      → map.contains_key (blobs_after xs account (new_blob counter event x) (Some done)) a ≡ map.contains_key (blobs_after ys account (new_blob counter event y) (Some done)) a
  keys_after xs ys account counter event x y done a same = keys_without (with_new xs account (new_blob counter event x)) (with_new ys account (new_blob counter event y)) account done.1 a (at (body_in event))
    where
      at : (r : Option (ℕ × List (List ℕ))) → map.contains_key (with_new xs account (elim r [ None ↦ None | Some told ↦ Some (counter, x) ])) a ≡ map.contains_key (with_new ys account (elim r [ None ↦ None | Some told ↦ Some (counter, y) ])) a
      at None = same
      at (Some told) = has_with xs account counter x a ∙ ap (λ b. is_account account a || b) same ∙ sym (has_with ys account counter y a)

  -- and the same blobs are there
  pub blobs_there : (xs : ByBlob X) (ys : ByBlob Y) (account : List ℕ) (counter : ℕ) (event : Event) (x : X) (y : Y) (done : AccountState × List ℕ) (a : List ℕ) (n : ℕ) → is_some (at_blob xs a n) ≡ is_some (at_blob ys a n)
      → is_some (at_blob (blobs_after xs account (new_blob counter event x) (Some done)) a n) ≡ is_some (at_blob (blobs_after ys account (new_blob counter event y) (Some done)) a n)
  blobs_there xs ys account counter event x y done a n same =
      ap is_some (at_after account a n xs counter event x done)
      ∙ at (is_among account done.1 a n) (is_new account counter event a n)
      ∙ sym (ap is_some (at_after account a n ys counter event y done))
    where
      at : (b c : Bool) → is_some (cond b None (cond c (Some x) (at_blob xs a n))) ≡ is_some (cond b None (cond c (Some y) (at_blob ys a n)))
      at true c = refl
      at false true = refl
      at false false = same

module _ (layouts : Layouts) (bodies : Bodies) (account : List ℕ) (counter : ℕ) (event : Event) (runs : List Run) (body : List ℕ) (done : AccountState × List ℕ) where
  abbrev runs_after : Layouts
  runs_after = blobs_after layouts account (new_blob counter event runs) (Some done)

  abbrev bytes_after : Bodies
  bytes_after = blobs_after bodies account (new_blob counter event body) (Some done)

  pub matches_after : Matches layouts bodies → block_count runs ≡ need (length body) → Matches runs_after bytes_after
  matches_after matches enough = record {
    accounts = λ a. keys_after layouts bodies account counter event runs body done a (matches.accounts a);
    blobs = λ a n. blobs_there layouts bodies account counter event runs body done a n (matches.blobs a n);
    counts = λ a n own bytes there elsewhere. at a n own bytes (was_there account a n layouts counter event runs own done there).1 (was_there account a n bodies counter event body bytes done elsewhere).1;
  }
    where
      at : (a : List ℕ) (n : ℕ) (own : List Run) (bytes : List ℕ)
          → ((is_new account counter event a n ≡ true) × (own ≡ runs)) ⊎ ((is_new account counter event a n ≡ false) × (at_blob layouts a n ≡ Some own))
          → ((is_new account counter event a n ≡ true) × (bytes ≡ body)) ⊎ ((is_new account counter event a n ≡ false) × (at_blob bodies a n ≡ Some bytes))
          → block_count own ≡ need (length bytes)
      at a n own bytes (inl new) (inl also) = ap block_count new.1 ∙ enough ∙ ap (λ l. need (length l)) (sym also.1)
      at a n own bytes (inl new) (inr old) = let no : true ≡ false = sym new.0 ∙ old.0 in cc
      at a n own bytes (inr old) (inl new) = let no : true ≡ false = sym new.0 ∙ old.0 in cc
      at a n own bytes (inr old) (inr older) = matches.counts a n own bytes old.1 older.1

  pub held_after : (content : List ℕ) → AllHeld layouts bodies content → Holds runs body content → AllHeld runs_after bytes_after content
  held_after content held stored a n own there = at (was_there account a n layouts counter event runs own done there)
    where
      at : (is_among account done.1 a n ≡ false) × (((is_new account counter event a n ≡ true) × (own ≡ runs)) ⊎ ((is_new account counter event a n ≡ false) × (at_blob layouts a n ≡ Some own)))
          → (bytes : List ℕ) × (at_blob bytes_after a n ≡ Some bytes) × Holds own bytes content
      at (kept, inl new) = (body, is_there account a n bodies counter event body done true kept new.0, subst (λ (l : List Run). Holds l body content) (sym new.1) stored)
      at (kept, inr old) =
          let was = held a n own old.1 in
          (was.0, is_there account a n bodies counter event body done false kept old.0 ∙ was.1, was.2)
