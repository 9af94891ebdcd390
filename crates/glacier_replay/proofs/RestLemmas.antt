-- The free blocks are those that no blob has, while records are done again.
use Rattle.std.specs.Prelude.{◌≡◌, ◌⊎◌, ◌↔◌, ℕ, ◌<◌, Bool, true, false, cond, ◌&&◌, ◌||◌, not, List, [], ◌∷◌, Option, Some, None, unwrap_or}
use Rattle.std.specs.FinMap as map
use Rattle.std.specs.Ordering.{nat_cmp, eq_by_cmp}
use Rattle.std.proofs.Common.{sym, ◌∙◌, ap, subst, refl, arith, inl, inr}
use Rattle.glacier_bodies.specs.BlobAreas.{with_blob, without_blob}
use Rattle.glacier_bodies.specs.Blobs.{IsApart}
use Rattle.glacier_bodies.specs.Stands.{Layouts, at_blob, AreApart, IsUnnamed}
use Rattle.glacier_bodies.proofs.NameLemmas.{blob_after, blob_here, blob_without, no_blob_at}
use Rattle.glacier_bodies.proofs.SoundLemmas.{apart_both}
use Rattle.glacier_extents.specs.declared.run.Run.{Run}
use Rattle.glacier_extents.specs.FreeRuns.{blocks, AllIn}
use Rattle.glacier_extents.specs.Runs.{in_run, has_block, AreDistinct}
use Rattle.glacier_extents.proofs.TakenLemmas.{run_bounds}
use Rattle.glacier_replay.specs.Made.{IsNobodys, IsRest}
use Rattle.glacier_replay.proofs.BlobMaps.{at_with, at_without, account_is, is_account, number_is}

-- distinct blocks lie below the last
pub below : (high : ℕ) (runs : List Run) → AreDistinct high runs → (b : ℕ) → has_block runs b ≡ true → b < high
below high [] distinct b t = cc
below high (run ∷ runs) distinct b t = at (in_run run b) refl t (below high runs distinct.3 b)
  where
    at : (c : Bool) → in_run run b ≡ c → (c || has_block runs b) ≡ true → (has_block runs b ≡ true → b < high) → b < high
    at true e t later = omega (arith, (run_bounds run b e).1, distinct.1)
    at false e t later = later t

pub or_either : (a b : Bool) → (a || b) ≡ true → (a ≡ true) ⊎ (b ≡ true)
or_either true b t = inl refl
or_either false b t = inr t

and_both : (a b : Bool) → (a && not b) ≡ true → (a ≡ true) × (b ≡ false)
and_both true true t = cc
and_both true false t = (refl, refl)
and_both false b t = cc

none_there : {P : Type 0} {X : Type 0} (x : X) → None ≡ Some x → P
none_there x e = cc

-- before the first record
pub rest_empty : (free : List Run) → ((b : ℕ) → (has_block free b ≡ true) ↔ (b < blocks)) → IsRest free map.empty
rest_empty free all = record {
  within = λ b t. (all b).0 t;
  nobodys = λ b t account number runs there. none_there runs (sym (no_blob_at account number) ∙ there);
  all = λ b low nobody. (all b).1 low;
}

module _ (free : List Run) (blobs : Layouts) (rest : IsRest free blobs) where
  -- free blocks are no blob's
  pub free_unnamed : (runs : List Run) → AllIn free runs → IsUnnamed (has_block runs) blobs
  free_unnamed runs all account number other there b its = rest.nobodys b (all b its) account number other there

  -- and blocks that are no blob's are free
  pub unnamed_free : (runs : List Run) → AreDistinct blocks runs → IsUnnamed (has_block runs) blobs → AllIn free runs
  unnamed_free runs distinct unnamed b its = rest.all b (below blocks runs distinct b its) (λ account number other there. unnamed account number other there b its)

  -- a blob came in
  module _ (account : List ℕ) (number : ℕ) (runs new : List Run) (fresh : at_blob blobs account number ≡ None)
      (taken : (b : ℕ) → has_block new b ≡ (has_block free b && not (has_block runs b))) where
    still : (b : ℕ) → IsNobodys b (with_blob blobs account number runs) → IsNobodys b blobs
    still b nobody a n other there = at (is_account account a) (eq_by_cmp nat_cmp n number) refl refl
      where
        at : (c d : Bool) → is_account account a ≡ c → eq_by_cmp nat_cmp n number ≡ d → has_block other b ≡ false
        at true true e f = none_there other (sym fresh ∙ ap (λ k. at_blob blobs k number) (sym (account_is account a e)) ∙ ap (at_blob blobs a) (sym (number_is number n f)) ∙ there)
        at true false e f = nobody a n other (at_with blobs account number a n runs ∙ ap (λ k. cond (k && eq_by_cmp nat_cmp n number) (Some runs) (at_blob blobs a n)) e ∙ ap (λ k. cond k (Some runs) (at_blob blobs a n)) f ∙ there)
        at false d e f = nobody a n other (at_with blobs account number a n runs ∙ ap (λ k. cond (k && eq_by_cmp nat_cmp n number) (Some runs) (at_blob blobs a n)) e ∙ there)

    pub rest_with : IsRest new (with_blob blobs account number runs)
    rest_with = record {
      within = λ b t. rest.within b (and_both (has_block free b) (has_block runs b) (sym (taken b) ∙ t)).0;
      nobodys = λ b t a n other there.
          let was = and_both (has_block free b) (has_block runs b) (sym (taken b) ∙ t) in
          elim (blob_after blobs account a number n runs other there) [
            | inl mine ↦ ap (λ (l : List Run). has_block l b) mine.2 ∙ was.1
            | inr old ↦ rest.nobodys b was.0 a n other old
          ];
      all = λ b low nobody.
          let own : has_block runs b ≡ false = nobody account number runs (blob_here blobs account number runs) in
          taken b ∙ ap (λ c. has_block free b && not c) own ∙ ap (λ c. c && true) (rest.all b low (still b nobody));
    }

  -- a blob went
  module _ (apart : AreApart blobs) (account : List ℕ) (number : ℕ) (new : List Run)
      (given : (b : ℕ) → has_block new b ≡ (has_block free b || has_block (unwrap_or (at_blob blobs account number) []) b)) where
    module _ (gone : Option (List Run)) (gone_is : at_blob blobs account number ≡ gone) where
      given_back : (b : ℕ) → has_block new b ≡ (has_block free b || has_block (unwrap_or gone []) b)
      given_back b = given b ∙ ap (λ r. has_block free b || has_block (unwrap_or r []) b) gone_is

      low : (b : ℕ) (r : Option (List Run)) → at_blob blobs account number ≡ r → has_block (unwrap_or r []) b ≡ true → b < blocks
      low b None e t = cc
      low b (Some runs) e t = below blocks runs (apart.distinct account number runs e) b t

      others : (b : ℕ) (r : Option (List Run)) → at_blob blobs account number ≡ r → has_block (unwrap_or r []) b ≡ true → IsNobodys b (without_blob blobs account number)
      others b None e t a n other there = cc
      others b (Some runs) e t a n other there =
          let was = blob_without blobs account a number n other there in
          apart.apart account number runs a n other e was.0 was.1 b t

      also : (b : ℕ) → has_block (unwrap_or gone []) b ≡ false → IsNobodys b (without_blob blobs account number) → IsNobodys b blobs
      also b own nobody a n other there = at (is_account account a) (eq_by_cmp nat_cmp n number) refl refl
        where
          at : (c d : Bool) → is_account account a ≡ c → eq_by_cmp nat_cmp n number ≡ d → has_block other b ≡ false
          at true true e f =
              let same : gone ≡ Some other = sym gone_is ∙ ap (λ k. at_blob blobs k number) (sym (account_is account a e)) ∙ ap (at_blob blobs a) (sym (number_is number n f)) ∙ there in
              sym (ap (λ r. has_block (unwrap_or r []) b) same) ∙ own
          at true false e f = nobody a n other (at_without blobs account number a n ∙ ap (λ k. cond (k && eq_by_cmp nat_cmp n number) None (at_blob blobs a n)) e ∙ ap (λ k. cond k None (at_blob blobs a n)) f ∙ there)
          at false d e f = nobody a n other (at_without blobs account number a n ∙ ap (λ k. cond (k && eq_by_cmp nat_cmp n number) None (at_blob blobs a n)) e ∙ there)

      pub rest_gone : IsRest new (without_blob blobs account number)
      rest_gone = record {
        within = λ b t. elim (or_either (has_block free b) (has_block (unwrap_or gone []) b) (sym (given_back b) ∙ t)) [
          | inl was ↦ rest.within b was
          | inr its ↦ low b gone gone_is its
        ];
        nobodys = λ b t. elim (or_either (has_block free b) (has_block (unwrap_or gone []) b) (sym (given_back b) ∙ t)) [
          | inl was ↦ (λ a n other there. rest.nobodys b was a n other (blob_without blobs account a number n other there).0)
          | inr its ↦ others b gone gone_is its
        ];
        all = λ b low_b nobody. given_back b ∙ either b low_b nobody (has_block (unwrap_or gone []) b) refl;
      }
        where
          either : (b : ℕ) → b < blocks → IsNobodys b (without_blob blobs account number) → (c : Bool) → has_block (unwrap_or gone []) b ≡ c → (has_block free b || c) ≡ true
          either b low_b nobody true e = or_true (has_block free b)
            where
              or_true : (k : Bool) → (k || true) ≡ true
              or_true true = refl
              or_true false = refl
          either b low_b nobody false e = ap (λ k. k || false) (rest.all b low_b (also b e nobody))

    pub rest_without : IsRest new (without_blob blobs account number)
    rest_without = rest_gone (at_blob blobs account number) refl

-- fewer blobs are apart
pub apart_without : (blobs : Layouts) (account : List ℕ) (number : ℕ) → AreApart blobs → AreApart (without_blob blobs account number)
apart_without blobs account number apart = record {
  distinct = λ a n runs there. apart.distinct a n runs (blob_without blobs account a number n runs there).0;
  apart = λ a n runs b k other there elsewhere two. apart.apart a n runs b k other (blob_without blobs account a number n runs there).0 (blob_without blobs account b number k other elsewhere).0 two;
}

-- a blob more, of blocks that no other has
pub apart_with : (blobs : Layouts) (account : List ℕ) (number : ℕ) (runs : List Run) → AreApart blobs → AreDistinct blocks runs → IsUnnamed (has_block runs) blobs → AreApart (with_blob blobs account number runs)
apart_with blobs account number runs apart distinct unnamed = record {
  distinct = λ a n other there. elim (blob_after blobs account a number n runs other there) [
    | inl mine ↦ subst (λ (l : List Run). AreDistinct blocks l) (sym mine.2) distinct
    | inr old ↦ apart.distinct a n other old
  ];
  apart = λ a n one b k other there elsewhere two. elim (blob_after blobs account a number n runs one there) [
    | inl mine ↦ (elim (blob_after blobs account b number k runs other elsewhere) [
      | inl yours ↦ absurd (two (mine.0 ∙ sym yours.0) (mine.1 ∙ sym yours.1))
      | inr old ↦ subst (λ (l : List Run). IsApart (has_block l) other) (sym mine.2) (unnamed b k other old)
    ])
    | inr old ↦ (elim (blob_after blobs account b number k runs other elsewhere) [
      | inl yours ↦ subst (λ (l : List Run). IsApart (has_block one) l) (sym yours.2) (apart_both runs one (unnamed a n one old))
      | inr older ↦ apart.apart a n one b k other old older two
    ])
  ];
}
