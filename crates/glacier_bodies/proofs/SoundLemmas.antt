-- Which blocks are free and which are a blob's, when bodies begin and end.
use Rattle.std.specs.Prelude.{◌≡◌, ◌⊎◌, ℕ, ◌+◌, Bool, true, false, ◌&&◌, ◌||◌, not, List, [], Some, None, option_and_then}
use Rattle.std.specs.Prelude.{Result, OnOk, OnErr}
use Rattle.std.specs.declared.result.Result.TheVariants.{Ok, Err}
use Rattle.std.specs.Cmp.Lexicographic.{slice_cmp}
use Rattle.std.specs.FinMap as map
use Rattle.std.specs.Ordering.{nat_cmp}
use Rattle.std.proofs.Common.{sym, ◌∙◌, ap, subst, refl, inl, inr, arith}
use Rattle.glacier_extents.specs.declared.run.Run.{Run}
use Rattle.glacier_extents.specs.FreeRuns.{blocks, AllIn, Claims}
use Rattle.glacier_extents.specs.Runs.{has_block, block_count, AreRuns, AreDistinct}
use Rattle.glacier_extents.proofs.FreeLemmas.{no_both}
use Rattle.glacier_extents.proofs.CountLemmas.{distinct_runs}
use Rattle.glacier_bodies.specs.BlobAreas.{IsSound, IsOpen, Releases, with_blob, without_blob}
use Rattle.glacier_bodies.specs.Blobs.{IsApart}
use Rattle.glacier_bodies.specs.Stands.{Layouts, at_blob, IsUnnamed}
use Rattle.glacier_bodies.proofs.NameLemmas.{blob_after, blob_without}

-- what two lists of runs don't share, neither shares with the other
pub apart_both : (xs ys : List Run) → IsApart (has_block xs) ys → IsApart (has_block ys) xs
apart_both xs ys apart b its = elim (has_block xs b) as (λ v. has_block xs b ≡ v → v ≡ false) [
  | true ↦ (λ e. absurd (no_both (has_block ys b) its (apart b e)))
  | false ↦ (λ e. refl)
] refl

-- a test that fails wherever another holds
not_where : (a b : Bool) → (a ≡ true → b ≡ true) → b ≡ false → a ≡ false
not_where true b to out = absurd (no_both b (to refl) out)
not_where false b to out = refl

or_false : (a b : Bool) → a ≡ false → b ≡ false → (a || b) ≡ false
or_false true b x y = cc
or_false false b x y = y

and_first : (a b : Bool) → a ≡ false → (a && b) ≡ false
and_first true b x = cc
and_first false b x = refl

and_not : (a b : Bool) → b ≡ true → (a && not b) ≡ false
and_not true b x = ap not x
and_not false b x = refl

no_blob : {X : Type 0} (P : Type 0) (x : X) → None ≡ Some x → P
no_blob P x e = cc

-- no blob
pub sound_empty : (free : List Run) → AreRuns 0 blocks free → IsSound free map.empty
sound_empty free are = record {
  free_runs = are;
  apart = record { distinct = λ a n r is. none a n r is; apart = λ a n r a' n' r' is is' two. none a n r is };
  used = λ a n r is. none a n r is;
}
  where
    none : {P : Type 0} (a : List ℕ) (n : ℕ) (r : List Run) → at_blob {X = List Run} map.empty a n ≡ Some r → P
    none {P} a n r is = no_blob P r (sym (ap (λ q. option_and_then (λ i. map.get i n) q) (map.get-empty (slice_cmp nat_cmp) a)) ∙ is)

module _ (free : List Run) (blobs : Layouts) (sound : IsSound free blobs) where
  -- fewer free blocks
  pub sound_fewer : (new : List Run) → AreRuns 0 blocks new
      → ((b : ℕ) → has_block free b ≡ false → has_block new b ≡ false) → IsSound new blobs
  sound_fewer new are fewer = record { free_runs = are; apart = sound.apart; used = λ a n r is b its. fewer b (sound.used a n r is b its) }

  -- blocks that no blob has became free
  pub sound_more : (runs new : List Run) → AreRuns 0 blocks new → IsUnnamed (has_block runs) blobs
      → ((b : ℕ) → has_block new b ≡ (has_block free b || has_block runs b)) → IsSound new blobs
  sound_more runs new are unnamed more = record {
    free_runs = are;
    apart = sound.apart;
    used = λ a n r is b its. more b ∙ or_false (has_block free b) (has_block runs b) (sound.used a n r is b its) (apart_both runs r (unnamed a n r is) b its);
  }

  -- an open body's blocks became a blob's
  module _ (account : List ℕ) (number : ℕ) (runs : List Run)
      (its_own : IsOpen (record { free = free; blobs = blobs }) runs) where
    named : (a : List ℕ) (n : ℕ) (r : List Run) → at_blob (with_blob blobs account number runs) a n ≡ Some r
        → ((a ≡ account) × (n ≡ number) × (r ≡ runs)) ⊎ (at_blob blobs a n ≡ Some r)
    named a n r is = blob_after blobs account a number n runs r is

    pub sound_named : IsSound free (with_blob blobs account number runs)
    sound_named = record {
      free_runs = sound.free_runs;
      apart = record {
        distinct = λ a n r is. elim (named a n r is) [
          | inl new ↦ subst (λ (q : List Run). AreDistinct blocks q) (sym new.2) its_own.distinct
          | inr old ↦ sound.apart.distinct a n r old
        ];
        apart = λ a n r a' n' r' is is' two. elim (named a n r is) [
          | inl new ↦ (elim (named a' n' r' is') [
            | inl new' ↦ absurd (two (new.0 ∙ sym new'.0) (new.1 ∙ sym new'.1))
            | inr old' ↦ subst (λ (q : List Run). IsApart (has_block q) r') (sym new.2) (its_own.unnamed a' n' r' old')
          ])
          | inr old ↦ (elim (named a' n' r' is') [
            | inl new' ↦ subst (λ (q : List Run). IsApart (has_block r) q) (sym new'.2) (apart_both runs r (its_own.unnamed a n r old))
            | inr old' ↦ sound.apart.apart a n r a' n' r' old old' two
          ])
        ];
      };
      used = λ a n r is. elim (named a n r is) [
        | inl new ↦ subst (λ (q : List Run). IsApart (has_block q) free) (sym new.2) its_own.used
        | inr old ↦ sound.used a n r old
      ];
    }

  -- a blob went out
  pub sound_without : (account : List ℕ) (number : ℕ) → IsSound free (without_blob blobs account number)
  sound_without account number = record {
    free_runs = sound.free_runs;
    apart = record {
      distinct = λ a n r is. sound.apart.distinct a n r (blob_without blobs account a number n r is).0;
      apart = λ a n r a' n' r' is is' two. sound.apart.apart a n r a' n' r' (blob_without blobs account a number n r is).0 (blob_without blobs account a' number n' r' is').0 two;
    };
    used = λ a n r is. sound.used a n r (blob_without blobs account a number n r is).0;
  }

  -- its blocks are no other's
  pub unnamed_without : (account : List ℕ) (number : ℕ) (runs : List Run) → at_blob blobs account number ≡ Some runs
      → IsUnnamed (has_block runs) (without_blob blobs account number)
  unnamed_without account number runs there a n r is =
      let other = blob_without blobs account a number n r is in
      sound.apart.apart account number runs a n r there other.0 other.1

  -- claimed blocks are an open body's
  module _ (n : ℕ) (new claimed : List Run) (claims : Claims n free new claimed) where
    pub fewer : (b : ℕ) → has_block free b ≡ false → has_block new b ≡ false
    fewer b out = claims.rest b ∙ and_first (has_block free b) (not (has_block claimed b)) out

    pub open_claimed : IsOpen (record { free = new; blobs = blobs }) claimed
    open_claimed = record {
      distinct = distinct_runs 0 blocks claimed claims.fewest;
      used = λ b its. claims.rest b ∙ and_not (has_block free b) (has_block claimed b) its;
      unnamed = λ a m r is. apart_both r claimed (λ b its. not_where (has_block claimed b) (has_block free b) (claims.free b) (sound.used a m r is b its));
    }

    pub open_still : (other : List Run) → IsOpen (record { free = free; blobs = blobs }) other → IsOpen (record { free = new; blobs = blobs }) other × IsApart (has_block claimed) other
    open_still other is = (
      record { distinct = is.distinct; used = λ b its. fewer b (is.used b its); unnamed = is.unnamed },
      apart_both other claimed (λ b its. not_where (has_block claimed b) (has_block free b) (claims.free b) (is.used b its)),
    )

-- blocks that are given back
pub releases : (free new : List Run) (blobs left : Layouts) (runs : List Run)
    → ((b : ℕ) → has_block new b ≡ (has_block free b || has_block runs b))
    → block_count new ≡ block_count free + block_count runs
    → ((other : List Run) → IsUnnamed (has_block other) blobs → IsUnnamed (has_block other) left)
    → Releases (record { free = free; blobs = blobs }) (record { free = new; blobs = left }) runs
releases free new blobs left runs more count fewer = record {
  blocks_are = more;
  count_is = count;
  others = λ other is apart. record {
    distinct = is.distinct;
    used = λ b its. more b ∙ or_false (has_block free b) (has_block runs b) (is.used b its) (apart_both runs other apart b its);
    unnamed = fewer other is.unnamed;
  };
}

-- what is no blob's is none of fewer blobs'
pub unnamed_fewer : (blobs : Layouts) (account : List ℕ) (number : ℕ) (other : List Run)
    → IsUnnamed (has_block other) blobs → IsUnnamed (has_block other) (without_blob blobs account number)
unnamed_fewer blobs account number other unnamed a n r is = unnamed a n r (blob_without blobs account a number n r is).0

-- no blob was there
pub releases_none : (free : List Run) (blobs : Layouts) (account : List ℕ) (number : ℕ) → Releases (record { free = free; blobs = blobs }) (record { free = free; blobs = without_blob blobs account number }) []
releases_none free blobs account number = releases free free blobs (without_blob blobs account number) [] (λ b. sym (or_none (has_block free b))) (omega arith) (unnamed_fewer blobs account number)
  where
    or_none : (a : Bool) → (a || false) ≡ a
    or_none true = refl
    or_none false = refl

-- whichever way a call ended
pub either_result : {T E A B P : Type 0} (r : Result T E) → OnOk r A → OnErr r B → (A → P) → (B → P) → P
either_result (Ok x) a b from_ok from_err = from_ok a
either_result (Err x) a b from_ok from_err = from_err b

pub on_err_weaker : {T E A B : Type 0} (r : Result T E) → (A → B) → OnErr r A → OnErr r B
on_err_weaker (Ok x) f a = tt
on_err_weaker (Err x) f a = f a

-- marked blocks are nobody's yet
module _ (free : List Run) (blobs : Layouts) (sound : IsSound free blobs) (new runs : List Run) (are : AreRuns 0 blocks new) (distinct : AreDistinct blocks runs) (all : AllIn free runs)
    (rest : (b : ℕ) → has_block new b ≡ (has_block free b && not (has_block runs b))) where
  pub sound_marked : IsSound new blobs
  sound_marked = sound_fewer free blobs sound new are (λ b out. rest b ∙ and_first (has_block free b) (not (has_block runs b)) out)

  pub open_marked : IsOpen (record { free = new; blobs = blobs }) runs
  open_marked = record {
    distinct = distinct;
    used = λ b its. rest b ∙ and_not (has_block free b) (has_block runs b) its;
    unnamed = λ a m r is. apart_both r runs (λ b its. not_where (has_block runs b) (has_block free b) (all b) (sound.used a m r is b its));
  }
