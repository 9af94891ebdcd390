-- The bytes of a body lie in its blobs' blocks, and nothing stands for no account.
use Rattle.std.specs.Prelude.{◌≡◌, ◌⊎◌, ℕ, ◌*◌, ◌%◌, List, [], ◌∷◌, Option, Some, None, is_some, length, unwrap_or}
use Rattle.std.specs.Cmp.Lexicographic.{slice_cmp}
use Rattle.std.specs.FinMap as map
use Rattle.std.specs.Ordering.{nat_cmp}
use Rattle.std.proofs.Common.{sym, ◌∙◌, ap, subst, refl, arith, inl, inr}
use Rattle.glacier_base.proofs.LookUps.{if_some-empty}
use Rattle.glacier_bodies.specs.BlobAreas.{AreFilled, bytes_of, runs_of}
use Rattle.glacier_bodies.specs.Blobs.{Holds}
use Rattle.glacier_bodies.specs.Stands.{Bodies, Layouts, at_blob}
use Rattle.glacier_bodies.proofs.ArchiveLemmas.{archive_held}
use Rattle.glacier_bodies.proofs.NameLemmas.{no_blob_at}
use Rattle.glacier_extents.specs.declared.run.Run.{Run}
use Rattle.glacier_extents.specs.Places.{block_size}
use Rattle.glacier_extents.specs.Runs.{block_count}
use Rattle.glacier_journal.specs.Listed.{Payloads}
use Rattle.glacier_treehash.specs.Tree.{mib}
use Rattle.glacier_vault.specs.Account.{empty_account}
use Rattle.glacier_vault.specs.Totals.{need}
use Rattle.glacier_replay.specs.Changes.{State}
use Rattle.glacier_replay.specs.Standing.{AreThere, InAccount, InVault, IsStateOf, IsTold, Matches}
use Rattle.glacier_replay.proofs.Options.{there_is}

module _ (layouts : Layouts) (bodies : Bodies) (matches : Matches layouts bodies) (account : List ℕ) where
  -- bytes that end with a whole MiB fill their blocks
  fill : (count size : ℕ) → count ≡ need size → size % mib ≡ 0 → size ≡ count * block_size
  fill count size is whole = omega (arith, is, whole)

  one : (n : ℕ) (ns bytes : List ℕ) → at_blob bodies account n ≡ Some bytes → (ns ≡ []) ⊎ (length bytes % mib ≡ 0) → (runs : List Run) → at_blob layouts account n ≡ Some runs
      → (ns ≡ []) ⊎ (length (unwrap_or (at_blob bodies account n) []) ≡ block_count runs * block_size)
  one n ns bytes there (inl last) runs laid = inl last
  one n ns bytes there (inr whole) runs laid = inr (ap (λ r. length (unwrap_or r [])) there ∙ fill (block_count runs) (length bytes) (matches.counts account n runs bytes laid there) whole)

  filled : (blobs : List ℕ) → AreThere bodies account blobs → AreFilled layouts bodies account blobs
  filled [] there = tt
  filled (n ∷ ns) there = (
    there_is (at_blob layouts account n) (matches.blobs account n ∙ ap is_some there.0.1) (λ runs laid. (runs, laid, one n ns there.0.0 there.0.1 there.0.2 runs laid)),
    filled ns there.1,
  )

-- each body that is told lies in its blobs' blocks
pub told_held : (payloads : Payloads) (layouts : Layouts) (content : List ℕ) (state : State) (account : List ℕ) (size : ℕ) (leaves : List (List ℕ)) (blobs : List ℕ) → IsStateOf payloads layouts content state
    → IsTold state.bodies account size leaves blobs → Holds (runs_of layouts account blobs) (bytes_of state.bodies account blobs) content
told_held payloads layouts content state account size leaves blobs is told = archive_held layouts state.bodies account blobs content is.held (filled layouts state.bodies is.matches account blobs told.there)

-- no payload is kept of no account
pub none_kept : (content : List ℕ) → IsStateOf [] map.empty content (record { accounts = map.empty; bodies = map.empty })
none_kept content = record {
  made = refl;
  matches = record {
    accounts = λ account. ap is_some (map.get-empty (slice_cmp nat_cmp) account) ∙ sym (ap is_some (map.get-empty (slice_cmp nat_cmp) account));
    blobs = λ account n. ap is_some (no_blob_at account n) ∙ sym (ap is_some (no_blob_at account n));
    counts = λ account n runs bytes there elsewhere. none there (no_blob_at account n);
  };
  held = λ account n runs there. none there (no_blob_at account n);
  tells = record {
    told = λ account. subst (λ r. InAccount (IsTold map.empty account) (unwrap_or r empty_account)) (sym (map.get-empty (slice_cmp nat_cmp) account)) (if_some-empty (slice_cmp nat_cmp) (InVault (IsTold map.empty account)));
    no_other = λ account n bytes there. none there (no_blob_at account n);
  };
}
  where
    none : {P X : Type 0} {r : Option X} {x : X} → r ≡ Some x → r ≡ None → P
    none {P} {X} {r} {x} there gone = let clash : None ≡ Some x = sym gone ∙ there in cc
