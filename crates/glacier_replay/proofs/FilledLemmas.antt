-- The blobs that payloads make: each body has as many leaves as its blobs have blocks, and there is no other blob.
use Rattle.std.specs.Prelude.{◌≡◌, ℕ, ◌+◌, ◌≤◌, false, List, [], ◌∷◌, Option, Some, None, IfSome, is_some, length, unwrap_or, map as each}
use Rattle.std.specs.Cmp.Lexicographic.{slice_cmp}
use Rattle.std.specs.FinMap as map
use Rattle.std.specs.List.{AllByRecursion, flat_map}
use Rattle.std.specs.Map.{values_of}
use Rattle.std.specs.Ordering.{nat_cmp}
use Rattle.std.proofs.Common.{sym, ◌∙◌, ap, subst, refl, arith}
use Rattle.std.proofs.lemmas.List.{length-append}
use Rattle.std.proofs.lemmas.List.Concat.{flat_map-cons}
use Rattle.glacier_base.proofs.LookUps.{if_some-empty}
use Rattle.glacier_base.proofs.Sorted.{rising}
use Rattle.glacier_bodies.specs.BlobAreas.{runs_of}
use Rattle.glacier_bodies.specs.Stands.{Layouts, at_blob}
use Rattle.glacier_bodies.proofs.NameLemmas.{no_blob_at}
use Rattle.glacier_extents.specs.declared.run.Run.{Run}
use Rattle.glacier_extents.specs.Runs.{block_count}
use Rattle.glacier_extents.proofs.RunLemmas.{block_count-append}
use Rattle.glacier_journal.specs.Listed.{Payloads}
use Rattle.glacier_records.specs.declared.records.Item.{Item}
use Rattle.glacier_records.specs.declared.records.Item.TheVariants as item
use Rattle.glacier_upload.specs.Completion.{covered, part_leaves}
use Rattle.glacier_upload.specs.Uploads.{part_blobs}
use Rattle.glacier_upload.proofs.CoverLemmas.{each_entry}
use Rattle.glacier_vault.specs.Account.{empty_account}
use Rattle.glacier_vault.specs.Freed.{times_in}
use Rattle.glacier_vault.specs.Lawful.{IsLawful}
use Rattle.glacier_vault.specs.Totals.{times_named}
use Rattle.glacier_vault.specs.declared.archive.Part.{Part}
use Rattle.glacier_vault.specs.declared.archive.Upload.{Upload}
use Rattle.glacier_vault.specs.declared.event.Event.{Event}
use Rattle.glacier_vault.specs.declared.state.AccountState.{AccountState}
use Rattle.glacier_vault.specs.Accounts.{Accounts, AllLawful, account_in}
use Rattle.glacier_replay.specs.Changes.{accounts_after, blobs_after, body_in, change_in, new_blob}
use Rattle.glacier_replay.specs.Made.{Holdings, BlocksFit, ItemFits, Leads, Makes, after_item, nothing}
use Rattle.glacier_replay.specs.Standing.{InAccount, InVault}
use Rattle.glacier_replay.proofs.BlobMaps.{is_account}
use Rattle.glacier_replay.proofs.BlobsAfter as blobs
use Rattle.glacier_replay.proofs.CounterLemmas.{of_replayed}
use Rattle.glacier_replay.proofs.LawfulEvents.{lawful_after}
use Rattle.glacier_replay.proofs.Options.{of_some, there_is}
use Rattle.glacier_replay.proofs.PutLemmas.{inserted_lawful, lawful_in, none_lawful}
use Rattle.glacier_replay.proofs.StateLemmas.{of_open}
use Rattle.glacier_replay.proofs.ToldLemmas.{among_first, among_more, told_goes}
use Rattle.glacier_replay.proofs.VaultBodies.{told_after}

-- the blobs of a body have as many blocks as it has leaves
abbrev pub IsFull : Layouts → List ℕ → ℕ → List (List ℕ) → List ℕ → Type 0
IsFull layouts account size leaves blobs = block_count (runs_of layouts account blobs) ≡ length leaves

-- so it is of each body, accounts are lawful, and each blob is named
pub record IsFilled (held : Holdings) : Type 0 where
  pub lawful : AllLawful held.accounts
  pub full : (account : List ℕ) → InAccount (IsFull held.layouts account) (account_in held.accounts account)
  pub named : (account : List ℕ) (number : ℕ) (runs : List Run) → at_blob held.layouts account number ≡ Some runs → 1 ≤ times_named number (account_in held.accounts account).vaults

blocks_more : (layouts : Layouts) (account : List ℕ) (k : ℕ) (ks : List ℕ) → block_count (runs_of layouts account (k ∷ ks)) ≡ block_count (unwrap_or (at_blob layouts account k) []) + block_count (runs_of layouts account ks)
blocks_more layouts account k ks = block_count-append (unwrap_or (at_blob layouts account k) []) (runs_of layouts account ks)

-- a body stays full where its own blobs stay
full_same : (one other : Layouts) (account : List ℕ) (size : ℕ) (leaves : List (List ℕ)) (ks : List ℕ) → ((n : ℕ) → 1 ≤ times_in n ks → at_blob one account n ≡ at_blob other account n)
    → IsFull one account size leaves ks → IsFull other account size leaves ks
full_same one other account size leaves ks same full = sym (blocks_same ks same) ∙ full
  where
    blocks_same : (ks : List ℕ) → ((n : ℕ) → 1 ≤ times_in n ks → at_blob one account n ≡ at_blob other account n) → block_count (runs_of one account ks) ≡ block_count (runs_of other account ks)
    blocks_same [] same = refl
    blocks_same (k ∷ ks) same =
        omega (
          arith,
          blocks_more one account k ks,
          blocks_more other account k ks,
          ap (λ r. block_count (unwrap_or r [])) (same k (among_first k ks)),
          blocks_same ks (λ n among. same n (omega (arith, among, among_more n k ks))),
        )

-- the archive that parts become is full
full_whole : (layouts : Layouts) (account : List ℕ) (size : ℕ) (upload : Upload) → ((index : ℕ) → IfSome (map.get upload.parts index) (λ part. IsFull layouts account part.size part.leaves (part.blob ∷ [])))
    → IsFull layouts account size (part_leaves upload) (part_blobs upload)
full_whole layouts account size upload full =
    joined (map.entries upload.parts)
    (each_entry (λ index part. IsFull layouts account part.size part.leaves (part.blob ∷ [])) (map.entries upload.parts) (rising nat_cmp (map.entries upload.parts) (map.entries_sorted upload.parts))
    (λ q. subst (λ r. IfSome r (λ (part : Part). IsFull layouts account part.size part.leaves (part.blob ∷ []))) (map.get-entries upload.parts q) (full q)))
  where
    joined : (es : List (ℕ × Part)) → AllByRecursion (λ e. IsFull layouts account e.1.size e.1.leaves (e.1.blob ∷ [])) es
        → block_count (runs_of layouts account (each (λ (part : Part). part.blob) (values_of es))) ≡ length (flat_map (λ (part : Part). part.leaves) (values_of es))
    joined [] all = refl
    joined (e ∷ es) all =
        omega (
          arith,
          all.0,
          blocks_more layouts account e.1.blob [],
          blocks_more layouts account e.1.blob (each (λ (part : Part). part.blob) (values_of es)),
          joined es all.1,
          ap length (flat_map-cons (λ (part : Part). part.leaves) e.1 (values_of es)),
          length-append e.1.leaves (flat_map (λ (part : Part). part.leaves) (values_of es)),
        )

module _ (held : Holdings) (filled : IsFilled held) (account : List ℕ) (m : ℕ) (event : Event) (runs : List Run)
    (fit : BlocksFit held.layouts event runs) (done : AccountState × List ℕ) (done_is : change_in held.accounts account m event ≡ Some done) where
  abbrev before : AccountState
  before = account_in held.accounts account

  lawful : IsLawful (account_in held.accounts account)
  lawful = lawful_in held.accounts filled.lawful account

  abbrev with_body : Layouts
  with_body = blobs.with_body held.accounts held.layouts account lawful m event runs done done_is

  abbrev after : Layouts
  after = blobs.after held.accounts held.layouts account lawful m event runs done done_is

  full_before : InAccount (IsFull with_body account) before
  full_before = told_goes before (λ size leaves ks named. full_same held.layouts with_body account size leaves ks
      (λ n among. sym (blobs.kept held.accounts held.layouts account lawful m event runs done done_is n (named n among)))) (filled.full account)

  full_new : IfSome (body_in event) (λ its. IsFull with_body account its.0 its.1 (before.counter ∷ []))
  full_new = at (body_in event) refl fit.count
    where
      at : (r : Option (ℕ × List (List ℕ))) → body_in event ≡ r → block_count runs ≡ (elim r as (λ _. ℕ) [ None ↦ 0 | Some told ↦ length told.1 ])
          → IfSome r (λ its. IsFull with_body account its.0 its.1 (before.counter ∷ []))
      at None e count = tt
      at (Some told) e count =
          omega (arith, count, blocks_more with_body account before.counter [], ap (λ r. block_count (unwrap_or r [])) (blobs.new_here held.accounts held.layouts account lawful m event runs done done_is (ap is_some e)))

  full_done : InAccount (IsFull with_body account) done.0
  full_done = told_after (IsFull with_body account) before m full_before done event (record {
    body = full_new;
    whole = λ name number upload _ is_open no_gap some. of_open before name number upload is_open (λ vault there open_there.
        full_whole with_body account (covered upload) upload
        (of_some (λ (u : Upload). (index : ℕ) → IfSome (map.get u.parts index) (λ part. IsFull with_body account part.size part.leaves (part.blob ∷ []))) (map.get vault.uploads number) upload open_there
        ((of_some (InVault (IsFull with_body account)) (map.get before.vaults name) vault there (full_before name)).parts number)));
  }) (blobs.fits held.accounts held.layouts account lawful m event runs done done_is)

  full_here : InAccount (IsFull after account) done.0
  full_here = told_goes done.0 (λ size leaves ks named. full_same with_body after account size leaves ks
      (λ n among. sym (blobs.stays held.accounts held.layouts account lawful m event runs done done_is n (named n among)))) full_done

  full_there : (other : List ℕ) → is_account account other ≡ false → InAccount (IsFull after other) (account_in held.accounts other)
  full_there other apart = told_goes (account_in held.accounts other) (λ size leaves ks named. full_same held.layouts after other size leaves ks
      (λ n among. sym (blobs.others_stay held.accounts held.layouts account lawful m event runs done done_is other apart n))) (filled.full other)

  filled_done : IsFilled (record { accounts = map.insert held.accounts account done.0; layouts = after })
  filled_done = record {
    lawful = inserted_lawful held.accounts account done.0 filled.lawful
        (let replayed = of_replayed before m event done done_is in lawful_after before m replayed.0 lawful done event replayed.1);
    full = blobs.of_each held.accounts held.layouts account lawful m event runs done done_is (λ a s. InAccount (IsFull after a) s) full_here full_there;
    named = blobs.named_after held.accounts held.layouts account lawful m event runs done done_is filled.named;
  }

-- a record that fits leaves what is held filled
filled_item : (held : Holdings) → IsFilled held → (account : List ℕ) (m : ℕ) (it : Item) → ItemFits held account m it → IsFilled (after_item held account m it)
filled_item held filled account m (item.Event event runs) fits = there_is (change_in held.accounts account m event) fits.fits (λ done is.
    subst (λ (r : Option (AccountState × List ℕ)). IsFilled (record { accounts = accounts_after held.accounts account r; layouts = blobs_after held.layouts account (new_blob (account_in held.accounts account).counter event runs) r }))
    (sym is) (filled_done held filled account m event runs fits.blocks_fit done is))
filled_item held filled account m (item.Kept kept) fits = absurd fits

-- nothing is
nothing_filled : IsFilled nothing
nothing_filled = record {
  lawful = none_lawful;
  full = λ account. subst (λ r. InAccount (IsFull map.empty account) (unwrap_or r empty_account)) (sym (map.get-empty (slice_cmp nat_cmp) account)) (if_some-empty (slice_cmp nat_cmp) (InVault (IsFull map.empty account)));
  named = λ account number runs there. let no : None ≡ Some runs = sym (no_blob_at account number) ∙ there in cc;
}

filled_leads : (payloads : Payloads) (first last : Holdings) → IsFilled first → Leads first payloads last → IsFilled last
filled_leads [] first last filled leads = subst IsFilled leads filled
filled_leads (payload ∷ payloads) first last filled leads =
    let adds = leads.1 in
    filled_leads payloads leads.0 last (subst IsFilled (sym adds.after_is) (filled_item first filled adds.this.account adds.this.moment adds.this.item adds.fits)) leads.2

-- and so is what payloads make
pub made_filled : (payloads : Payloads) (held : Holdings) → Leads nothing payloads held → IsFilled held
made_filled payloads held leads = filled_leads payloads nothing held nothing_filled leads

pub made_lawful : (payloads : Payloads) (accounts : Accounts) (layouts : Layouts) → Makes payloads accounts layouts → AllLawful accounts
made_lawful payloads accounts layouts makes = (made_filled payloads (record { accounts = accounts; layouts = layouts }) makes).lawful
