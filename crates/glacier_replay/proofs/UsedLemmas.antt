-- What all accounts use is what all blobs have.
use Rattle.std.specs.Prelude.{◌≡◌, ℕ, List, [], ◌∷◌, Option, Some, None, IfSome, sum_by, unwrap_or}
use Rattle.std.specs.Cmp.{nat_cmp_total}
use Rattle.std.specs.Cmp.Lexicographic.{nat_list_cmp_total}
use Rattle.std.specs.FinMap as map
use Rattle.std.specs.FinMap.{FinMap}
use Rattle.std.specs.Ordering.{nat_cmp}
use Rattle.std.proofs.Common.{sym, ◌∙◌, refl, arith}
use Rattle.std.proofs.lemmas.List.Sums.{sum_by-cons}
use Rattle.glacier_base.proofs.Finite.{bytes_cmp-IsAntisymmetric}
use Rattle.glacier_base.proofs.Sums.{weight}
use Rattle.glacier_bodies.specs.BlobAreas.{runs_of}
use Rattle.glacier_bodies.specs.Stands.{Layouts, at_blob}
use Rattle.glacier_extents.specs.declared.run.Run.{Run}
use Rattle.glacier_extents.specs.Runs.{block_count}
use Rattle.glacier_extents.proofs.RunLemmas.{block_count-append}
use Rattle.glacier_journal.specs.Listed.{Payloads}
use Rattle.glacier_vault.specs.Account.{empty_account}
use Rattle.glacier_vault.specs.Lawful.{IsDrawn, IsLawful, IsLawfulArchive, IsLawfulPart, IsLawfulUpload, IsLawfulVault}
use Rattle.glacier_vault.specs.Totals.{Archives, Vaults, blocks, need, times_named, total, upload_total, vault_total}
use Rattle.glacier_vault.specs.declared.archive.Upload.{Upload}
use Rattle.glacier_vault.specs.declared.state.AccountState.{AccountState}
use Rattle.glacier_vault.specs.declared.state.VaultState.{VaultState}
use Rattle.glacier_vault.specs.Accounts.{Accounts, account_in}
use Rattle.glacier_replay.specs.InUse.{blob_blocks, layout_blocks, used_by_all}
use Rattle.glacier_replay.specs.Made.{Holdings, Makes}
use Rattle.glacier_replay.specs.Standing.{InAccount, InVault}
use Rattle.glacier_replay.proofs.BlobMaps.{look}
use Rattle.glacier_replay.proofs.FilledLemmas.{IsFilled, IsFull, made_filled}
use Rattle.glacier_replay.proofs.NamedBlocks.{by_blob, named-all, named-empty}
use Rattle.glacier_replay.proofs.PutLemmas.{lawful_in}
use Rattle.glacier_replay.proofs.SameSums.{same_sums, sums_agree}

-- two facts on what is there
of_both : {X : Type 0} (P Q S : X → Type 0) (r : Option X) → ((x : X) → P x → Q x → S x) → IfSome r P → IfSome r Q → IfSome r S
of_both P Q S None f p q = tt
of_both P Q S (Some x) f p q = f x p q

-- an account that was never changed uses nothing
pub use_in : (accounts : Accounts) (account : List ℕ) → (account_in accounts account).used ≡ weight (λ (state : AccountState). state.used) (map.get accounts account)
use_in accounts account = at (map.get accounts account)
  where
    at : (r : Option AccountState) → (unwrap_or r empty_account).used ≡ weight (λ (state : AccountState). state.used) r
    at None = refl
    at (Some state) = refl

module _ (layouts : Layouts) (account : List ℕ) where
  -- the blocks of a blob
  abbrev blocks_at : ℕ → ℕ
  blocks_at n = weight block_count (look n (map.get layouts account))

  run_blocks : (ks : List ℕ) → block_count (runs_of layouts account ks) ≡ sum_by blocks_at ks
  run_blocks [] = refl
  run_blocks (k ∷ ks) =
      omega (
        arith,
        block_count-append (unwrap_or (at_blob layouts account k) []) (runs_of layouts account ks),
        own (at_blob layouts account k),
        run_blocks ks,
        sum_by-cons blocks_at k ks,
      )
    where
      own : (r : Option (List Run)) → block_count (unwrap_or r []) ≡ weight block_count r
      own None = refl
      own (Some runs) = refl

  module _ (counter last : ℕ) where
    of_archives : (archives : Archives) → ((n : ℕ) → IfSome (map.get archives n) (IsDrawn counter (IsLawfulArchive last) n)) → ((n : ℕ) → IfSome (map.get archives n) (λ archive. IsFull layouts account archive.size archive.leaves archive.blobs))
        → sum_by blocks.archive (map.values archives) ≡ sum_by (by_blob blocks_at).archive (map.values archives)
    of_archives archives right full = sums_agree nat_cmp_total map.nat_cmp-IsAntisymmetric blocks.archive (by_blob blocks_at).archive archives (λ n.
        of_both (IsDrawn counter (IsLawfulArchive last) n) (λ archive. IsFull layouts account archive.size archive.leaves archive.blobs) (λ archive. need archive.size ≡ sum_by blocks_at archive.blobs) (map.get archives n)
        (λ archive r f. sym r.right.body.count ∙ sym f ∙ run_blocks archive.blobs) (right n) (full n))

    of_upload : (upload : Upload) → IsLawfulUpload last upload → ((index : ℕ) → IfSome (map.get upload.parts index) (λ part. IsFull layouts account part.size part.leaves (part.blob ∷ [])))
        → upload_total blocks upload ≡ upload_total (by_blob blocks_at) upload
    of_upload upload right full =
        let parts : sum_by blocks.part (map.values upload.parts) ≡ sum_by (by_blob blocks_at).part (map.values upload.parts) = sums_agree nat_cmp_total map.nat_cmp-IsAntisymmetric blocks.part (by_blob blocks_at).part upload.parts (λ index.
        of_both (IsLawfulPart upload.part_size index) (λ part. IsFull layouts account part.size part.leaves (part.blob ∷ [])) (λ part. need part.size ≡ blocks_at part.blob) (map.get upload.parts index)
        (λ part r f. sym r.body.count ∙ sym f ∙ run_blocks (part.blob ∷ []) ∙ alone part.blob) (right.parts index) (full index)) in
        omega (arith, parts)
      where
        alone : (k : ℕ) → sum_by blocks_at (k ∷ []) ≡ blocks_at k
        alone k = omega (arith, sum_by-cons blocks_at k [])

    of_vault : (vault : VaultState) → IsLawfulVault counter last vault → InVault (IsFull layouts account) vault → vault_total blocks vault ≡ vault_total (by_blob blocks_at) vault
    of_vault vault right full =
        let uploads : sum_by (upload_total blocks) (map.values vault.uploads) ≡ sum_by (upload_total (by_blob blocks_at)) (map.values vault.uploads) = sums_agree nat_cmp_total map.nat_cmp-IsAntisymmetric (upload_total blocks) (upload_total (by_blob blocks_at)) vault.uploads (λ n.
        of_both (IsDrawn counter (IsLawfulUpload last) n) (λ upload. (index : ℕ) → IfSome (map.get upload.parts index) (λ part. IsFull layouts account part.size part.leaves (part.blob ∷ []))) (λ upload. upload_total blocks upload ≡ upload_total (by_blob blocks_at) upload) (map.get vault.uploads n)
        (λ upload r f. of_upload upload r.right f) (right.uploads n) (full.parts n)) in
        let live = of_archives vault.archives right.archives full.archives in
        let held = of_archives vault.held right.held full.held in
        omega (arith, live, held, uploads)

  -- what a lawful account uses, whose bodies are full
  used_named : (state : AccountState) → IsLawful state → InAccount (IsFull layouts account) state → state.used ≡ total (by_blob blocks_at) state.vaults
  used_named state lawful full = lawful.used ∙ sums_agree nat_list_cmp_total bytes_cmp-IsAntisymmetric (vault_total blocks) (vault_total (by_blob blocks_at)) state.vaults (λ name.
      of_both (IsLawfulVault state.counter state.last) (InVault (IsFull layouts account)) (λ vault. vault_total blocks vault ≡ vault_total (by_blob blocks_at) vault) (map.get state.vaults name)
      (of_vault state.counter state.last) (lawful.vaults name) (full name))

-- where each of its blobs is named once, that is what they have
blobs_named : (vaults : Vaults) (r : Option (FinMap nat_cmp (List Run))) → ((n : ℕ) (runs : List Run) → look n r ≡ Some runs → times_named n vaults ≡ 1)
    → total (by_blob (λ n. weight block_count (look n r))) vaults ≡ weight blob_blocks r
blobs_named vaults None once = named-empty block_count vaults
blobs_named vaults (Some blobs) once = named-all block_count vaults blobs once

pub filled_used : (held : Holdings) → IsFilled held → used_by_all held.accounts ≡ layout_blocks held.layouts
filled_used held filled = same_sums nat_list_cmp_total bytes_cmp-IsAntisymmetric (λ (state : AccountState). state.used) blob_blocks held.accounts held.layouts (λ account.
    let state : AccountState = account_in held.accounts account in
    let lawful : IsLawful state = lawful_in held.accounts filled.lawful account in
    sym (use_in held.accounts account)
    ∙ used_named held.layouts account state lawful (filled.full account)
    ∙ blobs_named state.vaults (map.get held.layouts account) (λ n runs there. omega (arith, (lawful.blobs n).once, filled.named account n runs there)))

pub made_used : (payloads : Payloads) (accounts : Accounts) (layouts : Layouts) → Makes payloads accounts layouts → used_by_all accounts ≡ layout_blocks layouts
made_used payloads accounts layouts makes =
    let held : Holdings = record { accounts = accounts; layouts = layouts } in
    filled_used held (made_filled payloads held makes)
