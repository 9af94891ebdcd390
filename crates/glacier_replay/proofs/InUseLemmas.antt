-- Free blocks and those in use are all; and how far up the blocks of a body lie.
use Rattle.std.specs.Prelude.{◌≡◌, ℕ, ◌+◌, ◌<◌, Bool, true, false, ◌&&◌, ◌||◌, not, List, ◌++◌}
use Rattle.std.proofs.Common.{◌∙◌, ap, sym, refl, arith}
use Rattle.glacier_bodies.specs.Stands.{Layouts, AreApart}
use Rattle.glacier_extents.specs.declared.run.Run.{Run}
use Rattle.glacier_extents.specs.FreeRuns.{blocks, Claims}
use Rattle.glacier_extents.specs.Runs.{has_block, block_count, AreRuns}
use Rattle.glacier_extents.proofs.CountLemmas.{claimed_low, free_and_used}
use Rattle.glacier_extents.proofs.RunLemmas.{has_block-append, block_count-append}
use Rattle.glacier_journal.specs.Listed.{Payloads}
use Rattle.glacier_vault.specs.Accounts.{Accounts}
use Rattle.glacier_replay.specs.InUse.{IsAreaOf, layout_blocks, used_by_all}
use Rattle.glacier_replay.specs.Made.{Holdings, IsRest, IsSettled, Makes, nothing}
use Rattle.glacier_replay.proofs.AllRuns.{all_runs, nobodys, not_in_all, runs_count, runs_distinct}
use Rattle.glacier_replay.proofs.SettledLemmas.{leads_settled, nothing_settled}
use Rattle.glacier_replay.proofs.UsedLemmas.{made_used}

module _ (free : List Run) (layouts : Layouts) (rest : IsRest free layouts) where
  not_free : (b : ℕ) → b < blocks → has_block (all_runs layouts) b ≡ not (has_block free b)
  not_free b low = at (has_block free b) refl (has_block (all_runs layouts) b) refl
    where
      at : (c : Bool) → has_block free b ≡ c → (d : Bool) → has_block (all_runs layouts) b ≡ d → d ≡ not c
      at true f d u = sym u ∙ not_in_all layouts b (rest.nobodys b f)
      at false f true u = refl
      at false f false u = let no : true ≡ false = sym (rest.all b low (nobodys layouts b u)) ∙ f in cc

  pub free_and_blobs : AreRuns 0 blocks free → AreApart layouts → block_count free + layout_blocks layouts ≡ blocks
  free_and_blobs runs apart = ap (λ n. block_count free + n) (sym (runs_count layouts)) ∙ free_and_used free (all_runs layouts) runs (runs_distinct layouts apart) not_free

pub free_and_used_all : (payloads : Payloads) (accounts : Accounts) (layouts : Layouts) (free : List Run) → Makes payloads accounts layouts → AreRuns 0 blocks free → IsRest free layouts
    → block_count free + used_by_all accounts ≡ blocks
free_and_used_all payloads accounts layouts free makes runs rest =
    let held : Holdings = record { accounts = accounts; layouts = layouts } in
    let settled : IsSettled held = leads_settled payloads nothing held nothing_settled makes in
    ap (λ n. block_count free + n) (made_used payloads accounts layouts makes) ∙ free_and_blobs free layouts rest runs settled.apart

-- where others are open, each block that isn't free is one of theirs, or a blob's
all_in_use : (payloads : Payloads) (accounts : Accounts) (layouts : Layouts) (own free : List Run) → IsAreaOf payloads accounts layouts own free
    → (b : ℕ) → b < blocks → has_block free b ≡ false → has_block (own ++ all_runs layouts) b ≡ true
all_in_use payloads accounts layouts own free area b low out = has_block-append own (all_runs layouts) b ∙ at (has_block own b) refl (has_block (all_runs layouts) b) refl
  where
    at : (c : Bool) → has_block own b ≡ c → (d : Bool) → has_block (all_runs layouts) b ≡ d → (c || d) ≡ true
    at true o d u = refl
    at false o true u = refl
    at false o false u =
        let whole : has_block area.whole b ≡ true = area.rest.all b low (nobodys layouts b u) in
        let is : has_block free b ≡ (true && not false) = area.taken b ∙ ap (λ w. w && not (has_block own b)) whole ∙ ap (λ w. true && not w) o in
        let no : true ≡ false = sym is ∙ out in
        cc

pub below_used : (payloads : Payloads) (accounts : Accounts) (layouts : Layouts) (own old new claimed : List Run) (count : ℕ) → IsAreaOf payloads accounts layouts own old → Claims count old new claimed
    → (b : ℕ) → has_block claimed b ≡ true → b < used_by_all accounts + block_count own + count
below_used payloads accounts layouts own old new claimed count area claims b its =
    omega (
      arith,
      claimed_low count old new claimed (own ++ all_runs layouts) (all_in_use payloads accounts layouts own old area) claims b its,
      block_count-append own (all_runs layouts),
      runs_count layouts,
      made_used payloads accounts layouts area.made,
    )
