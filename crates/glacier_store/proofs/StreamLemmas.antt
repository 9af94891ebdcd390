-- A body that streams into blocks of its own keeps whatever is held.
use Rattle.std.proofs.Common.{◌≡◌, ◌≢◌, ◌||◌, ◌&&◌, not, ℕ, Bool, true, false, List, refl, sym, ◌∙◌, ap, subst}
use Rattle.glacier_bodies.specs.Stands.{IsUnnamed, KeepsBlobs, KeepsImages, Layouts, StreamsInto}
use Rattle.glacier_disk.specs.declared.area.Area.{Area}
use Rattle.glacier_disk.specs.declared.area.Area.TheVariants.{Lead, Blobs}
use Rattle.glacier_disk.specs.Image.{Image}
use Rattle.glacier_disk.specs.Moments.{weaker}
use Rattle.glacier_disk.specs.Told.{Told, Lawful}
use Rattle.glacier_extents.specs.declared.run.Run.{Run}
use Rattle.glacier_extents.specs.FreeRuns.{blocks}
use Rattle.glacier_extents.specs.Runs.{AreDistinct, has_block}
use Rattle.glacier_journal.specs.Listed.{Listed, Lists, Payloads, Picks}
use Rattle.glacier_journal.specs.declared.journal.Journal.{Journal}
use Rattle.glacier_replay.specs.Changes.{State}
use Rattle.glacier_replay.specs.Made.{IsRest}
use Rattle.glacier_replay.specs.Standing.{IsStateOf, Stands}
use Rattle.glacier_replay.proofs.RestLemmas.{unnamed_free}
use Rattle.glacier_store.specs.Kept.{IsHeldBy, IsRestBeside}
use Rattle.glacier_store.specs.Calls.{KeepsHeld}
use Rattle.glacier_store.proofs.KeptLemmas.{picks_blobs}

-- a list stays where only Blobs changes
listed_still : (d i : Image) (area : Area) (payloads : Payloads) (end : ℕ) → ((other : Area) → other ≢ Blobs → i other ≡ d other) → Listed d area payloads end → Listed i area payloads end
listed_still d i area payloads end others listed =
    let differs : area ≢ Blobs = λ same. picks_blobs (d Lead) area listed.picks (sym same) in
    record {
      picks = subst (λ (l : List ℕ). Picks l area) (sym (others Lead (λ same. cc same))) listed.picks;
      lists = subst (λ (l : List ℕ). Lists l payloads end) (sym (others area differs)) listed.lists;
    }

module _ (old new : Told) (journal : Journal) (layouts : Layouts) (runs : List Run) (law : Lawful old) (streams : StreamsInto layouts runs old new) where
  module _ (state : State) (held : IsHeldBy old journal layouts state) where
    images : KeepsImages layouts state.bodies old new
    images = streams.kept state.bodies (held.state_is old.reads law.reads_left).held

    still_is : (d i : Image) → KeepsBlobs layouts state.bodies d i → IsStateOf held.payloads layouts (d Blobs) state → IsStateOf held.payloads layouts (i Blobs) state
    still_is d i keeps is = record { made = is.made; matches = is.matches; held = keeps.held is.held; tells = is.tells }

    still_stands : (i : Image) → ((d : Image) × old.leaves d × KeepsBlobs layouts state.bodies d i) → Stands i state
    still_stands i (d, left, keeps) = record {
      area = journal.area;
      payloads = held.payloads;
      end = journal.length;
      layouts = layouts;
      listed = listed_still d i journal.area held.payloads journal.length keeps.others (held.listed d left);
      state_is = still_is d i keeps (held.state_is d left);
    }

    still_held : IsHeldBy new journal layouts state
    still_held = record {
      payloads = held.payloads;
      listed = λ i now. (let from = images.crash i now in listed_still from.0 i journal.area held.payloads journal.length from.2.others (held.listed from.0 from.1));
      state_is = λ i now. (let from = images.crash i now in still_is from.0 i from.2 (held.state_is from.0 from.1));
    }

  pub streamed : KeepsHeld old new journal layouts runs
  streamed = record {
    held = still_held;
    stays = λ state held. weaker old new _ _ (images state held).moments (still_stands state held);
    writes = streams.own;
  }

-- an open body's blocks come from the free ones
pub rest_beside : (own old new : List Run) (layouts : Layouts) → ((b : ℕ) → has_block new b ≡ (has_block old b && not (has_block own b))) → IsRest old layouts → IsRestBeside own new layouts
rest_beside own old new layouts taken rest = record { whole = old; rest = rest; taken = taken }

-- and go back to them
pub rest_given_back : (own free new : List Run) (layouts : Layouts) → AreDistinct blocks own → IsUnnamed (has_block own) layouts
    → ((b : ℕ) → has_block new b ≡ (has_block free b || has_block own b)) → IsRestBeside own free layouts → IsRest new layouts
rest_given_back own free new layouts distinct unnamed given beside = record {
  within = λ b is. beside.rest.within b (sym (same b) ∙ is);
  nobodys = λ b is. beside.rest.nobodys b (sym (same b) ∙ is);
  all = λ b low nobody. same b ∙ beside.rest.all b low nobody;
}
  where
    or_not : (w o : Bool) → (o ≡ true → w ≡ true) → ((w && not o) || o) ≡ w
    or_not true true in_whole = refl
    or_not true false in_whole = refl
    or_not false true in_whole = absurd (let no : false ≡ true = in_whole refl in cc)
    or_not false false in_whole = refl

    same : (b : ℕ) → has_block new b ≡ has_block beside.whole b
    same b =
        given b
        ∙ ap (λ (f : Bool). f || has_block own b) (beside.taken b)
        ∙ or_not (has_block beside.whole b) (has_block own b) (unnamed_free beside.whole layouts beside.rest own distinct unnamed b)
