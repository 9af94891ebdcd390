-- Stretches in which only bytes are taken, and what is kept by a store's journal and blobs stays kept.
use Rattle.std.proofs.Common.{◌≡◌, ℕ, List, [], ◌++◌, refl, sym, ap, subst, ◌∙◌, arith}
use Rattle.std.proofs.lemmas.List.Elements.{All-nil}
use Rattle.glacier_bodies.specs.Stands.{Layouts}
use Rattle.glacier_disk.specs.Network.{Wait, wait_of}
use Rattle.glacier_disk.specs.Told.{Told, Lawful, ByDisk}
use Rattle.glacier_extents.specs.declared.run.Run.{Run}
use Rattle.glacier_journal.specs.declared.journal.Journal.{Journal}
use Rattle.glacier_store.specs.Calls.{KeepsHeld, no_state}
use Rattle.glacier_store.specs.declared.store.Store.{Store}
use Rattle.glacier_server.specs.Does.{Failing, nothing, breaking}
use Rattle.glacier_server.specs.Placed.{Placed, placed_as}
use Rattle.glacier_server.specs.Session.{taking, acting}
use Rattle.glacier_server.specs.Streams.{TakesOver}
use Rattle.glacier_server.specs.Transfer.{Transfer, TakenAt, current}
use Rattle.glacier_server.proofs.RoomLemmas.{grew_none}
use Rattle.glacier_server.proofs.StepLemmas.{keeps_all}
use Rattle.glacier_server.proofs.StoreCallLemmas.{stays_first}
use Rattle.glacier_server.proofs.TransferLemmas.{stays, then, acts_then, breaks_off, moved, waits_then}

-- no call at all
pub over_none : (store : Store) (s : Told) (Holds : List ℕ → Type 0) → TakesOver store s s [] Holds nothing
over_none store s Holds = record {
  waits = [];
  transfer = λ placed journal blobs. stays s placed;
  each = All-nil (TakenAt (wait_of (current s.connections)) [] Holds);
}

-- one stretch after another
pub over_then : {a b c : Told} {failing : Failing} (store : Store) (got more : List ℕ) (P Q : List ℕ → Type 0)
    → TakesOver store a b got P nothing → TakesOver store b c more Q failing → ((l : List ℕ) → Q l → P (got ++ l))
    → TakesOver store a c (got ++ more) P failing
over_then {a = a} {b = b} store got more P Q first second leads_to =
    let placed : Placed = placed_as store no_state in
    let at = moved (taking placed got first.waits) (first.transfer placed refl refl) in record {
      waits = first.waits ++ second.waits;
      transfer = λ placed journal blobs. then (taking placed got first.waits) (taking placed more second.waits) refl
          (first.transfer placed journal blobs) (second.transfer placed journal blobs);
      each = waits_then (wait_of (current a.connections)) (wait_of (current b.connections)) got more P Q
          (ap (λ (w : Wait). w.taken) at) (ap (λ (w : Wait). w.sent) at ∙ omega arith) leads_to first.waits second.waits
          first.each second.each;
    }

-- calls by which no byte is taken behind them
pub over_quiet : {a b c : Told} {failing : Failing} (store : Store) (got : List ℕ) (P : List ℕ → Type 0)
    → TakesOver store a b got P nothing
    → ((placed : Placed) → placed.store.journal ≡ store.journal → placed.store.area.blobs ≡ store.area.blobs
    → Transfer b c (acting placed placed []) failing) → TakesOver store a c got P failing
over_quiet store got P first quiet = record {
  waits = first.waits;
  transfer = λ placed journal blobs. acts_then (taking placed got first.waits) placed []
      (first.transfer placed journal blobs) (quiet placed journal blobs);
  each = first.each;
}

-- a call that writes a body's own blocks, and keeps what was kept
module _ {old new : Told} (law : Lawful new) (alone : ByDisk old new) (store : Store) (own : List Run)
    (keeps : KeepsHeld old new store.journal store.area.blobs own) where
  pub piece_written : (placed : Placed) → placed.store.journal ≡ store.journal
      → placed.store.area.blobs ≡ store.area.blobs → Transfer old new (acting placed placed []) nothing
  piece_written placed journal blobs =
      keeps_all law alone placed [] (λ kept. stays_first placed.state [] (same.stays placed.state kept.held)) placed refl
      (λ agrees. agrees) (grew_none placed.store.journal.length)
      (λ kept. record { accounts = kept.accounts; held = same.held placed.state kept.held; rest = kept.rest })
    where
      same : KeepsHeld old new placed.store.journal placed.store.area.blobs own
      same =
          subst (λ (j : Journal). KeepsHeld old new j placed.store.area.blobs own) (sym journal)
          (subst (λ (l : Layouts). KeepsHeld old new store.journal l own) (sym blobs) keeps)

  pub piece_broken : (placed : Placed) → placed.store.journal ≡ store.journal
      → placed.store.area.blobs ≡ store.area.blobs → Transfer old new (acting placed placed []) breaking
  piece_broken placed journal blobs = breaks_off (acting placed placed []) (piece_written placed journal blobs)
