-- What an event makes of all accounts, and of what there is for each blob: its bytes, or its runs.
use Rattle.std.specs.Prelude.{◌≡◌, ℕ, List, [], ◌∷◌, Option, Some, None, length}
use Rattle.std.specs.FinMap as map
use Rattle.glacier_bodies.specs.BlobAreas.{with_blob, without_blob}
use Rattle.glacier_bodies.specs.Stands.{ByBlob, Bodies}
use Rattle.glacier_treehash.specs.Leaves.{leaves_of}
use Rattle.glacier_vault.specs.declared.event.Event.{Event}
use Rattle.glacier_vault.specs.declared.event.Event.TheVariants as events
use Rattle.glacier_vault.specs.Accounts.{Accounts, account_in, AccountEvent}
use Rattle.glacier_replay.specs.Replayed.{Replay, replayed}

-- the size and the leaves of an event's body, if it has one
abbrev pub body_in : Event → Option (ℕ × List (List ℕ))
body_in (events.Upload name size description leaves) = Some (size, leaves)
body_in (events.Part name upload index size leaves) = Some (size, leaves)
body_in _ = None

-- how many leaves it has
abbrev pub leaf_count : Event → ℕ
leaf_count event = elim (body_in event) [ None ↦ 0 | Some told ↦ length told.1 ]

-- these bytes are the body of an event; one that has none comes with no bytes
abbrev pub IsBodyOf : Event → List ℕ → Type 0
IsBodyOf event body = elim (body_in event) [
  | None ↦ body ≡ []
  | Some told ↦ (told.0 ≡ length body) × (told.1 ≡ leaves_of body)
]

-- the blob that an event makes, under the number that its account draws
abbrev pub new_blob : {X : Type 0} → ℕ → Event → X → Option (ℕ × X)
new_blob counter event x = elim (body_in event) [ None ↦ None | Some told ↦ Some (counter, x) ]

abbrev pub with_new : {X : Type 0} → ByBlob X → List ℕ → Option (ℕ × X) → ByBlob X
with_new blobs account None = blobs
with_new blobs account (Some new) = with_blob blobs account new.0 new.1

abbrev pub without_blobs : {X : Type 0} → ByBlob X → List ℕ → List ℕ → ByBlob X
without_blobs blobs account [] = blobs
without_blobs blobs account (number ∷ numbers) = without_blobs (without_blob blobs account number) account numbers

-- what an event at the moment m makes of its account, with the blobs that it frees
abbrev pub change_in : Accounts → List ℕ → ℕ → Event → Replay
change_in accounts account m event = replayed (account_in accounts account) m event

-- the accounts after it: one that doesn't fit changes nothing
abbrev pub accounts_after : Accounts → List ℕ → Replay → Accounts
accounts_after accounts account None = accounts
accounts_after accounts account (Some done) = map.insert accounts account done.0

-- the blobs after it: its own comes in, and those that it frees go
abbrev pub blobs_after : {X : Type 0} → ByBlob X → List ℕ → Option (ℕ × X) → Replay → ByBlob X
blobs_after blobs account new None = blobs
blobs_after blobs account new (Some done) = without_blobs (with_new blobs account new) account done.1

-- all accounts, and the whole bytes of each blob
pub record State : Type 0 where
  pub accounts : Accounts
  pub bodies : Bodies

-- the state after an event
abbrev pub after_account_event : State → AccountEvent → State
after_account_event state h = record {
  accounts = accounts_after state.accounts h.account (change_in state.accounts h.account h.moment h.event);
  bodies = blobs_after state.bodies h.account (new_blob (account_in state.accounts h.account).counter h.event h.body) (change_in state.accounts h.account h.moment h.event);
}

-- the state after events in order
abbrev pub after_all : State → List AccountEvent → State
after_all state [] = state
after_all state (h ∷ more) = after_all (after_account_event state h) more
