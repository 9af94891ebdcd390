-- The room that events take, one behind the other.
use Rattle.std.proofs.Common.{◌≡◌, ℕ, ◌+◌, ◌<◌, ◌^◌, List, [], ◌∷◌, ◌++◌, length, Option, Some, None, refl, sym, ap, subst, arith}
use Rattle.std.specs.Int.{div_ceil}
use Rattle.glacier_extents.specs.Places.{block_size}
use Rattle.glacier_machine.specs.Outcomes.{events_of}
use Rattle.glacier_server.specs.Rooms.{AreRooms, GrewBy, HasNoRoom, IsRoom}
use Rattle.glacier_store.specs.Calls.{record_room}
use Rattle.glacier_store.specs.Steps.{room_of}
use Rattle.glacier_vault.specs.Accounts.{AccountEvent}
use Rattle.glacier_vault.specs.declared.event.Event.{Event}

pub are_rooms-append : (first more : List AccountEvent) (n k : ℕ) → AreRooms first n → AreRooms more k
    → AreRooms (first ++ more) (n + k)
are_rooms-append [] more n k one two = subst (λ (i : ℕ). AreRooms more i) (omega (arith, one)) two
are_rooms-append (h ∷ first) more n k (here, rest, is, behind, sum) two =
    (here, rest + k, is, are_rooms-append first more rest k behind two, omega (arith, sum))

-- what the journal grows by
pub grew_none : (n : ℕ) → GrewBy n n []
grew_none n = (0, refl, omega arith)

pub grew_behind : (a b c : ℕ) (first more : List AccountEvent) → GrewBy a b first → GrewBy b c more
    → GrewBy a c (first ++ more)
grew_behind a b c first more (n, one, at) (k, two, is) =
    (n + k, are_rooms-append first more n k one two, omega (arith, at, is))

-- an event that has no body takes as many bytes as its record with no runs
abbrev pub HasNoBody : AccountEvent → Type 0
HasNoBody happened = happened.body ≡ []

abbrev pub HaveNoBody : List AccountEvent → Type 0
HaveNoBody [] = Unit {0}
HaveNoBody (happened ∷ more) = HasNoBody happened × HaveNoBody more

plain_room : (happened : AccountEvent) → HasNoBody happened → IsRoom happened (record_room happened [])
plain_room happened plain = ([], sym (ap (λ (b : List ℕ). div_ceil (length b) block_size) plain), λ _. refl, refl)

pub events_of_plain : (account : List ℕ) (m : ℕ) (event : Option Event) (body : List ℕ) → body ≡ []
    → HaveNoBody (events_of account m event body)
events_of_plain account m None body plain = tt
events_of_plain account m (Some event) body plain = (plain, tt)

-- by the lengths of the events' records
are_room_of : (events : List AccountEvent) → HaveNoBody events → AreRooms events (room_of events)
are_room_of [] plain = refl
are_room_of (h ∷ more) plain =
    (record_room h [], room_of more, plain_room h plain.0, are_room_of more plain.1, refl)

pub grew_room : (before after : ℕ) (events : List AccountEvent) → HaveNoBody events → after ≡ before + room_of events
    → GrewBy before after events
grew_room before after events plain is = (room_of events, are_room_of events plain, is)

-- the only event has no room
pub no_room_for : (length : ℕ) (happened : AccountEvent) → HasNoBody happened → 2 ^ 62 < length + room_of (happened ∷ [])
    → HasNoRoom length (happened ∷ [])
no_room_for length happened plain full = (record_room happened [], plain_room happened plain, omega (arith, full))
