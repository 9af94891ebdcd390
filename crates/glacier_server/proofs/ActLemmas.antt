-- Acts one after another.
use Rattle.std.proofs.Common.{◌≡◌, ℕ, List, [], ◌∷◌, ◌++◌, refl, sym, ap, ◌∙◌, append-nil, append_assoc}
use Rattle.glacier_disk.specs.Network.{on_last}
use Rattle.glacier_disk.proofs.Connections.{on_last-nil}
use Rattle.glacier_replay.specs.Changes.{after_account_event, after_all}
use Rattle.glacier_replay.specs.Changes.{State}
use Rattle.glacier_vault.specs.Accounts.{AccountEvent}
use Rattle.glacier_server.specs.Acts.{Act, accept, send, keep, sends, keeps, bytes_of, events_in, sent_by, after_acts}

-- the parts of acts one after another
pub bytes_of-append : (first more : List Act) → bytes_of (first ++ more) ≡ bytes_of first ++ bytes_of more
bytes_of-append [] more = refl
bytes_of-append (accept ∷ first) more = bytes_of-append first more
bytes_of-append (send b ∷ first) more = ap (λ (l : List ℕ). b ∷ l) (bytes_of-append first more)
bytes_of-append (keep h ∷ first) more = bytes_of-append first more

pub events_in-append : (first more : List Act) → events_in (first ++ more) ≡ events_in first ++ events_in more
events_in-append [] more = refl
events_in-append (accept ∷ first) more = events_in-append first more
events_in-append (send b ∷ first) more = events_in-append first more
events_in-append (keep h ∷ first) more = ap (λ (l : List AccountEvent). h ∷ l) (events_in-append first more)

pub after_append : (state : State) (first more : List AccountEvent)
    → after_all state (first ++ more) ≡ after_all (after_all state first) more
after_append state [] more = refl
after_append state (h ∷ first) more = after_append (after_account_event state h) first more

pub after_acts-append : (state : State) (first more : List Act)
    → after_acts state (first ++ more) ≡ after_acts (after_acts state first) more
after_acts-append state first more = ap (after_all state) (events_in-append first more)
    ∙ after_append state (events_in first) (events_in more)

pub sent_by-append : (first more : List Act) (sent : List (List ℕ))
    → sent_by (first ++ more) sent ≡ sent_by more (sent_by first sent)
sent_by-append [] more sent = refl
sent_by-append (accept ∷ first) more sent = sent_by-append first more (sent ++ [] ∷ [])
sent_by-append (send b ∷ first) more sent = sent_by-append first more (on_last (b ∷ []) sent)
sent_by-append (keep h ∷ first) more sent = sent_by-append first more sent

pub sends-append : (first more : List ℕ) → sends (first ++ more) ≡ sends first ++ sends more
sends-append [] more = refl
sends-append (b ∷ first) more = ap (λ (l : List Act). send b ∷ l) (sends-append first more)

-- bytes alone, and events alone
pub bytes_of-sends : (bytes : List ℕ) → bytes_of (sends bytes) ≡ bytes
bytes_of-sends [] = refl
bytes_of-sends (b ∷ bytes) = ap (λ (l : List ℕ). b ∷ l) (bytes_of-sends bytes)

pub events_in-sends : (bytes : List ℕ) → events_in (sends bytes) ≡ []
events_in-sends [] = refl
events_in-sends (b ∷ bytes) = events_in-sends bytes

pub bytes_of-keeps : (events : List AccountEvent) → bytes_of (keeps events) ≡ []
bytes_of-keeps [] = refl
bytes_of-keeps (h ∷ events) = bytes_of-keeps events

pub events_in-keeps : (events : List AccountEvent) → events_in (keeps events) ≡ events
events_in-keeps [] = refl
events_in-keeps (h ∷ events) = ap (λ (l : List AccountEvent). h ∷ l) (events_in-keeps events)

-- events, and then bytes
pub bytes_of-kept : (events : List AccountEvent) (bytes : List ℕ) → bytes_of (keeps events ++ sends bytes) ≡ bytes
bytes_of-kept events bytes =
    bytes_of-append (keeps events) (sends bytes)
    ∙ ap (λ (l : List ℕ). l ++ bytes_of (sends bytes)) (bytes_of-keeps events) ∙ bytes_of-sends bytes

pub events_in-kept : (events : List AccountEvent) (bytes : List ℕ) → events_in (keeps events ++ sends bytes) ≡ events
events_in-kept events bytes =
    events_in-append (keeps events) (sends bytes)
    ∙ ap (λ (l : List AccountEvent). l ++ events_in (sends bytes)) (events_in-keeps events)
    ∙ ap (λ (l : List AccountEvent). events ++ l) (events_in-sends bytes) ∙ append-nil events

pub sent_by-keeps : (events : List AccountEvent) (sent : List (List ℕ)) → sent_by (keeps events) sent ≡ sent
sent_by-keeps [] sent = refl
sent_by-keeps (h ∷ events) sent = sent_by-keeps events sent

on_last-more : (b : ℕ) (bytes : List ℕ) (sent : List (List ℕ))
    → on_last bytes (on_last (b ∷ []) sent) ≡ on_last (b ∷ bytes) sent
on_last-more b bytes [] = refl
on_last-more b bytes (c ∷ []) = ap (λ (l : List ℕ). l ∷ []) (append_assoc c (b ∷ []) bytes)
on_last-more b bytes (c ∷ d ∷ []) = ap (λ (l : List (List ℕ)). c ∷ l) (on_last-more b bytes (d ∷ []))
on_last-more b bytes (c ∷ d ∷ e ∷ cs) = ap (λ (l : List (List ℕ)). c ∷ l) (on_last-more b bytes (d ∷ e ∷ cs))

pub sent_by-sends : (bytes : List ℕ) (sent : List (List ℕ)) → sent_by (sends bytes) sent ≡ on_last bytes sent
sent_by-sends [] sent = sym (on_last-nil sent)
sent_by-sends (b ∷ bytes) sent = sent_by-sends bytes (on_last (b ∷ []) sent) ∙ on_last-more b bytes sent

pub after-sends : (state : State) (bytes : List ℕ) → after_acts state (sends bytes) ≡ state
after-sends state bytes = ap (after_all state) (events_in-sends bytes)

pub after-keeps : (state : State) (events : List AccountEvent)
    → after_acts state (keeps events) ≡ after_all state events
after-keeps state events = ap (after_all state) (events_in-keeps events)
