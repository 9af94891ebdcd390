-- What is done in calls one after another, and a crash amid them.
use Rattle.std.proofs.Common.{◌≡◌, inl, inr, ⊎_elim, ℕ, List, [], ◌∷◌, ◌++◌, take, refl, sym, ap, subst, ◌∙◌, arith}
use Rattle.std.proofs.lemmas.List.{take-map}
use Rattle.glacier_disk.specs.Calls.{TimePassesWith, Rests}
use Rattle.glacier_disk.specs.Image.{Image}
use Rattle.glacier_disk.specs.Network.{AllSent, PartSent, sent_on, on_last}
use Rattle.glacier_disk.specs.Told.{Told, Lawful, ByDisk}
use Rattle.glacier_replay.specs.Changes.{after_all}
use Rattle.glacier_replay.specs.Changes.{State}
use Rattle.glacier_vault.specs.Accounts.{AccountEvent}
use Rattle.glacier_server.specs.Acts.{Act, accept, send, sends, keeps, sent_by, after_acts, StopsAfter, StopsAmid}
use Rattle.glacier_server.specs.Does.{Does, StillGrew, StillKept, Failing, nothing, receiving, sending, breaking}
use Rattle.glacier_server.specs.Events.{KeepsFirst}
use Rattle.glacier_server.proofs.ActLemmas.{sent_by-append, sent_by-sends, sent_by-keeps, after_acts-append, after-sends, after-keeps, events_in-sends}
use Rattle.glacier_server.proofs.StopLemmas.{stops_first, stops_first_of, stops_last, sooner, later, grew_same, grew_then}
use Rattle.glacier_server.proofs.KeptLemmas.{still_kept, stands}
use Rattle.glacier_replay.specs.Standing.{Stands}
use Rattle.glacier_server.specs.Placed.{Agrees, IsKept, Placed}

-- no call at all
pub does_nothing : (s : Told) (placed : Placed) → Does s s placed placed [] nothing
does_nothing s placed = record {
  all_sent = refl;
  after_is = refl;
  agrees = λ same. same;
  grew = grew_same nothing placed [] refl;
  kept = λ kept. kept;
  stops = λ kept. record {
    later = omega arith;
    now = λ i now. stops_first refl (stands s placed kept i now);
    each = λ since i sent le left. inl left;
  };
}

-- one stretch after another
pub does_then : {a b c : Told} {s m e : Placed} {first more : List Act} {failing : Failing}
    → Does a b s m first nothing → Does b c m e more failing → Does a c s e (first ++ more) failing
does_then {a = a} {b = b} {c = c} {s = s} {m = m} {e = e} {first = first} {more = more} {failing = failing} x y = record {
  all_sent = y.all_sent ∙ ap (sent_by more) x.all_sent ∙ sym (sent_by-append first more (sent_on a.connections));
  after_is = y.after_is ∙ ap (λ (k : State). after_acts k more) x.after_is
      ∙ sym (after_acts-append s.state first more);
  agrees = λ same. y.agrees (x.agrees same);
  grew = grew_then failing s m e first more x.grew y.grew;
  kept = λ kept. y.kept (x.kept kept);
  stops = λ kept.
      let one = x.stops kept in
      let two = y.stops (x.kept kept) in record {
        later = omega (arith, one.later, two.later);
        now = λ i now. later first more (from_mid i (sent_on c.connections) (two.now i now));
        each = λ since i sent le left.
            ⊎_elim
            (λ mid. ⊎_elim inl (λ stop. inr (sooner first more stop)) (one.each since i sent le mid))
            (λ stop. inr (later first more (from_mid i sent stop)))
            (two.each since i sent (omega (arith, le, one.later)) left);
      };
}
  where
    from_mid : (i : Image) (sent : List (List ℕ)) → StopsAfter (sent_on b.connections) m.state more i sent
        → StopsAfter (sent_by first (sent_on a.connections)) (after_acts s.state first) more i sent
    from_mid i sent stop =
        subst (λ (k : State). StopsAfter (sent_by first (sent_on a.connections)) k more i sent) x.after_is
        (subst (λ (l : List (List ℕ)). StopsAfter l m.state more i sent) x.all_sent stop)

-- the same acts, said otherwise
pub does_says : {a b : Told} {s e : Placed} {acts others : List Act} {failing : Failing} → acts ≡ others
    → Does a b s e acts failing → Does a b s e others failing
does_says {a = a} {b = b} {s = s} {e = e} {failing = failing} same does = subst (λ (l : List Act). Does a b s e l failing) same does

-- the server breaks off where nothing failed
pub does_break : {a b : Told} {s e : Placed} {acts : List Act} → Does a b s e acts nothing → Does a b s e acts breaking
does_break x = record { all_sent = x.all_sent; after_is = x.after_is; agrees = x.agrees; grew = tt; kept = λ kept. tt; stops = x.stops }

-- a call of the network leaves the images as they are
still : (failing : Failing) {new : Told} {placed : Placed} → IsKept new placed → StillKept failing new placed
still nothing kept = kept
still receiving kept = kept
still sending kept = kept
still breaking kept = tt

-- nothing is sent in it
pub does_quiet : {old new : Told} (placed : Placed) (failing : Failing) → Rests old new
    → TimePassesWith old new (AllSent new.connections) → sent_on new.connections ≡ sent_on old.connections
    → Does old new placed placed [] failing
does_quiet {old = old} {new = new} placed failing rests time same = record {
  all_sent = same;
  after_is = refl;
  agrees = λ same. same;
  grew = grew_same failing placed [] refl;
  kept = λ kept. still failing (still_kept old new placed rests kept);
  stops = λ kept. record {
    later = time.later;
    now = λ i now. stops_first same (stands old placed kept i (rests.crash i now));
    each = λ since i sent le left. ⊎_elim inl (λ now. inr (stops_first (now.1 ∙ same)
        (stands old placed kept i (rests.crash i now.0)))) (time.nothing_else since i sent le left);
  };
}

-- first ones of these bytes are
pub does_send : {old new : Told} (placed : Placed) (failing : Failing) (bytes : List ℕ) → Rests old new
    → TimePassesWith old new (PartSent bytes old.connections)
    → sent_on new.connections ≡ on_last bytes (sent_on old.connections)
    → Does old new placed placed (sends bytes) failing
does_send {old = old} {new = new} placed failing bytes rests time more = record {
  all_sent = all;
  after_is = sym (after-sends placed.state bytes);
  agrees = λ same. same;
  grew = grew_same failing placed (sends bytes) (events_in-sends bytes);
  kept = λ kept. still failing (still_kept old new placed rests kept);
  stops = λ kept. record {
    later = time.later;
    now = λ i now. stops_last placed.state placed.state (sends bytes) (sym (after-sends placed.state bytes)) all
        (stands old placed kept i (rests.crash i now));
    each = λ since i sent le left.
        ⊎_elim inl
        (λ now. inr (record {
          k = (now.1).0;
          bytes = (now.1).1 ∙ sym (sent_by-sends (take (now.1).0 bytes) (sent_on old.connections))
              ∙ ap (λ (l : List Act). sent_by l (sent_on old.connections)) (sym (take-map send (now.1).0 bytes));
          stands = subst (λ (s : State). Stands i s) (sym (after-sends placed.state (take (now.1).0 bytes))
              ∙ ap (after_acts placed.state) (sym (take-map send (now.1).0 bytes)))
              (stands old placed kept i (rests.crash i now.0));
        }))
        (time.nothing_else since i sent le left);
  };
}
  where
    all : sent_on new.connections ≡ sent_by (sends bytes) (sent_on old.connections)
    all = more ∙ sym (sent_by-sends bytes (sent_on old.connections))

-- `accept`
pub does_accept : {old new : Told} (placed : Placed) → Rests old new
    → TimePassesWith old new (AllSent new.connections) → sent_on new.connections ≡ sent_on old.connections ++ [] ∷ []
    → Does old new placed placed (accept ∷ []) nothing
does_accept {old = old} {new = new} placed rests time more = record {
  all_sent = more;
  after_is = refl;
  agrees = λ same. same;
  grew = grew_same nothing placed (accept ∷ []) refl;
  kept = λ kept. still_kept old new placed rests kept;
  stops = λ kept. record {
    later = time.later;
    now = λ i now. stops_last placed.state placed.state (accept ∷ []) refl more
        (stands old placed kept i (rests.crash i now));
    each = λ since i sent le left. ⊎_elim inl (λ now. inr (stops_last placed.state placed.state (accept ∷ []) refl
        (now.1 ∙ more) (stands old placed kept i (rests.crash i now.0)))) (time.nothing_else since i sent le left);
  };
}

-- calls of the store, which leave the state after some first ones of the events
pub does_keep : {old new : Told} (placed after : Placed) (events : List AccountEvent) (failing : Failing) → Lawful new
    → ByDisk old new → after.state ≡ after_all placed.state events → (Agrees placed → Agrees after)
    → StillGrew failing placed after (keeps events)
    → (IsKept old placed → KeepsFirst old new placed.state events)
    → (IsKept old placed → StillKept failing new after) → Does old new placed after (keeps events) failing
does_keep {old = old} {new = new} placed after events failing law alone is same grew leaves kept = record {
  all_sent = ap sent_on alone.connections ∙ sym (sent_by-keeps events (sent_on old.connections));
  after_is = is ∙ sym (after-keeps placed.state events);
  agrees = same;
  grew = grew;
  kept = kept;
  stops = λ was. record {
    later = alone.later;
    now = λ i now. stops_first_of events (ap sent_on alone.connections) ((leaves was).each i
        (law.counts_now old.moment i alone.later now));
    each = λ since i sent le left. ⊎_elim inl (λ inside. inr (stops_first_of events inside.1 ((leaves was).each i inside.0)))
        (alone.left since i sent le left);
  };
}

-- a connection's own end leaves the store as well as no failure does
pub ends_well : (failing : Failing) {a b : Told} {s e : Placed} {acts : List Act} → (failing ≡ breaking → ⊥)
    → Does a b s e acts failing → Does a b s e acts nothing
ends_well nothing other x = x
ends_well receiving other x = record { all_sent = x.all_sent; after_is = x.after_is; agrees = x.agrees; grew = x.grew; kept = x.kept; stops = x.stops }
ends_well sending other x = record { all_sent = x.all_sent; after_is = x.after_is; agrees = x.agrees; grew = x.grew; kept = x.kept; stops = x.stops }
ends_well breaking other x = absurd (other refl)

-- the connection is closed where the server broke off
pub does_close : {a b c : Told} {s e : Placed} {acts : List Act} → Does a b s e acts breaking → Rests b c
    → TimePassesWith b c (AllSent c.connections) → sent_on c.connections ≡ sent_on b.connections
    → Does a c s e acts breaking
does_close {a = a} {s = s} {acts = acts} x rests time same = record {
  all_sent = same ∙ x.all_sent;
  after_is = x.after_is;
  agrees = x.agrees;
  grew = tt;
  kept = λ kept. tt;
  stops = λ kept.
      let amid = x.stops kept in record {
        later = omega (arith, amid.later, time.later);
        now = λ i now. subst (λ (l : List (List ℕ)). StopsAfter (sent_on a.connections) s.state acts i l) (sym same)
            (amid.now i (rests.crash i now));
        each = λ since i sent le left.
            ⊎_elim
            (λ before. amid.each since i sent le before)
            (λ now. inr (subst (λ (l : List (List ℕ)). StopsAfter (sent_on a.connections) s.state acts i l) (sym same
            ∙ sym now.1) (amid.now i (rests.crash i now.0))))
            (time.nothing_else since i sent (omega (arith, le, amid.later)) left);
      };
}

-- whatever a crash since then may have left, from where the store was kept
pub stops_anywhere : {old new : Told} {placed : Placed} {acts : List Act} → Lawful old → IsKept old placed
    → StopsAmid old new placed.state acts → (i : Image) (sent : List (List ℕ)) → new.left_with old.moment i sent
    → StopsAfter (sent_on old.connections) placed.state acts i sent
stops_anywhere {old = old} {placed = placed} law kept amid i sent left =
    ⊎_elim
    (λ before. let now = law.with_now i sent before in stops_first now.1 (stands old placed kept i now.0))
    (λ stop. stop)
    (amid.each old.moment i sent (omega arith) left)
