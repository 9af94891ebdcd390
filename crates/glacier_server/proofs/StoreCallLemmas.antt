-- The two calls of the store for a request: time passes, and then its action is done.
use Rattle.std.proofs.Common.{◌≡◌, ◌⊎◌, ⊎_elim, ℕ, ◌+◌, ◌^◌, ◌<◌, List, [], ◌∷◌, ◌++◌, length, take, Option, Some, None, Result, Ok, Err, refl, sym, ap, subst, ◌∙◌, arith, append-nil, append_assoc}
use Rattle.std.specs.Prelude.{min}
use Rattle.std.proofs.lemmas.List.{take_all, take_min, take-append-le}
use Rattle.std.proofs.lemmas.Result.{IfOk-weaker}
use Rattle.std.proofs.Math.Seq.{take-append-add}
use Rattle.glacier_disk.specs.Image.{Image}
use Rattle.glacier_disk.specs.Moments.{joined, weaker}
use Rattle.glacier_disk.specs.Told.{Told}
use Rattle.glacier_machine.specs.Outcomes.{events_of}
use Rattle.glacier_replay.specs.Changes.{State, accounts_after as after_one, after_account_event, after_all, change_in}
use Rattle.glacier_replay.specs.Standing.{Stands}
use Rattle.glacier_vault.specs.Accounts.{Accounts, AccountEvent}
use Rattle.glacier_vault.specs.declared.event.Event.{Event}
use Rattle.glacier_server.specs.declared.end.ServeFault.{ServeFault}
use Rattle.glacier_server.specs.declared.end.ServeFault.TheVariants.{Disk, Memory, JournalEnd}
use Rattle.glacier_server.specs.Events.{KeepsEvents, KeepsFirst, StandsForFirst, IsFault}
use Rattle.glacier_server.specs.Rooms.{GrewBy, HasNoRoom, EndsJournal}
use Rattle.glacier_server.proofs.ActLemmas.{after_append}
use Rattle.glacier_server.proofs.RoomLemmas.{events_of_plain, grew_behind, grew_room, no_room_for}
use Rattle.glacier_store.specs.Kept.{Changes, Kept, Stays}
use Rattle.glacier_store.specs.Steps.{Advances, Grows, accounts_after, room_of}
use Rattle.glacier_store.specs.declared.fault.StoreFault.{StoreFault}
use Rattle.glacier_store.specs.declared.fault.StoreFault.TheVariants as store_fault
use Rattle.glacier_store.specs.declared.store.Store.{Store}
use Rattle.glacier_store.proofs.KeptLemmas.{kept_held}

-- a fault of the store is the server's fault of that name
pub is_memory : (fault : StoreFault) (other : ServeFault) → IsFault fault other → other ≡ Memory → fault ≡ store_fault.Memory
is_memory store_fault.Disk other is same = let never : Disk ≡ Memory = sym is ∙ same in absurd (cc)
is_memory store_fault.Memory other is same = refl
is_memory (store_fault.NotAJournal area at) other is same = absurd is
is_memory (store_fault.NotEmpty area size) other is same = absurd is
is_memory (store_fault.End n) other is same = let never : JournalEnd n ≡ Memory = sym is ∙ same in absurd (cc)

pub is_end : (fault : StoreFault) (other : ServeFault) (length : ℕ) → IsFault fault other → other ≡ JournalEnd length
    → fault ≡ store_fault.End length
is_end store_fault.Disk other length is same = let never : Disk ≡ JournalEnd length = sym is ∙ same in absurd (cc)
is_end store_fault.Memory other length is same = let never : Memory ≡ JournalEnd length = sym is ∙ same in absurd (cc)
is_end (store_fault.NotAJournal area at) other length is same = absurd is
is_end (store_fault.NotEmpty area size) other length is same = absurd is
is_end (store_fault.End n) other length is same =
    let both : JournalEnd n ≡ JournalEnd length = sym is ∙ same in
    let at : n ≡ length = cc in ap store_fault.End at

-- a state is the one after no event, and the last is the one after all of them
sooner : (state : State) (events more : List AccountEvent) (i : Image) → StandsForFirst state events i
    → StandsForFirst state (events ++ more) i
sooner state events more i x =
    let n : ℕ = min x.count (length events) in
    record {
      count = n;
      stands = subst (λ (l : List AccountEvent). Stands i (after_all state l)) (sym (take_min x.count events)
          ∙ sym (take-append-le n events more (omega arith))) x.stands;
    }

later : (state : State) (first more : List AccountEvent) (i : Image)
    → StandsForFirst (after_all state first) more i → StandsForFirst state (first ++ more) i
later state first more i x = record {
  count = length first + x.count;
  stands = subst (λ (s : State). Stands i s) (sym (after_append state first (take x.count more))
      ∙ ap (after_all state) (sym (take-append-add first more x.count))) x.stands;
}

either : (state : State) (events : List AccountEvent) (i : Image) → Stands i state ⊎ Stands i (after_all state events)
    → StandsForFirst state events i
either state events i = ⊎_elim
    (λ before. record { count = 0; stands = before })
    (λ after. record {
      count = length events;
      stands = subst (λ (l : List AccountEvent). Stands i (after_all state l)) (sym (take_all (length events) events
          (omega arith))) after;
    })

-- where the journal was at its end, more events behind those have no room either
ends_sooner : (store : Store) (events more : List AccountEvent) (length : ℕ) → EndsJournal store events length
    → EndsJournal store (events ++ more) length
ends_sooner store events more length x = record {
  kept = x.kept;
  left = x.left ++ more;
  split = ap (λ (l : List AccountEvent). l ++ more) x.split ∙ append_assoc x.kept x.left more;
  grew = x.grew;
  full = go x.left x.full;
}
  where
    go : (left : List AccountEvent) → HasNoRoom length left → HasNoRoom length (left ++ more)
    go [] none = absurd none
    go (happened ∷ left) none = none

module _ {old new : Told} (state : State) (events : List AccountEvent) where
  pub changes_first : Changes old new state (after_all state events) → KeepsFirst old new state events
  changes_first changes = weaker old new _ _ changes (either state events)

  pub stays_first : Stays old new state → KeepsFirst old new state events
  stays_first stays = weaker old new _ _ stays (λ i now. record { count = 0; stands = now })

-- the journal was at its end before the only event, if there is one
at_end : (store : Store) (account : List ℕ) (m : ℕ) (event : Option Event) (body : List ℕ) → body ≡ [] → (fault : StoreFault)
    (length : ℕ) → fault ≡ store_fault.End length
    → Grows store.journal (room_of (events_of account m event body)) (Err fault)
    → EndsJournal store (events_of account m event body) length
at_end store account m event body plain fault length is grows = go event (grows.end length (ap Err is)) (grows.some length (ap Err is))
  where
    go : (o : Option Event)
        → (length ≡ store.journal.length) × (2 ^ 62 < length + room_of (events_of account m o body))
        → 0 < room_of (events_of account m o body) → EndsJournal store (events_of account m o body) length
    go None end some = absurd (omega (arith, some))
    go (Some happened) end some = record {
      kept = [];
      left = events_of account m (Some happened) body;
      split = refl;
      grew = (0, refl, omega (arith, end.0));
      full = no_room_for length (record { account = account; moment = m; event = happened; body = body }) plain end.1;
    }

-- one call of the store, which keeps an event without a body, if there is one
module _ {T : Type 0} {old new : Told} (store : Store) (account : List ℕ) (m : ℕ) (event : Option Event) (body : List ℕ)
    (plain : body ≡ []) where
  -- it is kept
  pub action_done : (one : Store) (value : T) → Advances old new store (events_of account m event body) (Ok one)
      → one.accounts ≡ accounts_after store.accounts (events_of account m event body)
      → Grows store.journal (room_of (events_of account m event body)) (Ok one)
      → KeepsEvents {T = T} old new store [] (events_of account m event body) (Ok (value, one))
  action_done one value advances is grows = record {
    accounts = is;
    grew = grew_room store.journal.length one.journal.length (events_of account m event body)
        (events_of_plain account m event body plain) grows.longer;
    any_moment = λ state kept. changes_first state (events_of account m event body) (advances.any_moment state (kept_held kept));
    kept = λ state kept. advances.kept state kept;
    memory = λ state kept never. absurd (cc);
    end = λ length never. absurd (cc);
  }

  -- or a fault broke the server off
  pub action_broken : (fault : StoreFault) (other : ServeFault) → IsFault fault other
      → Advances old new store (events_of account m event body) (Err fault)
      → Grows store.journal (room_of (events_of account m event body)) (Err fault)
      → KeepsEvents {T = T} old new store [] (events_of account m event body) (Err other)
  action_broken fault other is advances grows = record {
    accounts = tt;
    grew = tt;
    any_moment = λ state kept. changes_first state (events_of account m event body) (advances.any_moment state (kept_held kept));
    kept = λ state kept. tt;
    memory = λ state kept same. let at : other ≡ Memory = cc in
        stays_first state [] (advances.memory state (kept_held kept) (ap Err (is_memory fault other is at)));
    end = λ length same. let at : other ≡ JournalEnd length = cc in
        at_end store account m event body plain fault length (is_end fault other length is at) grows;
  }

  -- it was one of time that passes, and what was to be done behind it wasn't
  pub pass_broken : (done : List AccountEvent) (fault : StoreFault) (other : ServeFault) → IsFault fault other
      → Advances old new store (events_of account m event body) (Err fault)
      → Grows store.journal (room_of (events_of account m event body)) (Err fault)
      → KeepsEvents {T = T} old new store (events_of account m event body) done (Err other)
  pass_broken done fault other is advances grows = record {
    accounts = tt;
    grew = tt;
    any_moment = λ state kept. weaker old new _ _ (changes_first state (events_of account m event body) (advances.any_moment state (kept_held kept)))
        (sooner state (events_of account m event body) done);
    kept = λ state kept. tt;
    memory = λ state kept same. let at : other ≡ Memory = cc in
        stays_first state (events_of account m event body) (advances.memory state (kept_held kept) (ap Err (is_memory fault other is at)));
    end = λ length same. let at : other ≡ JournalEnd length = cc in
        ends_sooner store (events_of account m event body) done length
        (at_end store account m event body plain fault length (is_end fault other length is at) grows);
  }

-- the accounts after events one behind the other
pub accounts_append : (accounts : Accounts) (first more : List AccountEvent)
    → accounts_after accounts (first ++ more) ≡ accounts_after (accounts_after accounts first) more
accounts_append accounts [] more = refl
accounts_append accounts (h ∷ first) more =
    accounts_append (after_one accounts h.account (change_in accounts h.account h.moment h.event)) first more

-- and those of a state
pub accounts_of_all : (state : State) (events : List AccountEvent)
    → (after_all state events).accounts ≡ accounts_after state.accounts events
accounts_of_all state [] = refl
accounts_of_all state (h ∷ more) = accounts_of_all (after_account_event state h) more

-- time passed, and then something was done
module _ {T : Type 0} {old mid new : Told} (store one : Store) (passed done : List AccountEvent)
    (is : one.accounts ≡ accounts_after store.accounts passed)
    (leaves : (state : State) → Kept old store state → KeepsFirst old mid state passed)
    (kept : (state : State) → Kept old store state → Kept mid one (after_all state passed))
    (grew : GrewBy store.journal.length one.journal.length passed) where
  pub passed_then : (result : Result (T × Store) ServeFault) → KeepsEvents {T = T} mid new one [] done result
      → KeepsEvents {T = T} old new store passed done result
  passed_then result x = record {
    accounts = IfOk-weaker result _ _ (λ r at. at ∙ ap (λ (s : Accounts). accounts_after s done) is
        ∙ sym (accounts_append store.accounts passed done)) x.accounts;
    grew = IfOk-weaker result _ _ (λ r more. grew_behind store.journal.length one.journal.length r.1.journal.length
        passed done grew more) x.grew;
    any_moment = λ state was. joined {old = old} {mid = mid} {new = new} (StandsForFirst state (passed ++ done))
        (StandsForFirst (after_all state passed) done)
        (weaker old mid _ _ (leaves state was) (sooner state passed done))
        (x.any_moment (after_all state passed) (kept state was)) (later state passed done);
    kept = λ state was. IfOk-weaker result _ _ (λ r now. subst (λ (s : State). Kept new r.1 s)
        (sym (after_append state passed done)) now) (x.kept (after_all state passed) (kept state was));
    memory = λ state was wanting. joined {old = old} {mid = mid} {new = new} (StandsForFirst state passed)
        (StandsForFirst (after_all state passed) []) (leaves state was) (x.memory (after_all state passed) (kept state was) wanting)
        (λ i s. subst (λ (l : List AccountEvent). StandsForFirst state l i) (append-nil passed) (later state passed [] i s));
    end = λ length full.
        let end = x.end length full in record {
          kept = passed ++ end.kept;
          left = end.left;
          split = ap (λ (l : List AccountEvent). passed ++ l) end.split ∙ sym (append_assoc passed end.kept end.left);
          grew = grew_behind store.journal.length one.journal.length length passed end.kept grew end.grew;
          full = end.full;
        };
  }
