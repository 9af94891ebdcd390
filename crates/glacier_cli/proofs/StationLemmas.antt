-- What a crash leaves of a run before and while it serves.
use Rattle.std.proofs.Common.{◌≡◌, ◌≤◌, ◌++◌, ◌∙◌, true, false, ℕ, Bool, List, [], inl, inr, ⊎_elim, refl, sym, ap, subst, arith, append-nil}
use Rattle.std.specs.Prelude.{None, Result}
use Rattle.glacier_disk.specs.Calls.{ListenCall}
use Rattle.glacier_disk.specs.Image.{Image, Only}
use Rattle.glacier_disk.specs.Moments.{Looks, looks_start, looks_on}
use Rattle.glacier_disk.specs.Network.{Connection, sent_on}
use Rattle.glacier_disk.specs.Told.{Told, Lawful, ByDisk}
use Rattle.glacier_machine.specs.declared.config.Config.{Config}
use Rattle.glacier_sigv4.specs.declared.ring.Entry.{Entry}
use Rattle.glacier_server.specs.Acts.{Act, StopsAfter}
use Rattle.glacier_server.specs.Headline.{Headline as Serves}
use Rattle.glacier_server.specs.Serving.{acts_of, readings_of}
use Rattle.glacier_replay.specs.Changes.{State}
use Rattle.glacier_replay.specs.Standing.{Stands}
use Rattle.glacier_server.specs.Placed.{placed_as}
use Rattle.glacier_store.specs.Quotas.{over_quota}
use Rattle.glacier_store.specs.declared.store.Store.{Store}
use Rattle.glacier_cli.specs.declared.ending.Ending.{Ending}
use Rattle.glacier_cli.specs.Beginning.{BeginsIn, IsInOrder, IsSpared, Starts, StartsFrom}
use Rattle.glacier_cli.specs.Forms.{ServeWords}
use Rattle.glacier_cli.specs.Serving.{Headline, HeadlineFrom, Spares}
use Rattle.glacier_cli.specs.StationUse.{station_use, config_of}

-- no connection came and no reading was taken, and a crash meanwhile leaves nothing new in a folder that is only looked at
pub record Before (is_new : Bool) (old new : Told) : Type 0 where
  pub later : old.moment ≤ new.moment
  pub connections : new.connections ≡ old.connections
  pub readings : new.readings ≡ old.readings
  pub to_come : new.listener.to_come ≡ old.listener.to_come
  pub looks : IsSpared is_new old.reads → Looks old new
  pub each : (i : Image) (sent : List (List ℕ)) → new.left_with old.moment i sent
      → (sent ≡ sent_on old.connections) × (IsSpared is_new old.reads → old.leaves i)

-- where nothing was done
pub before_all : {is_new : Bool} {old : Told} → Lawful old → Before is_new old old
before_all {old = old} law = record {
  later = omega arith;
  connections = refl;
  readings = refl;
  to_come = refl;
  looks = λ _. looks_start old law;
  each = λ i sent left. let with = law.with_now i sent left in (with.1, λ _. with.0);
}

-- while the store begins
pub before_begin : {is_new : Bool} {folder : List ℕ} {old new : Told} {result : Result Store Ending} → Lawful old → ByDisk old new
    → BeginsIn is_new folder old new result → Before is_new old new
before_begin {old = old} law alone begins = record {
  later = alone.later;
  connections = alone.connections;
  readings = alone.readings;
  to_come = ap (λ l. l.to_come) alone.listener;
  looks = begins.looks;
  each = λ i sent left. ⊎_elim (λ was. let with = law.with_now i sent was in (with.1, λ _. with.0))
      (λ since. (since.1, λ spared. (begins.looks spared).moments.each i since.0)) (alone.left old.moment i sent (omega arith) left);
}

-- and while the address is listened at
pub before_listen : {T E : Type 0} {is_new : Bool} {old mid new : Told} {result : Result T E} → Before is_new old mid
    → ListenCall mid new result → Before is_new old new
before_listen {old = old} {mid = mid} {new = new} x call = record {
  later = omega (arith, x.later, call.time.later);
  connections = call.connections ∙ x.connections;
  readings = call.readings ∙ x.readings;
  to_come = call.to_come ∙ x.to_come;
  looks = λ spared. looks_on old mid new (x.looks spared) call.disk.rests;
  each = λ i sent left. ⊎_elim (x.each i sent)
      (λ here. (here.1 ∙ ap sent_on (call.connections ∙ x.connections), λ spared. (x.looks spared).crash i (call.disk.rests.crash i here.0)))
      (call.time.nothing_else old.moment i sent x.later left);
}

-- where only the disk as it read could be left, what could be left stands for its state
still_stands : (reads : Image) (leaves : Image → Type 0) (state : State) (i : Image) → Only reads leaves → Stands reads state
    → leaves i → Stands i state
still_stands reads leaves state i only stands there = subst (λ (image : Image). Stands image state) (sym (only i there)) stands

-- a store starts in a folder that is in order
starts_in_order : (is_new : Bool) (reads : Image) (store : Store) → Starts is_new reads store → IsInOrder is_new reads
starts_in_order true reads store starts = starts.0.0
starts_in_order false reads store starts = (store.accounts, starts.0)

module _ (tells : Bool) {old : Told} (ring : List Entry) (words : ServeWords) where
  spares : {new : Told} → Before words.is_new old new → (IsInOrder words.is_new old.reads → ⊥) → Spares (station_use tells old new)
  spares x not = let looks = x.looks (inr not) in record {
    none = record { connections = x.connections; readings = x.readings };
    same = looks.same;
    now = looks.crash;
    any_moment = λ i sent left. (x.each i sent left).1 (inr not);
  }

  -- the run ended before a connection came
  none_from : {new : Told} → Before words.is_new old new → (state : State) → StartsFrom words.is_new old.reads state
      → HeadlineFrom (station_use tells old new) ring words state
  none_from {new = new} x state from = record {
    came = [];
    sessions = [];
    comes = record { behind = x.connections ∙ sym (append-nil old.connections); read = x.readings ∙ sym (append-nil old.readings) };
    machine = inl (refl, refl);
    stop = λ i sent left. inl (x.each i sent left).0;
    any_moment = λ opens only i sent left.
        let was = x.each i sent left in
        let stands = subst (λ (b : Bool). StartsFrom b old.reads state) opens from in
        record { k = 0; bytes = was.0; stands = still_stands old.reads old.leaves state i only stands (was.1 (inl opens)) };
  }

  pub none_came : {new : Told} → Before words.is_new old new → Headline (station_use tells old new) ring words
  none_came x = record { from = none_from x; spared = spares x }

  -- a crash behind what came before is one of the run
  module _ {mid : Told} (x : Before words.is_new old mid) (store : Store) where
    of_run : (state : State) (acts : List Act) (i : Image) (sent : List (List ℕ))
        → StopsAfter (sent_on mid.connections) state acts i sent
        → StopsAfter (sent_on old.connections) state acts i sent
    of_run state acts i sent stop = subst (λ (l : List Connection). StopsAfter (sent_on l) state acts i sent) x.connections stop

    -- what was served from this store on
    module _ (starts : Starts words.is_new old.reads store) (within : over_quota ring store.accounts ≡ None) where
      served_from : {new : Told} {config : Config} → config ≡ config_of ring words → (state : State)
          → StartsFrom words.is_new old.reads state → Serves config mid new (placed_as store state)
          → HeadlineFrom (station_use tells old new) ring words state
      served_from {new = new} {config = config} is state from given =
          let h = subst (λ (c : Config). Serves c mid new (placed_as store state)) is given in
          record {
            came = h.came;
            sessions = h.sessions;
            comes = record {
              behind = h.behind ∙ ap (λ (l : List Connection). l ++ h.came) x.connections;
              read = h.read ∙ ap (λ (l : List ℕ). l ++ readings_of h.sessions) x.readings;
            };
            machine = inr (record { store = store; starts = starts; within = within }, h.machine);
            stop = λ i sent left. ⊎_elim (λ before. inl (x.each i sent before).0)
                (λ stop. inr (of_run state (acts_of h.sessions) i sent stop))
                (h.amid.each old.moment i sent x.later left);
            any_moment = λ opens only i sent left.
                let stands = subst (λ (b : Bool). StartsFrom b old.reads state) opens from in
                ⊎_elim (λ before. let was = x.each i sent before in
                record { k = 0; bytes = was.0; stands = still_stands old.reads old.leaves state i only stands (was.1 (inl opens)) })
                (λ stop. of_run state (acts_of h.sessions) i sent stop)
                (h.amid.each old.moment i sent x.later left);
          }

      pub served_on : {new : Told} {config : Config} → config ≡ config_of ring words
          → ((state : State) → StartsFrom words.is_new old.reads state → Serves config mid new (placed_as store state))
          → Headline (station_use tells old new) ring words
      served_on is given = record {
        from = λ state from. served_from is state from (given state from);
        spared = λ not. absurd (not (starts_in_order words.is_new old.reads store starts));
      }
