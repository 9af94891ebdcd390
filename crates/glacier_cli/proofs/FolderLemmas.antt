-- How serving from a folder ends.
use Rattle.std.proofs.Common.{◌≡◌, ◌≤◌, ◌+◌, ◌++◌, ◌∙◌, ◌∷◌, [], ℕ, Bool, List, None, inl, inr, sym, ap, subst, arith}
use Rattle.std.specs.Prelude.{IsTrue}
use Rattle.glacier_base.specs.Outside.{one_more, HasRisen}
use Rattle.glacier_disk.specs.Calls.{SameDisk}
use Rattle.glacier_disk.specs.Image.{NoMore}
use Rattle.glacier_disk.specs.Network.{Connection}
use Rattle.glacier_disk.specs.Told.{Told, Listener}
use Rattle.glacier_machine.specs.declared.config.Config.{Config}
use Rattle.glacier_sigv4.specs.declared.ring.Entry.{Entry}
use Rattle.glacier_server.specs.declared.end.ServeFault.{ServeFault}
use Rattle.glacier_server.specs.declared.end.ServeFault.TheVariants as server
use Rattle.glacier_server.specs.Serving.{Came, Comes, Serves, Breaks, Broken, ServesOn, HasStopped, readings_of}
use Rattle.glacier_server.specs.Session.{Session}
use Rattle.glacier_replay.specs.Changes.{State}
use Rattle.glacier_server.specs.Placed.{Placed, placed_as}
use Rattle.glacier_store.proofs.KeptLemmas.{held_rests}
use Rattle.glacier_store.specs.Kept.{Kept}
use Rattle.glacier_store.specs.Quotas.{over_quota}
use Rattle.glacier_store.specs.declared.store.Store.{Store}
use Rattle.glacier_cli.specs.Beginning.{Starts, StartsFrom}
use Rattle.glacier_cli.specs.Forms.{ServeWords}
use Rattle.glacier_cli.specs.Program.{FolderEnds, of_server}
use Rattle.glacier_cli.specs.Serving.{BreaksAt, Holds, ServesAt, ServesFrom, ServesTill, TillFrom}
use Rattle.glacier_cli.specs.StationUse.{station_use, config_of, OpensAll}
use Rattle.glacier_cli.proofs.StationLemmas.{Before}

-- the folder that was opened and the address that was listened at
pub opens_all : (tells : Bool) {old mid listened new : Told} (words : ServeWords)
    → mid.folders ≡ old.folders ++ words.folder ∷ [] → mid.listener ≡ old.listener → SameDisk mid listened
    → listened.listener.addresses ≡ mid.listener.addresses ++ words.address ∷ [] → ServesOn listened new
    → OpensAll (station_use tells old new) words
opens_all tells words folder listener disk named kept = record {
  folder = kept.folders ∙ disk.folders ∙ folder;
  address = kept.addresses ∙ named ∙ ap (λ (l : Listener). l.addresses ++ words.address ∷ []) listener;
}

-- calls that leave no new image keep a store
pub still_kept : {old new : Told} {store : Store} {state : State} → NoMore old.leaves new.leaves → Kept old store state
    → Kept new store state
still_kept {old = old} {new = new} {store = store} {state = state} crash kept = record {
  accounts = kept.accounts;
  held = held_rests old new store.journal store.area.blobs state crash kept.held;
  rest = kept.rest;
}

module _ (tells : Bool) {old mid : Told} (ring : List Entry) (words : ServeWords) (store : Store) (x : Before words.is_new old mid)
    (starts : Starts words.is_new old.reads store) (within : over_quota ring store.accounts ≡ None) where
  comes_from : {new : Told} {came : List Connection} {sessions : List Session} → Comes mid new came sessions → Comes old new came sessions
  comes_from {came = came} {sessions = sessions} comes = record {
    behind = comes.behind ∙ ap (λ (l : List Connection). l ++ came) x.connections;
    read = comes.read ∙ ap (λ (l : List ℕ). l ++ readings_of sessions) x.readings;
  }

  abbrev holds : {new : Told} → Holds (station_use tells old new) ring words
  holds = record { store = store; starts = starts; within = within }

  serves_from : {new : Told} {config : Config} {count : ℕ} → config ≡ config_of ring words → (state : State)
      → Kept mid store state → (after : Placed) → Serves config mid new (placed_as store state) after count
      → ServesFrom (station_use tells old new) ring words (placed_as store state) count
  serves_from {new = new} {count = count} is state kept after given =
      let s = subst (λ (c : Config). Serves c mid new (placed_as store state) after count) is given in
      record {
        after = after;
        kept = s.does.kept kept;
        came = s.came;
        sessions = s.sessions;
        comes = comes_from s.comes;
        number = s.number;
        each = s.each;
      }

  -- as far as the fault
  till_from : {new : Told} {config : Config} {fault : ServeFault} → config ≡ config_of ring words → (state : State)
      → Breaks config mid new (placed_as store state) words.connections fault
      → TillFrom (station_use tells old new) ring words fault (placed_as store state)
  till_from {new = new} {fault = fault} is state given =
      let s = subst (λ (c : Config). Breaks c mid new (placed_as store state) words.connections fault) is given in
      record {
        after = s.after;
        came = s.came;
        sessions = s.sessions;
        comes = comes_from s.comes;
        few = s.few;
        till = s.till;
      }

  -- from each state that the folder stood for, which is kept when serving begins
  module _ (begun : (state : State) → StartsFrom words.is_new old.reads state → Kept mid store state) where
    -- all that came
    pub serves_at : {new : Told} {config : Config} {after : Store} {count : ℕ} → config ≡ config_of ring words
        → OpensAll (station_use tells old new) words
        → ((state : State) → Kept mid store state
        → (left : State) × Serves config mid new (placed_as store state) (placed_as after left) count)
        → Came mid new words.connections count → ServesAt (station_use tells old new) ring words count
    serves_at {new = new} {after = after} is opens given came = record {
      opens = opens;
      holds = holds {new = new};
      came = record { left = sym x.to_come ∙ came.left; fewer = came.fewer };
      serves = λ state from.
          let kept = begun state from in
          let s = given state kept in serves_from is state kept (placed_as after s.0) s.1;
    }

    serves_till : {new : Told} {config : Config} {fault : ServeFault} → config ≡ config_of ring words
        → ((state : State) → Kept mid store state → Breaks config mid new (placed_as store state) words.connections fault)
        → mid.listener.to_come ≤ words.connections + new.listener.to_come
        → ServesTill (station_use tells old new) ring words fault
    serves_till {new = new} is given few = record {
      holds = holds {new = new};
      few = let same = x.to_come in omega (arith, few, same);
      serves = λ state from. till_from is state (given state (begun state from));
    }

    breaks_at : {new : Told} {config : Config} {fault : ServeFault} → config ≡ config_of ring words
        → OpensAll (station_use tells old new) words → Broken config mid new store words.connections fault
        → mid.listener.to_come ≤ words.connections + new.listener.to_come
        → BreaksAt (station_use tells old new) ring words fault
    breaks_at is opens (inl given) few = record { opens = inr opens; till = inr (serves_till is given few) }
    breaks_at is opens (inr never) few = record {
      opens = inr opens;
      till = inl (record { connections = never.1 ∙ x.connections; readings = never.2 ∙ x.readings });
    }

    ends_till : {new : Told} {config : Config} {length : ℕ} → config ≡ config_of ring words
        → Broken config mid new store words.connections (server.JournalEnd length)
        → mid.listener.to_come ≤ words.connections + new.listener.to_come
        → ServesTill (station_use tells old new) ring words (server.JournalEnd length)
    ends_till is (inl given) few = serves_till is given few
    ends_till is (inr never) few = let clash = never.0 in absurd (cc)

-- the ending of a fault of the server
pub fault_ends : (tells : Bool) {old mid new : Told} {config : Config} (ring : List Entry) (words : ServeWords) (store : Store)
    (fault : ServeFault) → config ≡ config_of ring words → (IsTrue tells → Before words.is_new old mid)
    → (IsTrue tells → Starts words.is_new old.reads store) → over_quota ring store.accounts ≡ None
    → (IsTrue tells → (state : State) → StartsFrom words.is_new old.reads state → Kept mid store state)
    → mid.disk_faults ≡ old.disk_faults → mid.listener.faults ≡ old.listener.faults
    → (IsTrue tells → OpensAll (station_use tells old new) words)
    → (IsTrue tells → Broken config mid new store words.connections fault)
    → (IsTrue tells → mid.listener.to_come ≤ words.connections + new.listener.to_come)
    → HasStopped fault mid new
    → FolderEnds (station_use tells old new) ring words (of_server fault)
fault_ends tells {new = new} ring words store server.Disk is x starts within begun disk listener opens broken few shows = (
  subst (λ (n : ℕ). HasRisen n new.disk_faults) disk shows.1,
  shows.0 ∙ listener,
  λ t. breaks_at tells ring words store (x t) (starts t) within (begun t) is (opens t) (broken t) (few t),
)
fault_ends tells ring words store server.Memory is x starts within begun disk listener opens broken few shows = (
  record { disk = shows.1 ∙ disk; listener = shows.0 ∙ listener },
  λ t. breaks_at tells ring words store (x t) (starts t) within (begun t) is (opens t) (broken t) (few t),
)
fault_ends tells ring words store (server.JournalEnd length) is x starts within begun disk listener opens broken few shows = (
  record { disk = shows.1 ∙ disk; listener = shows.0 ∙ listener },
  λ t. (opens t, ends_till tells ring words store (x t) (starts t) within (begun t) is (broken t) (few t)),
)
fault_ends tells ring words store server.Accept is x starts within begun disk listener opens broken few shows = (
  shows.0 ∙ ap one_more listener,
  shows.1 ∙ disk,
  λ t. breaks_at tells ring words store (x t) (starts t) within (begun t) is (opens t) (broken t) (few t),
)
