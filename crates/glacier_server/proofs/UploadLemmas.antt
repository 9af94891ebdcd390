-- The body of an upload is taken, and its event is kept, or its blocks are given back.
use Rattle.std.proofs.Common.{◌≡◌, inl, ℕ, ◌<◌, List, [], length, refl, sym, ◌∙◌, subst, arith, append-nil}
use Rattle.std.proofs.lemmas.List.Elements.{All-nil}
use Rattle.glacier_bodies.specs.Bodies.{body_runs}
use Rattle.glacier_bodies.specs.Stands.{Layouts}
use Rattle.glacier_bodies.specs.declared.body.Body.{Body}
use Rattle.glacier_disk.specs.Network.{wait_of}
use Rattle.glacier_disk.specs.Told.{Told}
use Rattle.glacier_extents.specs.declared.run.Run.{Run}
use Rattle.glacier_journal.specs.declared.journal.Journal.{Journal}
use Rattle.glacier_replay.specs.Changes.{State}
use Rattle.glacier_replay.specs.Made.{IsRest}
use Rattle.glacier_store.specs.Calls.{OnlyFree}
use Rattle.glacier_store.specs.Kept.{IsHeld, IsHeldBy, IsRestBeside, Kept}
use Rattle.glacier_store.specs.declared.store.Store.{Store}
use Rattle.glacier_server.specs.declared.end.ServeFault.TheVariants.{Disk, Memory}
use Rattle.glacier_server.specs.declared.upload.BodyEnd.TheVariants.{Cut, Failed}
use Rattle.glacier_server.specs.declared.upload_stream.StreamFault.{StreamFault}
use Rattle.glacier_server.specs.declared.upload_stream.StreamFault.TheVariants as stream
use Rattle.glacier_server.specs.declared.upload_stream.StreamFault.TheVariants.{Receive}
use Rattle.glacier_server.specs.Does.{Failing, nothing, receiving}
use Rattle.glacier_server.specs.Placed.{placed_as}
use Rattle.glacier_server.specs.Rooms.{GrewBy}
use Rattle.glacier_server.specs.Session.{acting, taking}
use Rattle.glacier_server.specs.Streams.{HasStreamed, IsBroken, Streams, StreamsPart, stream_of}
use Rattle.glacier_server.specs.Transfer.{TakenAt, Transfer, current}
use Rattle.glacier_server.specs.UploadCalls.{HasOpened}
use Rattle.glacier_server.specs.Uploads.{BreaksUpload, Came, CutsUpload, HasEndedBody, Upload}
use Rattle.glacier_server.proofs.DoesLemmas.{does_nothing}
use Rattle.glacier_server.proofs.PiecesLemmas.{none_written}
use Rattle.glacier_server.proofs.RoomLemmas.{grew_none}
use Rattle.glacier_server.proofs.TransferLemmas.{breaks_off, stays, then}

-- another store of the same state, and no call
other_store : (s : Told) (state : State) (one other : Store) → OnlyFree one other → (Kept s one state → Kept s other state)
    → Transfer s s (acting (placed_as one state) (placed_as other state) []) nothing
other_store s state one other same kept = record {
  took = sym (append-nil _);
  coming = refl;
  sent_now = sym (append-nil _);
  waited = sym (append-nil _);
  read = sym (append-nil _);
  rest = refl;
  fails = (refl, refl);
  does = record {
    all_sent = refl;
    after_is = refl;
    agrees = λ agrees. same.accounts ∙ agrees;
    grew = subst (λ (j : Journal). GrewBy one.journal.length j.length []) (sym same.journal) (grew_none one.journal.length);
    kept = kept;
    stops = (does_nothing s (placed_as one state)).stops;
  };
}

-- there was no memory for the body, or there weren't enough free blocks
pub no_body : (u : Upload) (piece : ℕ) {now : Told} → BreaksUpload u piece now now Memory
no_body u piece {now = now} = record {
  left = u.missing;
  came = record {
    got = [];
    sum = omega arith;
    waits = [];
    each = All-nil (TakenAt (wait_of (current now.connections)) [] (λ front. length front < u.missing));
  };
  kept = [];
  transfer = λ state. (placed_as u.store state, breaks_off (taking (placed_as u.store state) [] []) (stays now (placed_as u.store state)));
  broken = refl;
}

-- the body was opened, by which only free blocks changed
module _ (u : Upload) (begun : Store) (same : OnlyFree u.store begun) where
  pub held_as : (disk : Told) (state : State) (store : Store) → OnlyFree u.store store → Kept disk u.store state → IsHeld disk store state
  held_as disk state store free kept = record {
    accounts = free.accounts ∙ kept.accounts;
    held = subst (λ (j : Journal). IsHeldBy disk j store.area.blobs state) (sym free.journal)
        (subst (λ (l : Layouts). IsHeldBy disk u.store.journal l state) (sym free.blobs) kept.held);
  }

  -- bytes of it came
  module _ (first : Body) (piece : ℕ) {old mid : Told} {left : ℕ} {failing : Failing}
      (x : Streams (stream_of begun first u.here u.missing piece) old mid left failing) where
    abbrev pub came : Came u old left
    came = record { got = x.got; sum = x.sum; waits = x.takes.waits; each = x.takes.each }

    pub took : (state : State) → Transfer old mid (taking (placed_as u.store state) x.got x.takes.waits) failing
    took state = x.takes.transfer (placed_as u.store state) (sym same.journal) (sym same.blobs)

-- the blocks of an open body are given back
given_back : (u : Upload) {begun : Store} {size : ℕ} {first : Body} (opened : HasOpened u.store begun size first) (body : Body)
    → body_runs body ≡ body_runs first → (after : Store)
    → (IsRestBeside (body_runs body) begun.area.free begun.area.blobs → IsRest after.area.free after.area.blobs)
    → IsRest u.store.area.free u.store.area.blobs → IsRest after.area.free after.area.blobs
given_back u {begun = begun} opened body runs after rest whole =
    rest (subst (λ (r : List Run). IsRestBeside r begun.area.free begun.area.blobs) (sym runs) (opened.beside whole))

-- in blocks of its own
module _ (u : Upload) {begun : Store} (same : OnlyFree u.store begun) {size : ℕ} {first : Body}
    (opened : HasOpened u.store begun size first) (piece : ℕ) {old mid : Told} where
  -- a part of it came, and they were given back
  cut : (left : ℕ) (failing : Failing) (after : Store) → OnlyFree begun after
      → (IsRest u.store.area.free u.store.area.blobs → IsRest after.area.free after.area.blobs)
      → 0 < left → StreamsPart (stream_of begun first u.here u.missing piece) old mid left failing
      → CutsUpload u piece old mid after failing
  cut left failing after free rest some x =
      let both : OnlyFree u.store after = record {
        accounts = free.accounts ∙ same.accounts;
        journal = free.journal ∙ same.journal;
        blobs = free.blobs ∙ same.blobs;
      } in record {
        left = left;
        some = some;
        came = came u begun same first piece x.rest;
        same = both;
        transfer = λ state.
            then (acting (placed_as u.store state) (placed_as after state) [])
            (taking (placed_as after state) x.rest.got x.rest.takes.waits) refl
            (other_store old state u.store after both (λ kept.
            let held = held_as u begun same old state after both kept in
            record { accounts = held.accounts; held = held.held; rest = rest kept.rest }))
            (x.rest.takes.transfer (placed_as after state) free.journal free.blobs);
        streamed = (body_runs first, x.streamed [] 0 (omega arith) (none_written first old opened.empty));
      }

  module _ (body : Body) (runs : body_runs body ≡ body_runs first) (after : Store) (free : OnlyFree begun after)
      (rest : IsRestBeside (body_runs body) begun.area.free begun.area.blobs → IsRest after.area.free after.area.blobs) where
    -- where the input ended
    pub cut_at : (left : ℕ) → 0 < left → HasStreamed (stream_of begun first u.here u.missing piece) old mid body left
        → HasEndedBody u piece old mid (Cut left after)
    unfolding cut
    cut_at left some x = let at = x.cut some in (cut left nothing after free (given_back u opened body runs after rest) some at.0, refl, at.1)

    -- or a receive failed
    pub failed_at : (fault : StreamFault) → fault ≡ Receive → IsBroken (stream_of begun first u.here u.missing piece) old mid fault
        → HasEndedBody u piece old mid (Failed after)
    failed_at fault is broken =
        let x = subst (λ (f : StreamFault). IsBroken (stream_of begun first u.here u.missing piece) old mid f) is broken in
        cut x.0 receiving after free (given_back u opened body runs after rest) x.1.some x.1

  -- or the disk failed amid it
  pub stream_broken : (fault : StreamFault) → fault ≡ stream.Disk
      → IsBroken (stream_of begun first u.here u.missing piece) old mid fault → BreaksUpload u piece old mid Disk
  stream_broken fault is broken =
      let x = subst (λ (f : StreamFault). IsBroken (stream_of begun first u.here u.missing piece) old mid f) is broken in
      let part = x.1 in record {
        left = x.0;
        came = came u begun same first piece part.rest;
        kept = [];
        transfer = λ state. (placed_as u.store state, took u begun same first piece part.rest state);
        broken = inl (refl, body_runs first, part.streamed [] 0 (omega arith) (none_written first old opened.empty));
      }
