-- The body of an upload was taken whole, and then the upload is done.
use Rattle.std.proofs.Common.{◌≡◌, inr, ℕ, List, [], ◌++◌, Result, Ok, Err, refl, sym, ◌∙◌, ap, subst, append-nil}
use Rattle.glacier_bodies.specs.Blobs.{Holds}
use Rattle.glacier_bodies.specs.Bodies.{HasTaken, body_runs}
use Rattle.glacier_bodies.specs.declared.body.Body.{Body}
use Rattle.glacier_disk.specs.declared.area.Area.TheVariants.{Blobs}
use Rattle.glacier_disk.specs.Told.{Told, Lawful, ByDisk}
use Rattle.glacier_extents.specs.declared.run.Run.{Run}
use Rattle.glacier_http.specs.declared.reply.Reply.{Reply}
use Rattle.glacier_journal.specs.declared.journal.Journal.{Journal}
use Rattle.glacier_machine.specs.ArchiveSteps.{archive_step}
use Rattle.glacier_machine.specs.declared.action.Action.TheVariants as action
use Rattle.glacier_replay.specs.Changes.{State, after_all}
use Rattle.glacier_replay.specs.Made.{IsRest}
use Rattle.glacier_store.specs.Calls.{OnlyFree}
use Rattle.glacier_store.specs.Kept.{IsRestBeside, Kept}
use Rattle.glacier_store.specs.Steps.{accounts_after, action_events}
use Rattle.glacier_store.specs.declared.store.Store.{Store}
use Rattle.glacier_vault.specs.Accounts.{AccountEvent, Accounts, account_in}
use Rattle.glacier_server.specs.declared.end.ServeFault.{ServeFault}
use Rattle.glacier_server.specs.declared.end.ServeFault.TheVariants.{Disk, Memory, JournalEnd, Accept}
use Rattle.glacier_server.specs.Acts.{keeps}
use Rattle.glacier_server.specs.Breaking.{HasBroken}
use Rattle.glacier_server.specs.Does.{breaking}
use Rattle.glacier_server.specs.Events.{KeepsFirst}
use Rattle.glacier_server.specs.Placed.{Placed, placed_as}
use Rattle.glacier_server.specs.Rooms.{GrewBy}
use Rattle.glacier_server.specs.Session.{taking}
use Rattle.glacier_server.specs.Streams.{HasStreamed, HasWritten, Written, stream_of}
use Rattle.glacier_server.specs.Transfer.{Transfer}
use Rattle.glacier_server.specs.UploadCalls.{EndsUpload, HasOpened}
use Rattle.glacier_server.specs.Uploads.{BreaksUpload, HasUploaded, Upload, events_with, reply_with, upload_of, uploading}
use Rattle.glacier_server.proofs.PiecesLemmas.{none_written}
use Rattle.glacier_server.proofs.StepLemmas.{keeps_all, keeps_some, left_after}
use Rattle.glacier_server.proofs.StoreCallLemmas.{accounts_of_all}
use Rattle.glacier_server.proofs.TransferLemmas.{acts_then}
use Rattle.glacier_server.proofs.UploadLemmas.{came, held_as, took}

-- the same upload on the store in which its body was opened
abbrev pub on : Store → Upload → Upload
on begun u = upload_of begun u.rules u.moment u.ask [] 0

module _ (u : Upload) (begun : Store) (same : OnlyFree u.store begun) (first : Body) (piece : ℕ)
    (beside : IsRest u.store.area.free u.store.area.blobs → IsRestBeside (body_runs first) begun.area.free begun.area.blobs)
    (old mid new : Told) (law : Lawful new) (alone : ByDisk mid new) (body : Body)
    (x : Written (stream_of begun first u.here u.missing piece) old mid body 0) (runs : body_runs body ≡ body_runs first) where
  message : List ℕ
  message = u.here ++ x.rest.got

  events : List AccountEvent
  events = events_with u message

  -- what the store's call did, by the store before the body was opened
  by_first : (result : Result (Reply × Store) ServeFault)
      → EndsUpload mid new begun (body_runs body) (events_with (on begun u) message) result
      → EndsUpload mid new begun (body_runs first) events result
  unfolding message events
  by_first result ends =
      subst (λ (r : List Run). EndsUpload mid new begun r (events_with u message) result) runs
      (subst (λ (a : Accounts). EndsUpload mid new begun (body_runs body) (action_events u.rules u.moment (action.Upload u.ask) message a) result)
      same.accounts ends)

  -- its event is kept
  uploaded : (reply : Reply) (after : Store) → reply ≡ reply_with (on begun u) (u.here ++ x.rest.got)
      → EndsUpload mid new begun (body_runs body) (events_with (on begun u) (u.here ++ x.rest.got)) (Ok (reply, after))
      → HasUploaded u old new reply after
  unfolding message events
  uploaded reply after is given =
      let ends = by_first (Ok (reply, after)) given in record {
        came = came u begun same first piece x.rest;
        reply_is = is ∙ ap (λ (a : Accounts). (archive_step u.rules u.moment u.ask message (account_in a u.rules.account)).answer.reply) same.accounts;
        transfer = λ state.
            let placed = placed_as u.store state in
            acts_then (taking placed x.rest.got x.rest.takes.waits) (placed_as after (after_all state events)) (keeps events)
            (took u begun same first piece x.rest state)
            (keeps_all law alone placed events
            (λ kept. ends.any_moment state (held_as u begun same mid state begun same kept))
            (placed_as after (after_all state events)) refl
            (λ agrees. ends.accounts ∙ ap (λ (a : Accounts). accounts_after a events) (same.accounts ∙ agrees)
            ∙ sym (accounts_of_all state events))
            (subst (λ (j : Journal). GrewBy j.length after.journal.length events) same.journal ends.grew)
            (λ kept. ends.kept state (held_as u begun same mid state begun same kept) (beside kept.rest)));
      }

  -- some first ones of its events may be, and the server broke off
  amid : (kept : List AccountEvent) → ((state : State) → Kept mid u.store state → KeepsFirst mid new state kept) → (state : State)
      → (after : Placed) × Transfer old new (uploading (came u begun same first piece x.rest) state after kept) breaking
  amid kept leaves state =
      let placed = placed_as u.store state in
      let after = left_after law alone placed kept (leaves state) in (
        after,
        acts_then (taking placed x.rest.got x.rest.takes.waits) after (keeps kept) (took u begun same first piece x.rest state)
            (keeps_some law alone placed kept (leaves state)),
      )

  upload_broken : (fault : ServeFault) → HasBroken fault mid new
      → EndsUpload mid new begun (body_runs body) (events_with (on begun u) (u.here ++ x.rest.got)) (Err fault)
      → BreaksUpload u piece old new fault
  unfolding message events
  upload_broken Disk is given =
      let ends = by_first (Err Disk) given in record {
        left = 0;
        came = came u begun same first piece x.rest;
        kept = events;
        transfer = amid events (λ state kept. ends.any_moment state (held_as u begun same mid state begun same kept));
        broken = inr (refl, ([], sym (append-nil events)));
      }
  upload_broken Memory is given =
      let ends = by_first (Err Memory) given in record {
        left = 0;
        came = came u begun same first piece x.rest;
        kept = [];
        transfer = amid [] (λ state kept. ends.memory state (held_as u begun same mid state begun same kept) refl);
        broken = refl;
      }
  upload_broken (JournalEnd length) is given =
      let ends = by_first (Err (JournalEnd length)) given in
      let end = ends.end length refl in record {
        left = 0;
        came = came u begun same first piece x.rest;
        kept = events;
        transfer = amid events (λ state kept. ends.any_moment state (held_as u begun same mid state begun same kept));
        broken = (refl, ([], sym (append-nil events)), end.0 ∙ ap (λ (j : Journal). j.length) same.journal, end.1);
      }
  upload_broken Accept is given = absurd is

-- all of it came into its blocks
module _ (u : Upload) {begun : Store} (same : OnlyFree u.store begun) {size : ℕ} {first : Body}
    (opened : HasOpened u.store begun size first) (piece : ℕ) {old mid new : Told} (law : Lawful new) (alone : ByDisk mid new)
    (body : Body) (runs : body_runs body ≡ body_runs first) (left : ℕ) (none : left ≡ 0)
    (streams : HasStreamed (stream_of begun first u.here u.missing piece) old mid body left) where
  x : Written (stream_of begun first u.here u.missing piece) old mid body 0
  x = subst (λ (n : ℕ). Written (stream_of begun first u.here u.missing piece) old mid body n) none (streams.whole none)

  wrote : HasWritten body (u.here ++ x.rest.got) mid
  wrote = x.written [] (none_written first old opened.empty)

  -- what the store's call does, whatever was taken
  abbrev Does : Result (Reply × Store) ServeFault → Type 0
  Does result =
      (message : List ℕ) → HasTaken body message → Holds (body_runs body) message (mid.reads Blobs)
      → EndsUpload mid new begun (body_runs body) (events_with (on begun u) message) result

  pub whole_uploaded : (reply : Reply) (after : Store)
      → ((message : List ℕ) → HasTaken body message → reply ≡ reply_with (on begun u) message) → Does (Ok (reply, after))
      → HasUploaded u old new reply after
  whole_uploaded reply after is does =
      uploaded u begun same first piece opened.beside old mid new law alone body x runs reply after
      (is (u.here ++ x.rest.got) wrote.taken) (does (u.here ++ x.rest.got) wrote.taken wrote.lie)

  pub whole_broken : (fault : ServeFault) → HasBroken fault mid new → Does (Err fault) → BreaksUpload u piece old new fault
  whole_broken fault is does =
      upload_broken u begun same first piece opened.beside old mid new law alone body x runs fault is
      (does (u.here ++ x.rest.got) wrote.taken wrote.lie)
