-- What keeping an event answers.
use Rattle.std.proofs.Common.{◌≡◌, inl, ℕ, List, [], ◌∷◌, ◌++◌, Ok, Err, sym, ◌∙◌, ap, subst}
use Rattle.std.specs.Prelude.{Result, IfOk, IsErrOf}
use Rattle.glacier_bodies.specs.BlobAreas.{AreaState, IsOpen}
use Rattle.glacier_bodies.specs.Blobs.{Holds}
use Rattle.glacier_bodies.specs.Stands.{AreApart, Layouts}
use Rattle.glacier_disk.specs.declared.area.Area.TheVariants.{Blobs}
use Rattle.glacier_disk.specs.Moments.{weaker}
use Rattle.glacier_disk.specs.Told.{Told, Lawful}
use Rattle.glacier_disk.proofs.TouchesLemmas.{touches_start}
use Rattle.glacier_extents.specs.declared.run.Run.{Run}
use Rattle.glacier_extents.specs.Runs.{block_count}
use Rattle.glacier_journal.specs.Appending.{Appends, IsDurable}
use Rattle.glacier_journal.specs.Listed.{AllList, Payloads}
use Rattle.glacier_journal.specs.declared.journal.Journal.{Journal}
use Rattle.glacier_records.specs.Spells.{Spells}
use Rattle.glacier_vault.specs.Accounts.{Accounts, account_in, AccountEvent}
use Rattle.glacier_replay.specs.Changes.{IsBodyOf, State, after_account_event, leaf_count, new_blob, with_new, without_blobs}
use Rattle.glacier_replay.specs.Made.{EventFits, IsRest, nothing, record_of}
use Rattle.glacier_replay.proofs.SettledLemmas.{leads_settled, nothing_settled}
use Rattle.glacier_store.specs.Kept.{IsHeldBy, IsRestBeside}
use Rattle.glacier_store.specs.Calls.{IsEventOf, Commits, HasFreed}
use Rattle.glacier_store.specs.declared.fault.StoreFault.{StoreFault}
use Rattle.glacier_store.specs.declared.fault.StoreFault.TheVariants as fault
use Rattle.glacier_store.specs.declared.store.Store.{Store}
use Rattle.glacier_store.proofs.EventOfLemmas.{accounts_are, event_fits, layouts_are}
use Rattle.glacier_store.proofs.KeptLemmas.{becomes, held_on, layouts_after, stays_start}

-- memory was wanting before the first call of the disk
pub kept_without_memory : (old : Told) (journal : Journal) (area : AreaState) (own : List Run) (before after : State) (result : Result Store StoreFault) → result ≡ Err fault.Memory → Lawful old
    → Commits old old journal area own before after result
kept_without_memory old journal area own before after result is law = subst (λ (r : Result Store StoreFault). Commits old old journal area own before after r) (sym is) (record {
  any_moment = λ held. weaker old old _ _ (stays_start old journal area.blobs before law held) (λ i stands. inl stands);
  memory = λ held same. stays_start old journal area.blobs before law held;
  held = λ held. tt;
  kept = λ held beside. tt;
  touches = touches_start journal.area old law;
})

module _ (old new : Told) (journal : Journal) (area : AreaState) (own : List Run) (before : State) (h : AccountEvent) (afterwards : Accounts) (freed payload : List ℕ)
    (law : Lawful old) (event : IsEventOf before.accounts afterwards h freed) (spells : Spells payload (record_of h own))
    (opened : IsOpen area own) (count : block_count own ≡ leaf_count h.event) (body_is : IsBodyOf h.event h.body) (stored : Holds own h.body (old.reads Blobs))
    (named : AreaState) (named_is : named.blobs ≡ with_new area.blobs h.account (new_blob (account_in before.accounts h.account).counter h.event own))
    (apart_is : AreApart area.blobs → AreApart named.blobs) (rest_is : IsRestBeside own area.free area.blobs → IsRest named.free named.blobs) (appends : Appends journal.area journal.length payload old new) where
  fits : EventFits (record { accounts = before.accounts; layouts = area.blobs }) h.account h.moment h.event own
  fits = event_fits before afterwards h freed event area own opened count

  apart : IsHeldBy old journal area.blobs before → AreApart area.blobs
  apart held = (leads_settled held.payloads nothing (record { accounts = before.accounts; layouts = area.blobs }) nothing_settled (held.state_is old.reads law.reads_left).made).apart

  its_layouts : (done : Layouts) → done ≡ without_blobs named.blobs h.account freed
      → done ≡ layouts_after before area.blobs h own
  its_layouts done is = is ∙ ap (λ (m : Layouts). without_blobs m h.account freed) named_is ∙ sym (layouts_are before afterwards h freed event area.blobs own)

  -- what the appended record makes is held
  done_held : (done : Store) → (held : IsHeldBy old journal area.blobs before) → HasFreed named done.area h.account freed
      → IsDurable old new journal.area done.journal.area (held.payloads ++ payload ∷ []) done.journal.length
      → IsHeldBy new done.journal done.area.blobs (after_account_event before h)
  done_held done held freed_are durable =
      subst (λ (l : Layouts). IsHeldBy new done.journal l (after_account_event before h)) (sym (its_layouts done.area.blobs freed_are.blobs))
      (held_on old new journal area.blobs before h own payload law spells event.lawful fits body_is stored held done.journal durable)

  -- the record was appended, or not
  pub kept_by_append : (result : Result Store StoreFault)
      → ((payloads : Payloads) → AllList old.leaves journal.area payloads journal.length
      → IfOk result (λ done. IsDurable old new journal.area done.journal.area (payloads ++ payload ∷ []) done.journal.length))
      → IfOk result (λ done. done.accounts ≡ afterwards) → IfOk result (λ done. HasFreed named done.area h.account freed)
      → (IsErrOf result fault.Memory → ⊥) → Commits old new journal area own before (after_account_event before h) result
  kept_by_append (Ok done) acknowledged accounts freed_are no_memory = record {
    any_moment = λ held. becomes old new journal area.blobs before h own payload law spells event.lawful fits body_is stored held appends;
    memory = λ held is. absurd (cc is);
    held = λ held. record {
      accounts = accounts ∙ accounts_are before afterwards h freed event;
      held = done_held done held freed_are (acknowledged held.payloads held.listed);
    };
    kept = λ held beside. record {
      accounts = accounts ∙ accounts_are before afterwards h freed event;
      held = done_held done held freed_are (acknowledged held.payloads held.listed);
      rest = freed_are.rest (apart_is (apart held)) (rest_is beside);
    };
    touches = appends.touches;
  }
  kept_by_append (Err why) acknowledged accounts freed_are no_memory = record {
    any_moment = λ held. becomes old new journal area.blobs before h own payload law spells event.lawful fits body_is stored held appends;
    memory = λ held is. absurd (no_memory is);
    held = λ held. tt;
    kept = λ held beside. tt;
    touches = appends.touches;
  }
