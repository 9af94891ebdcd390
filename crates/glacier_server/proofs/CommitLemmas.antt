-- The events of a message of which none was kept at its head are kept, or the server breaks off.
use Rattle.std.proofs.Common.{◌≡◌, ℕ, Bool, List, [], ◌++◌, length, take, drop, inl, ap, sym, refl, ◌∙◌, Ok, Err, append-nil, append_assoc}
use Rattle.std.proofs.lemmas.List.{map-append}
use Rattle.std.proofs.Math.Seq.{take-append_seam}
use Rattle.glacier_disk.specs.Told.{Told, Lawful, ByDisk}
use Rattle.glacier_http.specs.Messages.{Message}
use Rattle.glacier_machine.specs.declared.config.Config.{Config}
use Rattle.glacier_machine.specs.Outcomes.{one, outcome_events}
use Rattle.glacier_server.specs.Acts.{Act, keep, sends, keeps, bytes_of, events_in}
use Rattle.glacier_server.specs.declared.end.ServeFault.{ServeFault}
use Rattle.glacier_server.specs.declared.end.ServeFault.TheVariants.{Disk, Memory, JournalEnd, Accept}
use Rattle.glacier_server.specs.Events.{KeepsFirst, KeepsOutcome}
use Rattle.glacier_server.specs.Breaking.{BrokenFor, HasBroken, NoReplyTo}
use Rattle.glacier_server.specs.Machine.{after, reply, caused, first_events, further, happened, passed}
use Rattle.glacier_server.specs.Out.{first_acts, further_acts, interim}
use Rattle.glacier_server.specs.Session.{acting}
use Rattle.glacier_server.specs.Transfer.{Transfer}
use Rattle.glacier_server.specs.Turns.{whole}
use Rattle.glacier_server.specs.Does.{nothing, breaking}
use Rattle.glacier_server.proofs.ActLemmas.{bytes_of-append, bytes_of-keeps, bytes_of-kept, events_in-append, events_in-keeps, events_in-kept}
use Rattle.glacier_server.proofs.StepLemmas.{keeps_all, keeps_some, left_after}
use Rattle.glacier_server.proofs.StoreCallLemmas.{accounts_of_all}
use Rattle.glacier_server.proofs.TransferLemmas.{says}
use Rattle.glacier_server.specs.Placed.{IsKept, Placed, placed_as}
use Rattle.glacier_store.specs.Steps.{accounts_after}
use Rattle.glacier_store.specs.declared.store.Store.{Store}
use Rattle.glacier_vault.specs.Accounts.{AccountEvent, Accounts}

module _ (config : Config) (placed : Placed) (m : Message) (r : ℕ)
    (none : first_events config placed.state m r ≡ []) where
  -- all its events, in order
  abbrev events : List AccountEvent
  events = outcome_events (one config placed.state.accounts m r)

  further_is : further config placed.state m r ≡ events
  unfolding further happened
  further_is = ap (λ (l : List AccountEvent). drop (length l) (happened config placed.state m r)) none

  -- keeping no byte is sent
  silent : (kept : List AccountEvent) (acts : List Act) → acts ≡ first_acts config placed.state m r ++ keeps kept
      → NoReplyTo (whole m) acts
  silent kept acts is = (
    [],
    sym (append-nil _ ∙ ap bytes_of is ∙ bytes_of-append (first_acts config placed.state m r) (keeps kept)
        ∙ ap (λ (l : List ℕ). bytes_of (first_acts config placed.state m r) ++ l) (bytes_of-keeps kept)
        ∙ append-nil _
        ∙ bytes_of-kept (first_events config placed.state m r) (interim m)),
  )

  events_are : (kept : List AccountEvent) (acts : List Act)
      → acts ≡ first_acts config placed.state m r ++ keeps kept → events_in acts ≡ kept
  events_are kept acts is =
      let first = first_events config placed.state m r in
      ap events_in is ∙ events_in-append (first_acts config placed.state m r) (keeps kept)
      ∙ ap (λ (l : List AccountEvent). l ++ events_in (keeps kept)) (events_in-kept first (interim m) ∙ none)
      ∙ events_in-keeps kept

  -- calls of the store
  module _ {old new : Told} (law : Lawful new) (alone : ByDisk old new) where
    -- keep them
    pub committed : {T : Type 0} (x : T × Store)
        → KeepsOutcome old new placed.store (one config placed.state.accounts m r) (Ok x)
        → Transfer old new (acting placed (placed_as x.1 (after config placed.state m r))
        (keeps (further config placed.state m r))) nothing
    unfolding after happened
    committed x calls =
        let left = placed_as x.1 (after config placed.state m r) in
        says (acting placed left (keeps events)) (keeps (further config placed.state m r)) (ap keeps (sym further_is))
        (keeps_all law alone placed events (calls.any_moment placed.state) left refl
        (λ same. calls.accounts ∙ ap (λ (a : Accounts). accounts_after a events) same
        ∙ sym (accounts_of_all placed.state events))
        calls.grew (calls.kept placed.state))

    -- or break the server off, behind some first ones of these
    module _ (close : Bool) where
      -- first ones of these events, and nothing else, are a first part of what is done then
      seam : (kept more : List AccountEvent) → events ≡ kept ++ more
          → take (length (keeps kept)) (further_acts config placed.state m r close) ≡ keeps kept
      seam kept more is =
          let text = sends (reply config placed.state m r close) in
          ap (take (length (keeps kept))) (ap (λ (l : List AccountEvent). keeps l ++ text) (further_is ∙ is)
          ∙ ap (λ (l : List Act). l ++ text) (map-append keep kept more)
          ∙ append_assoc (keeps kept) (keeps more) text)
          ∙ take-append_seam (keeps kept) (keeps more ++ text)

      -- it broke off behind a first part of what is done then, which is no reply
      abbrev BreaksBehind : ServeFault → Type 0
      BreaksBehind fault =
          (k : ℕ) × (left : Placed)
          × Transfer old new (acting placed left (take k (further_acts config placed.state m r close))) breaking
          × BrokenFor config placed (whole m) r (first_acts config placed.state m r
          ++ take k (further_acts config placed.state m r close)) fault

      behind : (fault : ServeFault) (kept more : List AccountEvent) → events ≡ kept ++ more
          → (IsKept old placed → KeepsFirst old new placed.state kept)
          → ((acts : List Act) → acts ≡ first_acts config placed.state m r ++ keeps kept
          → BrokenFor config placed (whole m) r acts fault)
          → BreaksBehind fault
      behind fault kept more is leaves broken =
          let left = left_after law alone placed kept leaves in
          let k = length (keeps kept) in
          let same : take k (further_acts config placed.state m r close) ≡ keeps kept = seam kept more is in (
            k,
            left,
            says (acting placed left (keeps kept)) (take k (further_acts config placed.state m r close)) (sym same)
                (keeps_some law alone placed kept leaves),
            broken _ (ap (λ (l : List Act). first_acts config placed.state m r ++ l) same),
          )

      pub broke : {T : Type 0} (fault : ServeFault) → HasBroken fault old new
          → KeepsOutcome {T = T} old new placed.store (one config placed.state.accounts m r) (Err fault)
          → BreaksBehind fault
      unfolding happened passed caused
      broke Disk is x =
          behind Disk events [] (sym (append-nil _)) (x.any_moment placed.state)
          (λ acts are. inl (silent events acts are))
      broke Memory is x =
          let time = passed config placed.state m r in
          behind Memory time (caused config placed.state m r) refl (λ kept. x.memory placed.state kept refl)
          (λ acts are. (silent time acts are, ([], sym (append-nil _ ∙ events_are time acts are))))
      broke (JournalEnd end) is x =
          behind (JournalEnd end) events [] (sym (append-nil _)) (x.any_moment placed.state)
          (λ acts are. (silent events acts are, x.end end refl))
      broke Accept is x = absurd is
