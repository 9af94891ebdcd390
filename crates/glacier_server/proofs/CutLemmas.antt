-- The first acts for messages, and the events among them.
use Rattle.std.proofs.Common.{◌≡◌, ℕ, ◌+◌, ◌-◌, ◌<◌, ◌≤◌, List, [], ◌∷◌, ◌++◌, length, take, drop, inl, inr, sym, ap, ◌∙◌, arith, append-nil, append_assoc, length-append, take-append-drop}
use Rattle.std.proofs.lemmas.Bool.{cases_lt}
use Rattle.std.proofs.lemmas.List.{take-append-le}
use Rattle.std.proofs.Math.Seq.{take-append-add}
use Rattle.std.specs.Option.{is_some}
use Rattle.glacier_http.specs.Messages.{Message, last_end}
use Rattle.glacier_replay.specs.Changes.{State}
use Rattle.glacier_vault.specs.Accounts.{AccountEvent}
use Rattle.glacier_machine.specs.declared.config.Config.{Config}
use Rattle.glacier_server.specs.Acts.{Act, sends, keeps, bytes_of, events_in}
use Rattle.glacier_server.specs.Machine.{reply, after, first_events, further}
use Rattle.glacier_server.specs.Out.{told, run, out, first_acts, interim}
use Rattle.glacier_server.proofs.ActLemmas.{bytes_of-append, bytes_of-keeps, bytes_of-kept, events_in-append, events_in-sends}

-- the acts for some messages, and then those for the others
out_split : (config : Config) (n : ℕ) (state : State) (before others : List Message) (readings more : List ℕ)
    → length readings ≡ length before
    → out config n state (before ++ others) (readings ++ more) ≡ out config n state before readings ++ out config
    (n + length before) (run config state before readings) others more
unfolding out run
out_split config n state [] others [] more each = ap (λ (k : ℕ). out config k state others more) (omega arith)
out_split config n state [] others (r ∷ readings) more each = absurd (omega (arith, each))
out_split config n state (m ∷ before) others [] more each = absurd (omega (arith, each))
out_split config n state (m ∷ before) others (r ∷ readings) more each =
    ap (λ (l : List Act). told config n state m r ++ l)
    (out_split config (n + 1) (after config state m r) before others readings more (omega (arith, each))
    ∙ ap (λ (k : ℕ). out config (n + 1) (after config state m r) before readings ++ out config k (run config
    (after config state m r) before readings) others more) (omega arith))
    ∙ sym (append_assoc (told config n state m r) _ _)

fewer_bytes : (k : ℕ) (acts : List Act) → length (bytes_of (take k acts)) ≤ length (bytes_of acts)
fewer_bytes k acts =
    let whole : length (bytes_of (take k acts ++ drop k acts)) ≡ length (bytes_of acts) = ap (λ
    (l : List Act). length (bytes_of l)) (take-append-drop k acts) in
    omega (
      arith,
      whole,
      ap length (bytes_of-append (take k acts) (drop k acts)),
      length-append (bytes_of
          (take k acts)) (bytes_of (drop k acts)),
    )

-- a byte more than the first acts have stands behind all of them
past_all : (first others : List Act) (k : ℕ) → length (bytes_of first) < length (bytes_of (take k (first ++ others)))
    → (more : List AccountEvent) × (events_in (take k (first ++ others)) ≡ events_in first ++ more)
past_all first others k some = elim (cases_lt k (length first)) [
  | inl few ↦
      let same : take k (first ++ others) ≡ take k first = take-append-le k first others (omega (arith, few)) in
      absurd (omega (arith, some, ap (λ (l : List Act). length (bytes_of l)) same, fewer_bytes k first))
  | inr many ↦
      let at : k ≡ length first + (k - length first) = omega (arith, many) in
      let split : take k (first ++ others) ≡ first ++ take (k - length first) others =
      ap (λ (n : ℕ). take n (first ++ others)) at ∙ take-append-add first others (k - length first) in (
        events_in (take (k - length first) others),
        ap events_in split
            ∙ events_in-append first (take (k - length first) others),
      )
]

module _ (config : Config) (state : State) (before behind : List Message) (m : Message) (readings more : List ℕ)
    (r k : ℕ) (each : length readings ≡ length before) where
  mid : State
  mid = run config state before readings

  -- up to the events of the message
  first : List Act
  first = out config 0 state before readings ++ (first_acts config mid m r ++ keeps (further config mid m r))

  text : List Act
  text = sends (reply config mid m r (is_some (last_end (0 + length before) m)))

  one_is : out config 0 state (before ++ m ∷ []) (readings ++ r ∷ []) ≡ first ++ text
  unfolding out first text mid
  one_is =
      out_split config 0 state before (m ∷ []) readings (r ∷ []) each
      ∙ ap (λ (l : List Act). out config 0 state before readings ++ l) (append-nil _
      ∙ sym (append_assoc (first_acts config mid m r) (keeps (further config mid m r)) text))
      ∙ sym (append_assoc (out config 0 state before readings) _ text)

  all_is : (rest : List Act) × (out config 0 state (before ++ m ∷ behind) (readings ++ r ∷ more) ≡ first ++ rest)
  unfolding out first text mid
  all_is =
      let rest = out config (0 + length before + 1) (after config mid m r) behind more in (
        text ++ rest,
        out_split config 0 state before (m ∷ behind) readings (r ∷ more) each
            ∙ ap (λ (l : List Act). out config 0 state before readings ++ l)
            (append_assoc (first_acts config mid m r) _ rest ∙ ap (λ (l : List Act). first_acts config mid m r ++ l) (append_assoc
            (keeps (further config mid m r)) text rest)
            ∙ sym (append_assoc (first_acts config mid m r) (keeps (further config mid m r)) (text ++ rest)))
            ∙ sym (append_assoc (out config 0 state before readings) _ (text ++ rest)),
      )

  first_bytes : bytes_of (first_acts config mid m r) ≡ interim m
  first_bytes = bytes_of-kept (first_events config mid m r) (interim m)

  bytes_are : length (bytes_of first) ≡ length (bytes_of (out config 0 state before readings))
      + length (interim m)
  unfolding first
  bytes_are =
      ap length (bytes_of-append (out config 0 state before readings) (first_acts config mid m r ++ keeps
      (further config mid m r))
      ∙ ap (λ (l : List ℕ). bytes_of (out config 0 state before readings) ++ l)
      (bytes_of-append (first_acts config mid m r) (keeps (further config mid m r))
      ∙ ap (λ (l : List ℕ). l ++ bytes_of (keeps (further config mid m r))) first_bytes
      ∙ ap (λ (l : List ℕ). interim m ++ l) (bytes_of-keeps (further config mid m r))
      ∙ append-nil (interim m)))
      ∙ length-append (bytes_of (out config 0 state before readings)) (interim m)

  pub events_first : length (bytes_of (out config 0 state before readings)) + length (interim m) < length (bytes_of
      (take k (out config 0 state (before ++ m ∷ behind) (readings ++ r ∷ more))))
      → (others : List AccountEvent) × (events_in (take k (out config 0 state (before ++ m ∷ behind)
      (readings ++ r ∷ more))) ≡ events_in (out config 0 state (before ++ m ∷ []) (readings ++ r ∷ [])) ++ others)
  unfolding text mid
  events_first some =
      let same = all_is.1 in
      let past = past_all first all_is.0 k (omega (
        arith,
        some,
        bytes_are,
        ap (λ (l : List Act). length (bytes_of
            (take k l))) same,
      )) in
      let one : events_in (out config 0 state (before ++ m ∷ []) (readings ++ r ∷ [])) ≡ events_in first =
      ap events_in one_is ∙ events_in-append first text
      ∙ ap (λ (l : List AccountEvent). events_in first ++ l) (events_in-sends (reply config mid m r (is_some
      (last_end (0 + length before) m)))) ∙ append-nil _ in (
        past.0,
        ap (λ (l : List Act). events_in (take k l)) same ∙ past.1
            ∙ ap (λ (l : List AccountEvent). l ++ past.0) (sym one),
      )
