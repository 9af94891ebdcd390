-- How long the record of an event is, and which runs have room in it.
use Rattle.std.proofs.Common.{◌≡◌, ◌≤◌, ◌<◌, ℕ, ◌+◌, ◌*◌, List, [], ◌∷◌, ◌++◌, length, flat_map, Bool, true, false, cond, refl, sym, ap, subst, arith, length-append}
use Rattle.std.specs.Prelude.{◌^◌, Option, Some, None, IsSome, Result, Ok, Err, nat_lt}
use Rattle.std.specs.List.{AllByRecursion}
use Rattle.std.proofs.lemmas.List.Concat.{flat_map-cons}
use Rattle.std.proofs.lemmas.Bool.Decides.{nat_tests}
use Rattle.glacier_extents.specs.declared.run.Run.{Run}
use Rattle.glacier_extents.specs.Runs.{AreDistinct, block_count}
use Rattle.glacier_policy.specs.Policies.{json_of, policy_at, policy_of}
use Rattle.glacier_policy.specs.declared.policy.Policy.{Policy}
use Rattle.glacier_policy.specs.declared.policy.PolicyFault.{PolicyFault}
use Rattle.glacier_policy.specs.declared.policy.PolicyFault.TheVariants.{TooLong}
use Rattle.glacier_records.specs.EventFields.{event_fields, EventFits, numbered_fields}
use Rattle.glacier_records.specs.Fields.{account_field, description_field, digest_field, flag_field, index_field, leaves_field, moment_field, name_field, number_field, run_field, runs_field, text_field, tier_field}
use Rattle.glacier_records.specs.Room.{AreFull, EventHasRoom}
use Rattle.glacier_records.specs.Spells.{head, Spells}
use Rattle.glacier_treehash.specs.Leaves.{leaves_of}
use Rattle.glacier_vault.specs.declared.event.Event.{Event}
use Rattle.glacier_vault.specs.declared.event.Event.TheVariants as events
use Rattle.glacier_vault.specs.declared.state.AccountState.{AccountState}
use Rattle.glacier_replay.specs.Changes.{IsBodyOf, body_in, leaf_count}
use Rattle.glacier_vault.specs.Accounts.{AccountEvent}
use Rattle.glacier_replay.specs.Made.{record_of}
use Rattle.glacier_replay.specs.Replayed.{after_event, policy_or_none}
use Rattle.glacier_replay.proofs.CounterLemmas.{of_there}

-- the bytes of digests, and of runs
length-digests : (leaves : List (List ℕ)) → AllByRecursion digest_field.Fits leaves → length (flat_map digest_field.spell leaves) ≡ 32 * length leaves
length-digests [] fit = refl
length-digests (leaf ∷ leaves) fit =
    let first : length leaf ≡ 32 = fit.0 in
    omega (
      arith,
      first,
      length-digests leaves fit.1,
      ap (λ (l : List ℕ). length l) (flat_map-cons digest_field.spell leaf leaves),
      length-append leaf (flat_map digest_field.spell leaves),
    )

length-runs : (runs : List Run) → length (flat_map run_field.spell runs) ≡ 8 * length runs
length-runs [] = refl
length-runs (run ∷ runs) =
    let first : length (run_field.spell run) ≡ 8 = refl in
    omega (
      arith,
      first,
      length-runs runs,
      ap (λ (l : List ℕ). length l) (flat_map-cons run_field.spell run runs),
      length-append (run_field.spell run) (flat_map run_field.spell runs),
    )

length-lists : (leaves : List (List ℕ)) (runs : List Run) → AllByRecursion digest_field.Fits leaves
    → length (leaves_field.spell leaves ++ runs_field.spell runs) ≡ 8 + 32 * length leaves + 8 * length runs
length-lists leaves runs fit = omega (
  arith,
  length-digests leaves fit,
  length-runs runs,
  length-append (leaves_field.spell leaves) (runs_field.spell runs),
)

-- one text and another
both : (a b : List ℕ) (m n : ℕ) → length a ≤ m → length b ≤ n → length (a ++ b) ≤ m + n
both a b m n first second = omega (arith, length-append a b, first, second)

short_name : (name : List ℕ) → name_field.Fits name → length (name_field.spell name) ≤ 256
short_name name fit = omega (arith, fit.0)

short_description : (text : List ℕ) → description_field.Fits text → length (description_field.spell text) ≤ 65537
short_description text fit = omega (arith, fit.0)

short_text : (text : List ℕ) → text_field.Fits text → length (text_field.spell text) ≤ 65537
short_text text fit = omega (arith, fit)

short_number : (n : ℕ) → length (number_field.spell n) ≤ 8
short_number n = omega arith

short_numbered : (name : List ℕ) (n : ℕ) → numbered_fields.Fits (name, n) → length (numbered_fields.spell (name, n)) ≤ 264
short_numbered name n fit = both (name_field.spell name) (number_field.spell n) 256 8 (short_name name fit.0) (short_number n)

short_lists : (leaves : List (List ℕ)) (runs : List Run) → leaves_field.Fits leaves
    → length (leaves_field.spell leaves ++ runs_field.spell runs) ≤ 8 + 32 * length leaves + 8 * length runs
short_lists leaves runs fit = omega (arith, length-lists leaves runs fit.1)

-- the bytes of an event's fields
short_fields : (e : Event) (runs : List Run) → EventFits e runs → length (event_fields e runs) ≤ 140000 + 32 * leaf_count e + 8 * length runs
short_fields events.Pass runs fit = omega arith
short_fields (events.CreateVault name) runs fit = omega (arith, short_name name fit.0)
short_fields (events.DeleteVault name) runs fit = omega (arith, short_name name fit.0)
short_fields (events.Upload name size description leaves) runs fit =
    let n : ℕ = 8 + 32 * length leaves + 8 * length runs in
    let a : List ℕ = leaves_field.spell leaves ++ runs_field.spell runs in
    let b : List ℕ = description_field.spell description ++ a in
    let c : List ℕ = number_field.spell size ++ b in
    let described : length b ≤ 65537 + n = both (description_field.spell description) a 65537 n (short_description description fit.1.1.0) (short_lists leaves runs fit.1.1.1.0) in
    let sized : length c ≤ 8 + (65537 + n) = both (number_field.spell size) b 8 (65537 + n) (short_number size) described in
    let named : length (name_field.spell name ++ c) ≤ 256 + (8 + (65537 + n)) = both (name_field.spell name) c 256 (8 + (65537 + n)) (short_name name fit.0) sized in
    omega (arith, named)
short_fields (events.DeleteArchive name archive) runs fit = omega (arith, short_numbered name archive fit.0)
short_fields (events.BeginUpload name part_size description) runs fit =
    let a : List ℕ = number_field.spell part_size ++ description_field.spell description in
    let sized : length a ≤ 65545 = both (number_field.spell part_size) (description_field.spell description) 8 65537 (short_number part_size) (short_description description fit.0.1.1) in
    let named : length (name_field.spell name ++ a) ≤ 65801 = both (name_field.spell name) a 256 65545 (short_name name fit.0.0) sized in
    omega (arith, named)
short_fields (events.Part name upload index size leaves) runs fit =
    let n : ℕ = 8 + 32 * length leaves + 8 * length runs in
    let a : List ℕ = leaves_field.spell leaves ++ runs_field.spell runs in
    let b : List ℕ = number_field.spell size ++ a in
    let c : List ℕ = index_field.spell index ++ b in
    let d : List ℕ = number_field.spell upload ++ c in
    let sized : length b ≤ 8 + n = both (number_field.spell size) a 8 n (short_number size) (short_lists leaves runs fit.1.1.1.1.0) in
    let placed : length c ≤ 4 + (8 + n) = both (index_field.spell index) b 4 (8 + n) (omega arith) sized in
    let uploaded : length d ≤ 8 + (4 + (8 + n)) = both (number_field.spell upload) c 8 (4 + (8 + n)) (short_number upload) placed in
    let named : length (name_field.spell name ++ d) ≤ 256 + (8 + (4 + (8 + n))) = both (name_field.spell name) d 256 (8 + (4 + (8 + n))) (short_name name fit.0) uploaded in
    omega (arith, named)
short_fields (events.Complete name upload) runs fit = omega (arith, short_numbered name upload fit.0)
short_fields (events.Abort name upload) runs fit = omega (arith, short_numbered name upload fit.0)
short_fields (events.BeginRetrieval name archive first end tier ready description) runs fit =
    let a : List ℕ = moment_field.spell ready ++ description_field.spell description in
    let b : List ℕ = tier_field.spell tier ++ a in
    let c : List ℕ = number_field.spell end ++ b in
    let d : List ℕ = number_field.spell first ++ c in
    let e : List ℕ = number_field.spell archive ++ d in
    let timed : length a ≤ 65545 = both (moment_field.spell ready) (description_field.spell description) 8 65537 (omega arith) (short_description description fit.0.1.1.1.1.1.1) in
    let tiered : length b ≤ 65546 = both (tier_field.spell tier) a 1 65545 (omega arith) timed in
    let ended : length c ≤ 65554 = both (number_field.spell end) b 8 65546 (short_number end) tiered in
    let begun : length d ≤ 65562 = both (number_field.spell first) c 8 65554 (short_number first) ended in
    let its : length e ≤ 65570 = both (number_field.spell archive) d 8 65562 (short_number archive) begun in
    let named : length (name_field.spell name ++ e) ≤ 65826 = both (name_field.spell name) e 256 65570 (short_name name fit.0.0) its in
    omega (arith, named)
short_fields (events.BeginInventory name csv tier ready description) runs fit =
    let a : List ℕ = moment_field.spell ready ++ description_field.spell description in
    let b : List ℕ = tier_field.spell tier ++ a in
    let c : List ℕ = flag_field.spell csv ++ b in
    let timed : length a ≤ 65545 = both (moment_field.spell ready) (description_field.spell description) 8 65537 (omega arith) (short_description description fit.0.1.1.1.1) in
    let tiered : length b ≤ 65546 = both (tier_field.spell tier) a 1 65545 (omega arith) timed in
    let flagged : length c ≤ 65547 = both (flag_field.spell csv) b 1 65546 (omega arith) tiered in
    let named : length (name_field.spell name ++ c) ≤ 65803 = both (name_field.spell name) c 256 65547 (short_name name fit.0.0) flagged in
    omega (arith, named)
short_fields (events.InitiateLock name policy) runs fit =
    omega (arith, both (name_field.spell name) (text_field.spell policy) 256 65537 (short_name name fit.0.0) (short_text policy fit.0.1))
short_fields (events.CompleteLock name) runs fit = omega (arith, short_name name fit.0)
short_fields (events.AbortLock name) runs fit = omega (arith, short_name name fit.0)

-- the bytes of its record
pub short_record : (n : ℕ) (payload : List ℕ) (h : AccountEvent) (runs : List Run) → Spells payload (record_of h runs) → leaf_count h.event ≤ n → length runs ≤ n
    → length payload ≤ 140100 + 40 * n
short_record n payload h runs spells leaves few =
    let digits : length h.account ≡ 12 = spells.head_fits.0.0 in
    omega (
      arith,
      short_fields h.event runs spells.fields_fit,
      leaves,
      few,
      digits,
      ap (λ (l : List ℕ). length l) spells.spelled,
      length-append (head.spell (h.account, h.moment)) (event_fields h.event runs),
      length-append (account_field.spell h.account) (moment_field.spell h.moment),
    )

-- distinct runs have a block each
pub runs_full : (high : ℕ) (runs : List Run) → AreDistinct high runs → AreFull runs
runs_full high [] distinct = tt
runs_full high (run ∷ runs) distinct = (distinct.0, runs_full high runs distinct.3)

pub runs_few : (high : ℕ) (runs : List Run) → AreDistinct high runs → length runs ≤ block_count runs
runs_few high [] distinct = omega arith
runs_few high (run ∷ runs) distinct = omega (arith, distinct.0, runs_few high runs distinct.3)

-- an event with a body has room for it where its blocks are few
pub body_room : (high : ℕ) (e : Event) (runs : List Run) (n : ℕ) → IsSome (body_in e) → AreDistinct high runs → block_count runs ≡ leaf_count e → block_count runs ≤ n
    → n < 2 ^ 32 → EventHasRoom e runs
body_room high (events.Upload name size description leaves) runs n some distinct count few small =
    (omega (arith, count, few, small), omega (arith, runs_few high runs distinct, few, small), runs_full high runs distinct)
body_room high (events.Part name upload index size leaves) runs n some distinct count few small =
    (omega (arith, count, few, small), omega (arith, runs_few high runs distinct, few, small), runs_full high runs distinct)
body_room high events.Pass runs n some distinct count few small = cc
body_room high (events.CreateVault name) runs n some distinct count few small = cc
body_room high (events.DeleteVault name) runs n some distinct count few small = cc
body_room high (events.DeleteArchive name archive) runs n some distinct count few small = cc
body_room high (events.BeginUpload name part_size description) runs n some distinct count few small = cc
body_room high (events.Complete name upload) runs n some distinct count few small = cc
body_room high (events.Abort name upload) runs n some distinct count few small = cc
body_room high (events.BeginRetrieval name archive first end tier ready description) runs n some distinct count few small = cc
body_room high (events.BeginInventory name csv tier ready description) runs n some distinct count few small = cc
body_room high (events.InitiateLock name policy) runs n some distinct count few small = cc
body_room high (events.CompleteLock name) runs n some distinct count few small = cc
body_room high (events.AbortLock name) runs n some distinct count few small = cc

-- one without a body has no leaf
pub no_leaf : (e : Event) → body_in e ≡ None → leaf_count e ≡ 0
no_leaf e none = ap (λ (r : Option (ℕ × List (List ℕ))). elim r as (λ _. ℕ) [ None ↦ 0 | Some told ↦ length told.1 ]) none

-- a policy that is one is short
short_policy : (text : List ℕ) (policy : Policy) → policy_or_none text ≡ Some policy → length text < 2 ^ 16
unfolding policy_of
short_policy text policy e = at (nat_lt 20_480 (length text)) refl e
  where
    at : (b : Bool) → nat_lt 20_480 (length text) ≡ b
        → (elim (cond {A = Result Policy PolicyFault} b (Err (TooLong (length text))) (policy_at (json_of text))) as (λ _. Option Policy) [ Ok found ↦ Some found | Err fault ↦ None ]) ≡ Some policy
        → length text < 2 ^ 16
    at true is there = cc
    at false is there = grind (arith, nat_tests)

-- an event without a body that fits has room
pub plain_room : (a : AccountState) (m : ℕ) (e : Event) (p : AccountState × List ℕ) → after_event a m e ≡ Some p → body_in e ≡ None → EventHasRoom e []
plain_room a m (events.InitiateLock name policy) p fits none = (of_there (λ _. length policy < 2 ^ 16) p (policy_or_none policy) _ fits (λ read is next. short_policy policy read is), refl)
plain_room a m events.Pass p fits none = refl
plain_room a m (events.CreateVault name) p fits none = refl
plain_room a m (events.DeleteVault name) p fits none = refl
plain_room a m (events.Upload name size description leaves) p fits none = cc
plain_room a m (events.DeleteArchive name archive) p fits none = refl
plain_room a m (events.BeginUpload name part_size description) p fits none = refl
plain_room a m (events.Part name upload index size leaves) p fits none = cc
plain_room a m (events.Complete name upload) p fits none = refl
plain_room a m (events.Abort name upload) p fits none = refl
plain_room a m (events.BeginRetrieval name archive first end tier ready description) p fits none = refl
plain_room a m (events.BeginInventory name csv tier ready description) p fits none = refl
plain_room a m (events.CompleteLock name) p fits none = refl
plain_room a m (events.AbortLock name) p fits none = refl

-- and comes with no bytes
pub no_body : (e : Event) → body_in e ≡ None → IsBodyOf e []
no_body e none =
    let bare : ◌≡◌ {A = List ℕ} [] [] = refl in
    subst (λ (r : Option (ℕ × List (List ℕ))). elim r as (λ _. Type 0) [ None ↦ ◌≡◌ {A = List ℕ} [] [] | Some told ↦ (told.0 ≡ 0) × (told.1 ≡ leaves_of []) ]) (sym none) bare
