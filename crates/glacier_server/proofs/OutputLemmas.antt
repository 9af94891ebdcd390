-- An output is sent in pieces, which are read before they are sent.
use Rattle.std.proofs.Common.{◌≡◌, ℕ, ◌+◌, ◌-◌, ◌<◌, ◌≤◌, true, List, [], ◌++◌, length, take, drop, refl, sym, ap, subst, ◌∙◌, arith, append-nil, length-append}
use Rattle.std.specs.Prelude.{min, Option, Some, Result, Ok, Err}
use Rattle.std.proofs.Math.Seq.{take-add, take-append-add}
use Rattle.std.proofs.lemmas.List.{length-take, length-drop, take_min, take_all, take-append-drop}
use Rattle.glacier_bodies.proofs.ReadLemmas.{rests_start, rests_on}
use Rattle.glacier_disk.specs.Calls.{Rests, SendCall}
use Rattle.glacier_disk.specs.Moments.{started, goes_on}
use Rattle.glacier_disk.specs.Time.{rests-elapses}
use Rattle.glacier_disk.specs.Told.{Told, Lawful, ByDisk}
use Rattle.glacier_bodies.specs.BlobAreas.{bytes_of}
use Rattle.glacier_machine.specs.JobSteps.{stored_archive}
use Rattle.glacier_machine.specs.declared.action.Output.{Output}
use Rattle.glacier_replay.specs.Changes.{State}
use Rattle.glacier_server.specs.declared.output_sender.OutputFault.{OutputFault}
use Rattle.glacier_server.specs.declared.output_sender.OutputFault.TheVariants.{Send, Disk}
use Rattle.glacier_server.specs.Does.{Failing, nothing, sending, breaking}
use Rattle.glacier_server.specs.Events.{StandsForFirst, KeepsFirst}
use Rattle.glacier_server.specs.Outputs.{IsHeldIn, IsThere, OnlySends, SendsAnswer, SendsOutput, SendsPiece, SentBy}
use Rattle.glacier_server.specs.Texts.{promised}
use Rattle.glacier_server.specs.Placed.{IsKept, Placed}
use Rattle.glacier_server.specs.Transfer.{SentAll, SentPart}
use Rattle.glacier_server.proofs.KeepLemmas.{keeps_self, keeps_then, keeps_disk, keeps_broken}
use Rattle.glacier_server.proofs.KeptLemmas.{stands, still_kept}
use Rattle.glacier_server.proofs.RoomLemmas.{grew_none}
use Rattle.glacier_server.proofs.SendLemmas.{sent_then, part_then, part_front}
use Rattle.glacier_server.proofs.StepLemmas.{keeps_all}
use Rattle.glacier_server.proofs.TransferLemmas.{stays}
use Rattle.glacier_replay.specs.Standing.{IsTold}
use Rattle.glacier_vault.specs.Accounts.{Accounts, account_in}
use Rattle.glacier_vault.specs.declared.archive.Archive.{Archive}
use Rattle.glacier_store.proofs.KeptLemmas.{held_rests, kept_stands}
use Rattle.glacier_store.proofs.OutputLemmas.{of_stored}
use Rattle.glacier_store.specs.Outputs.{archive_bytes, archive_in, stretch_bytes}
use Rattle.glacier_store.specs.declared.store.Store.{Store}

-- a store is held where no image changes
pub still_held : {old new : Told} {store : Store} {state : State} → Rests old new → IsHeldIn old store state
    → IsHeldIn new store state
still_held {old = old} {new = new} {store = store} {state = state} rests held = record {
  accounts = held.accounts;
  held = held_rests old new store.journal store.area.blobs state rests.crash held.held;
}

-- and it is where it is kept
pub held_in : {told : Told} {placed : Placed} → IsKept told placed → IsHeldIn told placed.store placed.state
held_in kept = record { accounts = sym kept.accounts; held = kept.held }

-- calls of the disk that change nothing send nothing
none_kept : {old new : Told} (placed : Placed) → Lawful old → Rests old new → IsKept old placed
    → KeepsFirst old new placed.state []
none_kept {old = old} {new = new} placed law rests kept =
    goes_on old old new (StandsForFirst placed.state [])
    (started old (StandsForFirst placed.state []) (λ i left. record { count = 0; stands = stands old placed kept i (law.only_now i left) }))
    (rests-elapses rests)
    (λ i now. record { count = 0; stands = stands old placed kept i (rests.crash i now) })

pub sent_none : {old new : Told} → Lawful old → Lawful new → ByDisk old new → Rests old new → SentAll old new []
sent_none {old = old} {new = new} law law_after alone rests placed =
    keeps_all law_after alone placed [] (none_kept placed law rests) placed refl (λ same. same)
    (grew_none placed.store.journal.length) (still_kept old new placed rests)

-- one stretch of calls after another
pub only_self : (s : Told) → s.connected ≡ true → OnlySends s s nothing
only_self s is = record { keeps = keeps_self s is; rests = rests_start s; readings = refl }

pub only_then : {a b c : Told} {failing : Failing} → OnlySends a b nothing → OnlySends b c failing
    → OnlySends a c failing
only_then {a = a} {b = b} {c = c} first second = record {
  keeps = keeps_then first.keeps second.keeps;
  rests = rests_on a b c first.rests second.rests;
  readings = second.readings ∙ first.readings;
}

-- by a send
pub only_send : {T E : Type 0} {old new : Told} {x : T} → SendCall {T = T} {E = E} old new (Ok x)
    → OnlySends old new nothing
only_send call = record {
  keeps = record {
    connected = call.connected;
    opened = λ was. call.disk.opened ∙ was;
    folders = λ was. call.disk.folders;
    listener = call.listener;
    receives = omega (arith, call.receives);
    sends = call.tried.cause.later;
    counts = (call.receives, call.tried.cause.ok, call.disk.faults);
  };
  rests = call.disk.rests;
  readings = call.readings;
}

pub only_failed : {T E : Type 0} {old new : Told} {e : E} → SendCall {T = T} {E = E} old new (Err e)
    → OnlySends old new sending
only_failed call = record {
  keeps = record {
    connected = call.connected;
    opened = λ was. call.disk.opened ∙ was;
    folders = λ was. call.disk.folders;
    listener = call.listener;
    receives = omega (arith, call.receives);
    sends = call.tried.cause.later;
    counts = (call.receives, call.tried.cause.failed, call.disk.faults);
  };
  rests = call.disk.rests;
  readings = call.readings;
}

-- by a reading of blobs
pub only_read : {old new : Told} → ByDisk old new → Rests old new → old.connected ≡ true
    → new.disk_faults ≡ old.disk_faults → OnlySends old new nothing
only_read alone rests is same = record { keeps = keeps_disk alone is same; rests = rests; readings = alone.readings }

pub only_broken : {old new : Told} → ByDisk old new → Rests old new → old.connected ≡ true
    → OnlySends old new breaking
only_broken alone rests is = record { keeps = keeps_broken alone is; rests = rests; readings = alone.readings }

-- what was read of bytes from a place on is the piece of them there
read_part : (n most : ℕ) (into bytes : List ℕ) → n ≤ length into → take n into ≡ take most bytes
    → n ≡ length (take most bytes)
read_part n most into bytes within is = omega (arith, ap length is, length-take n into, within)

-- a piece of bytes, which was read without a change, is sent, or none of it
module _ {old mid : Told} (none : SentAll old mid []) (n most : ℕ) (into bytes : List ℕ) (within : n ≤ length into)
    (read : take n into ≡ take most bytes) where
  pub piece_sent : (new : Told) → SentAll mid new (take n into) → SendsPiece old new (take most bytes) (Ok n)
  piece_sent new sent = (
    read_part n most into bytes within read,
    subst (λ (l : List ℕ). SentAll old new l) read (sent_then [] (take n into) none sent),
  )

  pub piece_part : (new : Told) → SentPart mid new (take n into) → SendsPiece old new (take most bytes) (Err Send)
  piece_part new sent = subst (λ (l : List ℕ). SentPart old new l) read (part_then [] (take n into) none sent)

-- the first k bytes went out, of as many at least
pub record SentFirst (old new : Told) (bytes : List ℕ) (k : ℕ) : Type 0 where
  pub there : k ≤ length bytes
  pub sent : SentAll old new (take k bytes)

pub first_none : (s : Told) (bytes : List ℕ) → SentFirst s s bytes 0
first_none s bytes = record { there = omega arith; sent = λ placed. stays s placed }

-- a piece is sent behind them
piece_size : (bytes : List ℕ) (k most : ℕ) → length (take most (drop k bytes)) ≡ min most (length bytes - k)
piece_size bytes k most = length-take most (drop k bytes) ∙ ap (min most) (length-drop k bytes)

joined : (bytes : List ℕ) (k most n : ℕ) → n ≡ length (take most (drop k bytes))
    → take k bytes ++ take most (drop k bytes) ≡ take (k + n) bytes
joined bytes k most n is =
    let few : min most (length (drop k bytes)) ≡ n = sym (is ∙ length-take most (drop k bytes)) in
    let same : take most (drop k bytes) ≡ take n (drop k bytes) =
    sym (take_min most (drop k bytes)) ∙ ap (λ (j : ℕ). take j (drop k bytes)) few in
    ap (λ (l : List ℕ). take k bytes ++ l) same ∙ sym (take-add k n bytes)

pub first_more : {a b c : Told} (bytes : List ℕ) (k most : ℕ) → SentFirst a b bytes k → (n : ℕ)
    → SendsPiece b c (take most (drop k bytes)) (Ok n) → SentFirst a c bytes (k + n)
first_more {a = a} {c = c} bytes k most first n more = record {
  there = omega (arith, more.0, piece_size bytes k most, first.there);
  sent = subst (λ (l : List ℕ). SentAll a c l) (joined bytes k most n more.0)
      (sent_then (take k bytes) (take most (drop k bytes)) first.sent more.1);
}

none_behind : {a b : Told} (c : Told) (bytes : List ℕ) (k : ℕ) → SentFirst a b bytes k → SentAll b c []
    → SentAll a c (take k bytes)
none_behind {a = a} c bytes k first none = subst (λ (l : List ℕ). SentAll a c l) (append-nil (take k bytes))
    (sent_then (take k bytes) [] first.sent none)

-- or why it wasn't
pub first_failed : {T : Type 0} {a b c : Told} (bytes : List ℕ) (k most count : ℕ) → length bytes ≡ count
    → SentFirst a b bytes k → k < count → (fault : OutputFault)
    → SendsPiece b c (take most (drop k bytes)) (Err fault) → SendsOutput {T = T} a c [] bytes count (Err fault)
first_failed {a = a} {c = c} bytes k most count whole first below Send part =
    let n : ℕ = length (take most (drop k bytes)) in
    record {
      whole = omega (arith, whole);
      sent = subst (λ (l : List ℕ). SentPart a c l) (take-append-drop (k + n) bytes)
          (part_front (take (k + n) bytes) (drop (k + n) bytes)
          (subst (λ (l : List ℕ). SentPart a c l) (joined bytes k most n refl)
          (part_then (take k bytes) (take most (drop k bytes)) first.sent part)));
    }
first_failed {c = c} bytes k most count whole first below Disk none = record {
  whole = omega (arith, whole);
  sent = record { till = k; head_sent = omega arith; below = omega (arith, below); sent = none_behind c bytes k first none };
}

-- all of them are sent
pub first_all : {T : Type 0} {a b : Told} {x : T} (bytes : List ℕ) (k count : ℕ) → length bytes ≡ count
    → SentFirst a b bytes k → k ≡ count → SendsOutput {T = T} a b [] bytes count (Ok x)
first_all {a = a} {b = b} bytes k count whole first is = record {
  whole = omega (arith, whole);
  sent = subst (λ (l : List ℕ). SentAll a b l) (take_all k bytes (omega (arith, is, whole))) first.sent;
}

-- the bytes of an output that is there are as many as its head promises
pub whole_output : {told : Told} {store : Store} {state : State} → Lawful told → IsHeldIn told store state
    → (output : Output) → IsThere store.accounts output
    → length (stretch_bytes state output.account output.stretch) ≡ promised output.stretch
whole_output {told = told} {store = store} {state = state} law held output there =
    let stretch = output.stretch in
    let stands = kept_stands told store.journal store.area.blobs state held.held told.reads law.reads_left in
    let at : archive_in state.accounts output.account stretch ≡ Some there.archive =
    ap (λ (a : Accounts). archive_in a output.account stretch) held.accounts ∙ there.there in
    let is : IsTold state.bodies output.account there.archive.size there.archive.leaves there.archive.blobs =
    of_stored (IsTold state.bodies output.account) (account_in state.accounts output.account) stretch.vault stretch.archive
    there.archive (stands.state_is.tells.told output.account) at in
    let bytes : List ℕ = bytes_of state.bodies output.account there.archive.blobs in
    ap (λ (found : Option Archive). length (take (promised stretch) (drop stretch.first (archive_bytes state output.account found)))) at
    ∙ omega (arith, length-take (promised stretch) (drop stretch.first bytes), length-drop stretch.first bytes, there.within, is.size_is)

-- and all behind a head
pub behind_head : {T : Type 0} {a b c : Told} (head bytes : List ℕ) (count : ℕ) (result : Result T OutputFault)
    → SentAll a b head → SendsOutput b c [] bytes count result → SendsOutput a c head (head ++ bytes) count result
behind_head {T = T} {a = a} {b = b} {c = c} head bytes count result first more = record {
  whole = omega (arith, length-append head bytes, more.whole);
  sent = by_result result more.sent;
}
  where
    by_result : (r : Result T OutputFault) → SentBy b c [] bytes count r → SentBy a c head (head ++ bytes) count r
    by_result (Ok x) sent = sent_then head bytes first sent
    by_result (Err Send) sent = part_then head bytes first sent
    by_result (Err Disk) till = record {
      till = length head + till.till;
      head_sent = omega arith;
      below = omega (arith, till.below);
      sent = subst (λ (l : List ℕ). SentAll a c l) (sym (take-append-add head bytes till.till)) (sent_then head (take till.till bytes) first till.sent);
    }

-- the text of an answer that has its body in an output
pub sends_answer : {T : Type 0} {a b : Told} (output : Output) (head text : List ℕ) (count : ℕ) (result : Result T OutputFault)
    → SendsOutput a b head text count result → SendsAnswer a b (Some output) text result
sends_answer output head text count (Ok x) sends = sends.sent
sends_answer output head text count (Err Send) sends = sends.sent
sends_answer output head text count (Err Disk) sends =
    let till = sends.sent in (output, refl, till.till, omega (arith, till.below, sends.whole), till.sent)
