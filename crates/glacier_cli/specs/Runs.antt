-- What each status of a run says.
use Rattle.std.specs.Prelude.{◌≡◌, ◌⊎◌, ◌≤◌, ℕ, IsTrue, List, [], ◌∷◌, ◌++◌, Option, Some, None, Err}
use Rattle.hex.specs.Hex.{encode_lower}
use Rattle.glacier_base.specs.Outside.{HasRisen}
use Rattle.glacier_treehash.specs.Tree.{tree_hash_of}
use Rattle.glacier_sigv4.specs.declared.ring.Entry.{Entry}
use Rattle.glacier_server.specs.declared.end.ServeFault.TheVariants as server
use Rattle.glacier_store.specs.declared.quotas.OverQuota.{OverQuota}
use Rattle.glacier_cli.specs.Beginning.{IsInOrder}
use Rattle.glacier_cli.specs.Endings.{SinkUse, served_line}
use Rattle.glacier_cli.specs.FileUse.{FileUse, GivesNone, GivesAtMost}
use Rattle.glacier_cli.specs.Forms.{Form, ServeWords, serve}
use Rattle.glacier_cli.specs.KeyUse.{HasKeys, Spells}
use Rattle.glacier_cli.specs.Program.{IsOver}
use Rattle.glacier_cli.specs.Serving.{ServesAt, ServesTill}
use Rattle.glacier_cli.specs.StationUse.{StationUse, Idle}

-- a content was read to its end, and the 64 digits of its tree hash were written, and a line feed
abbrev pub PrintsHash : FileUse → SinkUse → Option (List ℕ) → Type 0
PrintsHash files sink name =
    (bytes : List ℕ) × (files.before.content name ≡ Some bytes) × (files.after.rest ≡ [])
    × (files.after.names ≡ files.before.names ++ name ∷ [])
    × (sink.after.written ≡ sink.before.written ++ (encode_lower (tree_hash_of bytes) ++ 10 ∷ []))

-- the accounts of a ring were served at this address, and how many connections came was written
abbrev pub PrintsServed : StationUse → SinkUse → List Entry → ServeWords → Type 0
PrintsServed station sink ring words =
    (count : ℕ) × (count ≤ words.connections) × ServesAt station ring words count
    × (sink.after.written ≡ sink.before.written ++ served_line count)

-- `hash` at status 0, and where no read and no write failed
pub record HashRun (files : FileUse) (sink : SinkUse) (name : Option (List ℕ)) (status : ℕ) : Type 0 where
  pub printed : status ≡ 0 → IsTrue files.tells → IsTrue sink.tells → PrintsHash files sink name
  pub without_fault : (HasRisen files.before.faults files.after.faults → ⊥)
      → (HasRisen sink.before.faults sink.after.faults → ⊥) → (status ≡ 0) ⊎ (status ≡ 4)

-- no read, no call of the disk or of the listener and no write failed
pub record AllWell (files : FileUse) (station : StationUse) (sink : SinkUse) : Type 0 where
  pub reads : HasRisen files.before.faults files.after.faults → ⊥
  pub disk : HasRisen station.before.disk_faults station.after.disk_faults → ⊥
  pub listener : HasRisen station.before.listener.faults station.after.listener.faults → ⊥
  pub writes : HasRisen sink.before.faults sink.after.faults → ⊥

-- a line of the key file is bad
abbrev pub HasBadLine : Option Form → FileUse → Type 0
HasBadLine (Some (serve words)) files = (line : ℕ) × Spells files words.keys (Err line)
HasBadLine form files = ⊥

-- `serve` at status 0, at status 3, and where nothing failed: then it did all, or memory was wanting, or the key file or
-- the folder isn't in order, or the journal had no room for an event, or an account is over its quota
pub record ServeRun (files : FileUse) (station : StationUse) (sink : SinkUse) (words : ServeWords) (status : ℕ)
    : Type 0 where
  pub printed : status ≡ 0 → IsTrue station.tells → IsTrue sink.tells
      → (ring : List Entry) × HasKeys files words.keys ring × PrintsServed station sink ring words
  pub nothing_else : status ≡ 3 → GivesAtMost files (Some words.keys) × Idle station
  pub all_well : AllWell files station sink → (status ≡ 0) ⊎ (status ≡ 4)
      ⊎ ((status ≡ 3) × HasBadLine (Some (serve words)) files) ⊎ (status ≡ 8) ⊎ (status ≡ 10) ⊎ (status ≡ 11)

-- words of no form: nothing is opened, not standard input either
pub record UsageRun (files : FileUse) (status : ℕ) : Type 0 where
  pub ends : (status ≡ 2) ⊎ (status ≡ 7)
  pub nothing_opened : GivesNone files

-- no store stands in the folder, or it isn't empty where one was to be made
abbrev pub HasNoOrder : Option Form → StationUse → Type 0
HasNoOrder (Some (serve words)) station = IsInOrder words.is_new station.before.reads → ⊥
HasNoOrder form station = ⊥

-- the journal was at its end for the events of a message, from each state on that the folder stood for, with the ring that
-- the key file spells
abbrev pub HasNoRoom : Option Form → FileUse → StationUse → Type 0
HasNoRoom (Some (serve words)) files station =
    (ring : List Entry) × HasKeys files words.keys ring
    × ((length : ℕ) × ServesTill station ring words (server.JournalEnd length))
HasNoRoom form files station = ⊥

-- an account of the folder uses more than its quota in the ring that the key file spells
abbrev pub HasExcess : Option Form → FileUse → StationUse → Type 0
HasExcess (Some (serve words)) files station =
    (ring : List Entry) × HasKeys files words.keys ring × ((over : OverQuota) × IsOver station ring words over)
HasExcess form files station = ⊥

-- why a status comes: the words are none of the forms, a read failed or a line of the key file is bad, a call of the disk
-- or of the listener or a write failed, the folder isn't in order, the journal has no room, or an account is over its
-- quota
pub record HasReason (form : Option Form) (files : FileUse) (station : StationUse) (sink : SinkUse) (status : ℕ)
    : Type 0 where
  pub usage : status ≡ 2 → form ≡ None
  pub file_fault : status ≡ 3 → HasRisen files.before.faults files.after.faults ⊎ HasBadLine form files
  pub disk_fault : status ≡ 5 → HasRisen station.before.disk_faults station.after.disk_faults
  pub listener_fault : status ≡ 6 → HasRisen station.before.listener.faults station.after.listener.faults
  pub sink_fault : status ≡ 7 → HasRisen sink.before.faults sink.after.faults
  pub no_store : status ≡ 8 → IsTrue station.tells → HasNoOrder form station
  pub journal_end : status ≡ 10 → IsTrue station.tells → HasNoRoom form files station
  pub over_quota : status ≡ 11 → IsTrue station.tells → HasExcess form files station
