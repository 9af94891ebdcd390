-- What was done for a good head before its body is whole.
use Rattle.std.specs.Prelude.{◌≡◌, ℕ, Bool, List, []}
use Rattle.httparse.specs.Grammar.{RequestHead}
use Rattle.glacier_disk.specs.Told.{Told}
use Rattle.glacier_http.specs.Head.{Reads}
use Rattle.glacier_http.specs.Opening.{BeginsHead}
use Rattle.glacier_http.specs.View.{text_of}
use Rattle.glacier_machine.specs.Asks.{is_bulk_head}
use Rattle.glacier_machine.specs.declared.config.Config.{Config}
use Rattle.glacier_server.specs.Acts.{keeps}
use Rattle.glacier_server.specs.Does.{nothing}
use Rattle.glacier_server.specs.Exchange.{Standing}
use Rattle.glacier_server.specs.Machine.{begun_events}
use Rattle.glacier_server.specs.Out.{begin_acts}
use Rattle.glacier_server.specs.Placed.{IsKept, Placed}
use Rattle.glacier_server.specs.Session.{answering}
use Rattle.glacier_server.specs.Session as session
use Rattle.glacier_server.specs.Transfer.{Transfer}

-- whether the message whose good head stands there is decided at its head
abbrev pub IsBulkAt : List ℕ → Bool → Type 0
IsBulkAt unread bulk = (h : RequestHead) (behind : List ℕ) → Reads unread h behind → is_bulk_head (text_of h) ≡ bulk

-- a reading was taken
pub record HasRead (placed : Placed) (reading : ℕ) (old new : Told) : Type 0 where
  pub transfer : Transfer old new (session.reading placed reading) nothing
  pub kept : IsKept new placed

-- of the good head that stands there: a reading was taken, and the events were kept that are kept before its body is whole
pub record HasPassed (config : Config) (from : Standing) (now : Placed) (reading : ℕ) (old new : Told) : Type 0 where
  pub transfer : (h : RequestHead) (behind : List ℕ) → BeginsHead from.unread h behind
      → Transfer old new (answering from.placed now [] (keeps (begun_events config from.placed.state h reading)) reading []) nothing
  pub kept : IsKept new now

-- and then its interim line was sent: all was done that is done before its body is whole
pub record HasBegun (config : Config) (from : Standing) (now : Placed) (reading : ℕ) (old new : Told) : Type 0 where
  pub transfer : (h : RequestHead) (behind : List ℕ) → BeginsHead from.unread h behind
      → Transfer old new (answering from.placed now [] (begin_acts config from.placed.state h reading) reading []) nothing
  pub kept : IsKept new now
