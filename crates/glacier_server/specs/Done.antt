-- What was done for a message before a byte of its reply is sent.
use Rattle.std.specs.Prelude.{◌≡◌, ℕ, Bool, List, [], ◌++◌, length, drop, Some}
use Rattle.httparse.specs.Grammar.{RequestHead}
use Rattle.glacier_disk.specs.Network.{Wait, wait_of}
use Rattle.glacier_disk.specs.Told.{Told}
use Rattle.glacier_http.specs.Head.{Reads}
use Rattle.glacier_http.specs.Judged.{content_length}
use Rattle.glacier_http.specs.Messages.{Message, Begins, good as Good, last_end}
use Rattle.glacier_http.specs.declared.head_spans.HeadSpans.{HeadSpans}
use Rattle.glacier_machine.specs.Outcomes.{one}
use Rattle.glacier_machine.specs.SignedRequests.{IsBodyKept}
use Rattle.glacier_machine.specs.declared.config.Config.{Config}
use Rattle.glacier_server.specs.declared.answered.Answered.{Answered}
use Rattle.glacier_server.specs.Does.{nothing}
use Rattle.glacier_server.specs.Exchange.{Standing, Idles, end_for_some, end_of_good, exchange_on}
use Rattle.glacier_server.specs.Out.{begin_acts, kept_acts}
use Rattle.glacier_server.specs.Placed.{IsKept, Placed}
use Rattle.glacier_server.specs.Session.{HeldWaiting, answering}
use Rattle.glacier_server.specs.Texts.{answered_of}
use Rattle.glacier_server.specs.Transfer.{Transfer, current}

-- Of the good head that stands there: all was done that is done before its body is whole, and the body was taken, which has
-- so many bytes. With the bytes that were taken, so many unread ones are the message's own.
pub record HasBody (config : Config) (from : Standing) (spans : HeadSpans) (used : ℕ) (kept : List ℕ) (now : Placed)
    (reading : ℕ) (old new : Told) : Type 0 where
  pub head : RequestHead
  pub behind : List ℕ
  pub reads : Reads from.unread head behind
  pub body : List ℕ
  pub got : List ℕ
  pub waits : List Wait
  pub begins : Begins (from.unread ++ got) (Good head body) (drop used from.unread)
  pub counted : content_length head ≡ Some (length body)
  pub size : spans.content_length ≡ length body
  pub is_kept : IsBodyKept kept body
  pub end : end_for_some (last_end from.count (Good head body)) ≡ end_of_good from.count spans.close
  pub transfer : Transfer old new
      (answering from.placed now got (begin_acts config from.placed.state head reading) reading waits) nothing
  pub idle : HeldWaiting (wait_of (current old.connections))
      (answering from.placed now got (begin_acts config from.placed.state head reading) reading waits)
      (λ till. Idles config (exchange_on from [] [] till))
  pub stays : IsKept new now

-- Of the message that stands there, with the bytes that were taken behind those, so many unread ones are its own: all its
-- events were kept at a reading, and this is its answer, which says whether the connection closes.
pub record HasDone (config : Config) (from : Standing) (used : ℕ) (close : Bool) (now : Placed) (answer : Answered)
    (reading : ℕ) (old new : Told) : Type 0 where
  pub message : Message
  pub got : List ℕ
  pub waits : List Wait
  pub begins : Begins (from.unread ++ got) message (drop used from.unread)
  pub end : end_for_some (last_end from.count message) ≡ end_of_good from.count close
  pub answers : answer ≡ answered_of (one config from.placed.state.accounts message reading)
  pub transfer : Transfer old new
      (answering from.placed now got (kept_acts config from.placed.state message reading) reading waits) nothing
  pub idle : HeldWaiting (wait_of (current old.connections))
      (answering from.placed now got (kept_acts config from.placed.state message reading) reading waits)
      (λ till. Idles config (exchange_on from [] [] till))
  pub kept : IsKept new now
