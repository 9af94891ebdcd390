-- The message at the front of the bytes that were taken.
use Rattle.std.specs.Prelude.{◌≡◌, List, ℕ, Some, length}
use Rattle.httparse.specs.Grammar.{RequestHead}
use Rattle.glacier_http.specs.declared.head_spans.HeadSpans.{HeadSpans}
use Rattle.glacier_http.specs.Head.{Reads}
use Rattle.glacier_http.specs.Judged.{content_length}
use Rattle.glacier_http.specs.Messages.{Message, good}
use Rattle.glacier_machine.specs.SignedRequests.{IsBodyKept}

-- what holds of each message whose good head the bytes begin with, by its spans, and of whose body
-- this is kept
abbrev pub AtFront : List ℕ → HeadSpans → List ℕ → (Message → Type 0) → Type 0
AtFront bytes spans kept holds =
    (h : RequestHead) (behind body : List ℕ) → Reads bytes h behind
    → content_length h ≡ Some (length body) → spans.content_length ≡ length body
    → IsBodyKept kept body → holds (good h body)
