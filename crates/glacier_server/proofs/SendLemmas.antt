-- Bytes sent one behind the other.
use Rattle.std.proofs.Common.{◌≡◌, ℕ, ◌+◌, List, ◌++◌, length, take, sym, ap, ◌∙◌, arith}
use Rattle.std.specs.Prelude.{min}
use Rattle.std.proofs.lemmas.List.{take_min, take-append-le}
use Rattle.std.proofs.Math.Seq.{take-append-add}
use Rattle.glacier_disk.specs.Told.{Told}
use Rattle.glacier_server.specs.Acts.{sends}
use Rattle.glacier_server.specs.Session.{acting}
use Rattle.glacier_server.specs.Transfer.{SentAll, SentPart}
use Rattle.glacier_server.proofs.ActLemmas.{sends-append}
use Rattle.glacier_server.proofs.TransferLemmas.{says, acts_then}

-- bytes sent behind others, all of them or a first part
pub sent_then : {a b c : Told} (first more : List ℕ) → SentAll a b first → SentAll b c more
    → SentAll a c (first ++ more)
sent_then first more one two placed =
    says (acting placed placed (sends first ++ sends more)) (sends (first ++ more)) (sym (sends-append first more))
    (acts_then (acting placed placed (sends first)) placed (sends more) (one placed) (two placed))

pub part_then : {a b c : Told} (first more : List ℕ) → SentAll a b first → SentPart b c more
    → SentPart a c (first ++ more)
part_then first more one (n, two) = (
  length first + n,
  λ placed. says (acting placed placed (sends (first ++ take n more))) (sends (take (length first + n)
      (first ++ more))) (ap sends (sym (take-append-add first more n)))
      (says (acting placed placed (sends first ++ sends (take n more))) (sends (first ++ take n more)) (sym
      (sends-append first (take n more)))
      (acts_then (acting placed placed (sends first)) placed (sends (take n more)) (one placed) (two placed))),
)

pub part_front : {a b : Told} (first more : List ℕ) → SentPart a b first → SentPart a b (first ++ more)
part_front first more (n, one) =
    let k : ℕ = min n (length first) in
    let same : take n first ≡ take k (first ++ more) = sym (take_min n first)
    ∙ sym (take-append-le k first more (omega arith)) in (
      k,
      λ placed. says (acting placed placed (sends (take n first))) (sends (take k (first ++ more))) (ap sends same)
          (one placed),
    )
