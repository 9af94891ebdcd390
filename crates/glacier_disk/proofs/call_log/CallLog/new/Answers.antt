use Rattle.std.proofs.Common.{rules, List, sym, ◌∙◌, ap, map}
use Rattle.std.specs.List.{concat}
use Rattle.glacier_disk.specs.Contents.{image_of}
use Rattle.glacier_disk.specs.declared.call.Call.{Call}
use Rattle.glacier_disk.specs.MemConnections.{connection_of}
use Rattle.glacier_disk.specs.Network.{sent_on}
use Rattle.glacier_disk.specs.Log.{after_calls}
use Rattle.glacier_disk.specs.Sent.{sent_after}
use Rattle.glacier_disk.proofs.call_log.CallLog.new.Goals as goal

pub invariant_of-result : goal.invariant_of-result
invariant_of-result c =
    let first = image_of c.in_ok-first.first in
    let none = c.new.ensures.items in
    record {
      replays = sym c.in_ok-first.ensures ∙ sym (ap (λ (l : List Call). after_calls l first) none);
      sends = ap (λ l. sent_on (map connection_of l)) c.new-2.ensures.items ∙ sym (ap sent_after none);
      whole = c.new-3.ensures.items ∙ sym (ap (λ (l : List Call). concat (sent_after l)) none);
      room = search rules;
    }
