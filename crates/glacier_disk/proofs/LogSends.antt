-- What a step of the open connection says of the bytes sent, by the log.
use Rattle.std.proofs.Common.{◌≡◌, ℕ, List, [], ◌∷◌, ◌++◌, sym, ◌∙◌, ap}
use Rattle.std.specs.List.{concat}
use Rattle.std.specs.declared.option.Option.TheVariants.{Some}
use Rattle.glacier_disk.specs.Contents.{image_of}
use Rattle.glacier_disk.specs.Log.{Quietly}
use Rattle.glacier_disk.specs.MemConnections.{connection_of, connections_on}
use Rattle.glacier_disk.specs.Network.{on_last, sent_on}
use Rattle.glacier_disk.specs.Sent.{sent_after}
use Rattle.glacier_disk.specs.declared.call.Call.{Call}
use Rattle.glacier_disk.specs.declared.call.Call.TheVariants.{Send}
use Rattle.glacier_disk.specs.declared.call_log.CallLog.{CallLog}
use Rattle.glacier_disk.specs.declared.mem_connection.MemConnection.{MemConnection}
use Rattle.glacier_disk.proofs.LogSteps.{quiet_bytes}
use Rattle.glacier_disk.proofs.Sending.{send_sent, send_whole, still_sent}
use Rattle.glacier_disk.proofs.With.{pushed_sent}

module _ (t : CallLog) (connection to : MemConnection) (is : t.last ≡ Some connection) where
  -- the connection sends nothing
  pub none_sent :
      (connection_of to).sent ≡ (connection_of connection).sent
      → sent_on (connections_on t.past.items (Some to)) ≡ sent_after t.calls.items
  none_sent same = still_sent t.past.items t.last (sent_after t.calls.items) t.sends connection to is same

  module _ (new : List Call) where
    pub none_sends :
        Quietly t.calls.items new
        → (connection_of to).sent ≡ (connection_of connection).sent
        → sent_on (connections_on t.past.items (Some to)) ≡ sent_after new
    none_sends quiet same = none_sent same ∙ sym (quiet_bytes t new quiet)

    module _ (bytes : List ℕ) (pushed : new ≡ t.calls.items ++ Send bytes ∷ []) where
      after : sent_after new ≡ on_last bytes (sent_after t.calls.items)
      after = pushed_sent (image_of t.first) t.calls.items new (Send bytes) pushed

      -- it sends these bytes
      pub more_sends :
          (connection_of to).sent ≡ (connection_of connection).sent ++ bytes
          → sent_on (connections_on t.past.items (Some to)) ≡ sent_after new
      more_sends more = send_sent t.past.items t.last (sent_after t.calls.items) t.sends connection to bytes is more ∙ sym after

      -- and then all that was sent has them at its end
      pub more_whole : t.sent.items ++ bytes ≡ concat (sent_after new)
      more_whole =
          send_whole t.past.items t.last (sent_after t.calls.items) t.sends connection bytes t.sent.items is t.whole
          ∙ sym (ap concat after)
