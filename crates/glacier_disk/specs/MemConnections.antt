-- The connections of the memory form, as the connections that a clause sees.
use Rattle.std.specs.Prelude.{List, [], ◌∷◌, ◌++◌, ◌≡◌, true, is_some, map, take, drop, Option, refl}
use Rattle.std.proofs.Common.{rules}
use Rattle.std.specs.declared.option.Option.TheVariants.{Some, None}
use Rattle.glacier_disk.specs.declared.mem_connection.MemConnection.{MemConnection}
use Rattle.glacier_disk.specs.Network.{Connection}

abbrev pub connection_of : MemConnection → Connection
connection_of connection = record {
  taken = take connection.taken connection.input;
  coming = drop connection.taken connection.input;
  sent = connection.sent.items;
  waits = connection.waits.items;
  receives_failed = connection.receives_failed;
  sends_failed = connection.sends_failed;
}

-- those of the connections before, and that of the last
abbrev pub connections_on : List MemConnection → Option MemConnection → List Connection
connections_on past None = map connection_of past
connections_on past (Some connection) = map connection_of past ++ connection_of connection ∷ []

-- an open connection's connection is the last one
pub last_of : (past : List MemConnection) (last : Option MemConnection) → is_some last ≡ true
    → (before : List Connection) × (c : Connection) × (connections_on past last ≡ before ++ c ∷ [])
last_of past None is = search rules
last_of past (Some connection) is = (map connection_of past, connection_of connection, refl)
