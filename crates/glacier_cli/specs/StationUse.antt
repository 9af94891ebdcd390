-- What a run did at a station: the folder that it opened, and the address where it listened.
use Rattle.std.specs.Prelude.{◌≡◌, ◌⊎◌, ℕ, Bool, List, [], ◌∷◌, ◌++◌, Option, Some, None}
use Rattle.glacier_disk.specs.Told.{Told}
use Rattle.glacier_machine.specs.declared.config.Config.{Config}
use Rattle.glacier_sigv4.specs.declared.ring.Entry.{Entry}
use Rattle.glacier_cli.specs.Forms.{ServeWords}

-- what a station told before a run and after it, and whether it tells what comes, what is sent and what the disk holds
pub record StationUse : Type 1 where
  pub tells : Bool
  pub before : Told
  pub after : Told

abbrev pub station_use : Bool → Told → Told → StationUse
station_use tells before after = record { tells = tells; before = before; after = after }

-- no connection came, and no reading was taken
pub record NoneCame (station : StationUse) : Type 0 where
  pub connections : station.after.connections ≡ station.before.connections
  pub readings : station.after.readings ≡ station.before.readings

-- nothing happened there
pub record Idle (station : StationUse) : Type 0 where
  pub listener : station.after.listener ≡ station.before.listener
  pub folders : station.after.folders ≡ station.before.folders
  pub none : NoneCame station

-- the seconds that jobs take, by their tier: one number for all where it is named, and else those of Amazon's tiers
abbrev pub delays_of : Option ℕ → List ℕ
delays_of None = 300 ∷ 14400 ∷ 28800 ∷ []
delays_of (Some delay) = delay ∷ delay ∷ delay ∷ []

-- the accounts of a ring, with the region and the delays that a server is told
abbrev pub config_of : List Entry → ServeWords → Config
config_of ring words = record { region = words.region; ring = ring; delays = delays_of words.delay }

-- this folder was opened, and this address was listened at, each once, and no other
pub record OpensAll (station : StationUse) (words : ServeWords) : Type 0 where
  pub folder : station.after.folders ≡ station.before.folders ++ words.folder ∷ []
  pub address : station.after.listener.addresses ≡ station.before.listener.addresses ++ words.address ∷ []

-- the folder alone was opened, at most
pub record OpensNoMore (station : StationUse) (words : ServeWords) : Type 0 where
  pub folder : (station.after.folders ≡ station.before.folders)
      ⊎ (station.after.folders ≡ station.before.folders ++ words.folder ∷ [])
  pub address : station.after.listener.addresses ≡ station.before.listener.addresses

-- no other name was given, and the address only once the folder was open
abbrev pub OpensAtMost : StationUse → ServeWords → Type 0
OpensAtMost station words = OpensNoMore station words ⊎ OpensAll station words

-- no call of the disk failed, and none of the listener
pub record NoFault (station : StationUse) : Type 0 where
  pub disk : station.after.disk_faults ≡ station.before.disk_faults
  pub listener : station.after.listener.faults ≡ station.before.listener.faults
