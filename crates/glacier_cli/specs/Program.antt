-- Which ending stands for the words, and for what a run did.
use Rattle.std.specs.Prelude.{◌≡◌, ◌⊎◌, ◌≤◌, true, false, ℕ, IsTrue, List, Option, Some, None}
use Rattle.glacier_base.specs.Outside.{one_more, HasRisen}
use Rattle.glacier_sigv4.specs.declared.ring.Entry.{Entry}
use Rattle.glacier_server.specs.declared.end.ServeFault.{ServeFault}
use Rattle.glacier_server.specs.declared.end.ServeFault.TheVariants as server
use Rattle.glacier_store.specs.Quotas.{over_quota}
use Rattle.glacier_store.specs.declared.quotas.OverQuota.{OverQuota as Excess}
use Rattle.glacier_store.specs.declared.store.Store.{Store}
use Rattle.glacier_cli.specs.declared.ending.Ending.{Ending}
use Rattle.glacier_cli.specs.declared.ending.Ending.TheVariants.{Hashed, Served, Usage, FileFault, NoMemory, DiskFault, ListenerFault, NotAJournal, NotEmpty, JournalEnd, OverQuota}
use Rattle.glacier_cli.specs.Beginning.{HasNoStore, Starts}
use Rattle.glacier_cli.specs.FileUse.{FileUse, GivesOne, GivesAtMost, IsHashOf}
use Rattle.glacier_cli.specs.Forms.{Form, ServeWords, hash, serve}
use Rattle.glacier_cli.specs.KeyUse.{HasKeys, KeysEnd}
use Rattle.glacier_cli.specs.Serving.{ServesAt, ServesTill, BreaksAt, Headline}
use Rattle.glacier_cli.specs.StationUse.{StationUse, Idle, NoneCame, NoFault, OpensAll, OpensNoMore}

-- how the tree hash of this name ends: a fault is the last call that was made, and without memory no call was made
abbrev pub HashEnds : FileUse → Option (List ℕ) → Ending → Type 0
HashEnds files name (Hashed digest) =
    IsHashOf files name digest × GivesOne files name × (files.after.faults ≡ files.before.faults)
HashEnds files name FileFault = (files.after.faults ≡ one_more files.before.faults) × GivesAtMost files name
HashEnds files name NoMemory = files.after ≡ files.before
HashEnds files name ending = ⊥

-- the ending that a fault of a server makes
abbrev pub of_server : ServeFault → Ending
of_server server.Disk = DiskFault
of_server server.Memory = NoMemory
of_server (server.JournalEnd length) = JournalEnd length
of_server server.Accept = ListenerFault

-- the folder was opened and nothing was served, since no store stands in it
pub record Refused (station : StationUse) (words : ServeWords) (ending : Ending) : Type 0 where
  pub opens : OpensNoMore station words
  pub none : NoneCame station
  pub why : HasNoStore words.is_new station.before.reads ending

-- the folder was opened and nothing was served, since this is the first account of its store that is over its quota
pub record IsOver (station : StationUse) (ring : List Entry) (words : ServeWords) (over : Excess) : Type 0 where
  pub opens : OpensNoMore station words
  pub none : NoneCame station
  pub store : Store
  pub starts : Starts words.is_new station.before.reads store
  pub first : over_quota ring store.accounts ≡ Some over

-- how serving the accounts of a ring ends, from the opening of the folder on
abbrev pub FolderEnds : StationUse → List Entry → ServeWords → Ending → Type 0
FolderEnds station ring words (Served count) = (count ≤ words.connections) × NoFault station
    × (IsTrue station.tells → ServesAt station ring words count)
FolderEnds station ring words NoMemory =
    NoFault station × (IsTrue station.tells → BreaksAt station ring words server.Memory)
FolderEnds station ring words DiskFault =
    HasRisen station.before.disk_faults station.after.disk_faults
    × (station.after.listener.faults ≡ station.before.listener.faults)
    × (IsTrue station.tells → BreaksAt station ring words server.Disk)
FolderEnds station ring words ListenerFault =
    (station.after.listener.faults ≡ one_more station.before.listener.faults)
    × (station.after.disk_faults ≡ station.before.disk_faults)
    × (IsTrue station.tells → BreaksAt station ring words server.Accept)
FolderEnds station ring words (NotAJournal area at) = (words.is_new ≡ false) × NoFault station
    × (IsTrue station.tells → Refused station words (NotAJournal area at))
FolderEnds station ring words (NotEmpty area size) = (words.is_new ≡ true) × NoFault station
    × (IsTrue station.tells → Refused station words (NotEmpty area size))
FolderEnds station ring words (JournalEnd length) =
    NoFault station × (IsTrue station.tells → OpensAll station words × ServesTill station ring words (server.JournalEnd length))
FolderEnds station ring words (OverQuota over) = NoFault station
    × (IsTrue station.tells → IsOver station ring words over)
FolderEnds station ring words ending = ⊥

-- how serving ends: there is no ring and nothing happens at the station, or the key file spells a ring
abbrev pub ServeEnds : FileUse → StationUse → ServeWords → Ending → Type 0
ServeEnds files station words ending =
    (KeysEnd files words.keys ending × Idle station)
    ⊎ ((ring : List Entry) × HasKeys files words.keys ring × FolderEnds station ring words ending)

-- the ending stands for the form, and for what was done with the files and at the station
abbrev pub StandsFor : Option Form → FileUse → StationUse → Ending → Type 0
StandsFor (Some (hash name)) files station ending = HashEnds files name ending × Idle station
StandsFor (Some (serve words)) files station ending = ServeEnds files station words ending
StandsFor None files station Usage = (files.after ≡ files.before) × Idle station
StandsFor None files station ending = ⊥

-- the headline, for the ring that the key file spells; without one nothing happened at the station
abbrev pub HeadlineOf : FileUse → StationUse → ServeWords → Type 0
HeadlineOf files station words =
    (ring : List Entry) × (HasKeys files words.keys ring ⊎ Idle station) × Headline station ring words
