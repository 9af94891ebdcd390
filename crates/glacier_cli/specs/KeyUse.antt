-- What a run read of its key file.
use Rattle.std.specs.Prelude.{◌≡◌, ℕ, IsTrue, List, Some, Result, Ok, Err}
use Rattle.glacier_base.specs.Outside.{one_more}
use Rattle.glacier_sigv4.specs.KeyFile.{entries_of}
use Rattle.glacier_sigv4.specs.declared.ring.Entry.{Entry}
use Rattle.glacier_cli.specs.declared.ending.Ending.{Ending}
use Rattle.glacier_cli.specs.declared.ending.Ending.TheVariants.{FileFault, BadKeyFile, NoMemory}
use Rattle.glacier_cli.specs.FileUse.{FileUse, GivesOne, GivesAtMost}

-- the content of this name spells these entries, or has its first bad line there
abbrev pub Spells : FileUse → List ℕ → Result (List Entry) ℕ → Type 0
Spells files name entries =
    IsTrue files.tells → (bytes : List ℕ) × (files.before.content (Some name) ≡ Some bytes) × (entries_of bytes ≡ entries)

-- the key file of this name was opened, and no other, and it spells this ring
pub record HasKeys (files : FileUse) (name : List ℕ) (ring : List Entry) : Type 0 where
  pub spells : Spells files name (Ok ring)
  pub given : GivesOne files (Some name)
  pub no_fault : files.after.faults ≡ files.before.faults

-- how a run ends that has no ring: no other name was given, and a fault is the last call that was made
abbrev pub KeysEnd : FileUse → List ℕ → Ending → Type 0
KeysEnd files name (BadKeyFile line) =
    Spells files name (Err line) × GivesOne files (Some name) × (files.after.faults ≡ files.before.faults)
KeysEnd files name FileFault = (files.after.faults ≡ one_more files.before.faults) × GivesAtMost files (Some name)
KeysEnd files name NoMemory = (files.after.faults ≡ files.before.faults) × GivesAtMost files (Some name)
KeysEnd files name ending = ⊥
