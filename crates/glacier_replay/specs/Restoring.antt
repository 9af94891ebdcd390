-- What is restored of a journal.
use Rattle.glacier_replay.specs.declared.restoring.Restored.{Restored}
use Rattle.glacier_replay.specs.Made.{Holdings}

abbrev pub holdings_of : Restored → Holdings
holdings_of restored = record { accounts = restored.accounts; layouts = restored.area.blobs }
