-- Why a status comes.
use Rattle.std.proofs.Common.{◌≡◌, ◌≢◌, ◌⊎◌, ℕ, Option, Some, None, inl, inr, refl, arith}
use Rattle.std.specs.Prelude.{IsTrue}
use Rattle.glacier_base.specs.Outside.{HasRisen}
use Rattle.glacier_cli.specs.declared.ending.Ending.{Ending}
use Rattle.glacier_cli.specs.declared.ending.Ending.TheVariants.{Hashed, Served, Usage, FileFault, BadKeyFile, NoMemory, DiskFault, ListenerFault, NotAJournal, NotEmpty, JournalEnd, OverQuota}
use Rattle.glacier_cli.specs.Endings.{SinkUse, PrintsEnding}
use Rattle.glacier_cli.specs.FileUse.{FileUse}
use Rattle.glacier_cli.specs.Forms.{Form, hash, serve}
use Rattle.glacier_cli.specs.Program.{StandsFor}
use Rattle.glacier_cli.specs.Runs.{HasReason, HasBadLine, HasExcess, HasNoOrder, HasNoRoom}
use Rattle.glacier_cli.specs.StationUse.{StationUse}
use Rattle.glacier_cli.proofs.ServeRunLemmas.{risen, not_two}

module _ {form : Option Form} {files : FileUse} {station : StationUse} {sink : SinkUse} {status : ℕ} where
  for_none : (n : ℕ) → status ≡ n → n ≢ 2 → n ≢ 3 → n ≢ 5 → n ≢ 6 → n ≢ 7 → n ≢ 8 → n ≢ 10 → n ≢ 11
      → HasReason form files station sink status
  for_none n is two three five six seven eight ten eleven = record {
    usage = not_two status n 2 is two;
    file_fault = not_two status n 3 is three;
    disk_fault = not_two status n 5 is five;
    listener_fault = not_two status n 6 is six;
    sink_fault = not_two status n 7 is seven;
    no_store = not_two status n 8 is eight;
    journal_end = not_two status n 10 is ten;
    over_quota = not_two status n 11 is eleven;
  }

  for_usage : status ≡ 2 → form ≡ None
      → HasReason form files station sink status
  for_usage is none = record {
    usage = λ _. none;
    file_fault = not_two status 2 3 is (omega arith);
    disk_fault = not_two status 2 5 is (omega arith);
    listener_fault = not_two status 2 6 is (omega arith);
    sink_fault = not_two status 2 7 is (omega arith);
    no_store = not_two status 2 8 is (omega arith);
    journal_end = not_two status 2 10 is (omega arith);
    over_quota = not_two status 2 11 is (omega arith);
  }

  for_file : status ≡ 3 → HasRisen files.before.faults files.after.faults ⊎ HasBadLine form files
      → HasReason form files station sink status
  for_file is fault = record {
    usage = not_two status 3 2 is (omega arith);
    file_fault = λ _. fault;
    disk_fault = not_two status 3 5 is (omega arith);
    listener_fault = not_two status 3 6 is (omega arith);
    sink_fault = not_two status 3 7 is (omega arith);
    no_store = not_two status 3 8 is (omega arith);
    journal_end = not_two status 3 10 is (omega arith);
    over_quota = not_two status 3 11 is (omega arith);
  }

  for_disk : status ≡ 5 → HasRisen station.before.disk_faults station.after.disk_faults
      → HasReason form files station sink status
  for_disk is fault = record {
    usage = not_two status 5 2 is (omega arith);
    file_fault = not_two status 5 3 is (omega arith);
    disk_fault = λ _. fault;
    listener_fault = not_two status 5 6 is (omega arith);
    sink_fault = not_two status 5 7 is (omega arith);
    no_store = not_two status 5 8 is (omega arith);
    journal_end = not_two status 5 10 is (omega arith);
    over_quota = not_two status 5 11 is (omega arith);
  }

  for_listener : status ≡ 6 → HasRisen station.before.listener.faults station.after.listener.faults
      → HasReason form files station sink status
  for_listener is fault = record {
    usage = not_two status 6 2 is (omega arith);
    file_fault = not_two status 6 3 is (omega arith);
    disk_fault = not_two status 6 5 is (omega arith);
    listener_fault = λ _. fault;
    sink_fault = not_two status 6 7 is (omega arith);
    no_store = not_two status 6 8 is (omega arith);
    journal_end = not_two status 6 10 is (omega arith);
    over_quota = not_two status 6 11 is (omega arith);
  }

  for_sink : status ≡ 7 → HasRisen sink.before.faults sink.after.faults
      → HasReason form files station sink status
  for_sink is fault = record {
    usage = not_two status 7 2 is (omega arith);
    file_fault = not_two status 7 3 is (omega arith);
    disk_fault = not_two status 7 5 is (omega arith);
    listener_fault = not_two status 7 6 is (omega arith);
    sink_fault = λ _. fault;
    no_store = not_two status 7 8 is (omega arith);
    journal_end = not_two status 7 10 is (omega arith);
    over_quota = not_two status 7 11 is (omega arith);
  }

  for_folder : status ≡ 8 → (IsTrue station.tells → HasNoOrder form station)
      → HasReason form files station sink status
  for_folder is why = record {
    usage = not_two status 8 2 is (omega arith);
    file_fault = not_two status 8 3 is (omega arith);
    disk_fault = not_two status 8 5 is (omega arith);
    listener_fault = not_two status 8 6 is (omega arith);
    sink_fault = not_two status 8 7 is (omega arith);
    no_store = λ _. why;
    journal_end = not_two status 8 10 is (omega arith);
    over_quota = not_two status 8 11 is (omega arith);
  }

  for_end : status ≡ 10 → (IsTrue station.tells → HasNoRoom form files station)
      → HasReason form files station sink status
  for_end is why = record {
    usage = not_two status 10 2 is (omega arith);
    file_fault = not_two status 10 3 is (omega arith);
    disk_fault = not_two status 10 5 is (omega arith);
    listener_fault = not_two status 10 6 is (omega arith);
    sink_fault = not_two status 10 7 is (omega arith);
    no_store = not_two status 10 8 is (omega arith);
    journal_end = λ _. why;
    over_quota = not_two status 10 11 is (omega arith);
  }

  for_excess : status ≡ 11 → (IsTrue station.tells → HasExcess form files station)
      → HasReason form files station sink status
  for_excess is why = record {
    usage = not_two status 11 2 is (omega arith);
    file_fault = not_two status 11 3 is (omega arith);
    disk_fault = not_two status 11 5 is (omega arith);
    listener_fault = not_two status 11 6 is (omega arith);
    sink_fault = not_two status 11 7 is (omega arith);
    no_store = not_two status 11 8 is (omega arith);
    journal_end = not_two status 11 10 is (omega arith);
    over_quota = λ _. why;
  }

module _ {files : FileUse} {station : StationUse} {sink : SinkUse} {status : ℕ} where
  -- done, or for want of memory
  quiet_reason : {form : Option Form} → (status ≡ 0) ⊎ (status ≡ 4) → HasReason form files station sink status
  quiet_reason (inl is) = for_none 0 is (omega arith) (omega arith) (omega arith) (omega arith) (omega arith) (omega arith) (omega arith) (omega arith)
  quiet_reason (inr is) = for_none 4 is (omega arith) (omega arith) (omega arith) (omega arith) (omega arith) (omega arith) (omega arith) (omega arith)

  -- where the ending's line was written
  pub printed_reason : (form : Option Form) (ending : Ending) → StandsFor form files station ending
      → PrintsEnding sink ending status → HasReason form files station sink status
  printed_reason form ending stands (inr failed) = for_sink failed.0 (risen _ _ failed.1)
  printed_reason None Usage stands (inl done) = for_usage done.0 refl
  printed_reason None (Hashed digest) stands (inl done) = absurd stands
  printed_reason None (Served count) stands (inl done) = absurd stands
  printed_reason None FileFault stands (inl done) = absurd stands
  printed_reason None (BadKeyFile line) stands (inl done) = absurd stands
  printed_reason None NoMemory stands (inl done) = absurd stands
  printed_reason None DiskFault stands (inl done) = absurd stands
  printed_reason None ListenerFault stands (inl done) = absurd stands
  printed_reason None (NotAJournal area at) stands (inl done) = absurd stands
  printed_reason None (NotEmpty area size) stands (inl done) = absurd stands
  printed_reason None (JournalEnd length) stands (inl done) = absurd stands
  printed_reason None (OverQuota over) stands (inl done) = absurd stands
  printed_reason (Some form) (Hashed digest) stands (inl done) = quiet_reason (inl done.0)
  printed_reason (Some form) (Served count) stands (inl done) = quiet_reason (inl done.0)
  printed_reason (Some form) NoMemory stands (inl done) = quiet_reason (inr done.0)
  printed_reason (Some (hash name)) FileFault stands (inl done) = for_file done.0 (inl (risen _ _ stands.0.0))
  printed_reason (Some (hash name)) (BadKeyFile line) stands (inl done) = absurd stands.0
  printed_reason (Some (hash name)) DiskFault stands (inl done) = absurd stands.0
  printed_reason (Some (hash name)) ListenerFault stands (inl done) = absurd stands.0
  printed_reason (Some (hash name)) (NotAJournal area at) stands (inl done) = absurd stands.0
  printed_reason (Some (hash name)) (NotEmpty area size) stands (inl done) = absurd stands.0
  printed_reason (Some (hash name)) (JournalEnd length) stands (inl done) = absurd stands.0
  printed_reason (Some (hash name)) (OverQuota over) stands (inl done) = absurd stands.0
  printed_reason (Some (hash name)) Usage stands (inl done) = absurd stands.0
  printed_reason (Some (serve words)) FileFault (inl ends) (inl done) = for_file done.0 (inl (risen _ _ ends.0.0))
  printed_reason (Some (serve words)) FileFault (inr ends) (inl done) = absurd ends.2
  printed_reason (Some (serve words)) (BadKeyFile line) (inl ends) (inl done) = for_file done.0 (inr (line, ends.0.0))
  printed_reason (Some (serve words)) (BadKeyFile line) (inr ends) (inl done) = absurd ends.2
  printed_reason (Some (serve words)) DiskFault (inl ends) (inl done) = absurd ends.0
  printed_reason (Some (serve words)) DiskFault (inr ends) (inl done) = for_disk done.0 ends.2.0
  printed_reason (Some (serve words)) ListenerFault (inl ends) (inl done) = absurd ends.0
  printed_reason (Some (serve words)) ListenerFault (inr ends) (inl done) = for_listener done.0 (risen _ _ ends.2.0)
  printed_reason (Some (serve words)) (NotAJournal area at) (inl ends) (inl done) = absurd ends.0
  printed_reason (Some (serve words)) (NotAJournal area at) (inr ends) (inl done) = for_folder done.0 (λ t. (ends.2.2 t).why.0)
  printed_reason (Some (serve words)) (NotEmpty area size) (inl ends) (inl done) = absurd ends.0
  printed_reason (Some (serve words)) (NotEmpty area size) (inr ends) (inl done) = for_folder done.0 (λ t. (ends.2.2 t).why.0)
  printed_reason (Some (serve words)) (JournalEnd length) (inl ends) (inl done) = absurd ends.0
  printed_reason (Some (serve words)) (JournalEnd length) (inr ends) (inl done) = for_end done.0 (λ t. (ends.0, ends.1, (length, (ends.2.1 t).1)))
  printed_reason (Some (serve words)) (OverQuota over) (inl ends) (inl done) = absurd ends.0
  printed_reason (Some (serve words)) (OverQuota over) (inr ends) (inl done) = for_excess done.0 (λ t. (ends.0, ends.1, (over, ends.2.1 t)))
  printed_reason (Some (serve words)) Usage (inl ends) (inl done) = absurd ends.0
  printed_reason (Some (serve words)) Usage (inr ends) (inl done) = absurd ends.2
