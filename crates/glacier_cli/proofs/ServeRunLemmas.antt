-- What a run of `serve` says of its status.
use Rattle.std.proofs.Common.{◌≡◌, ◌≢◌, ◌⊎◌, ℕ, Some, inl, inr, sym, ◌∙◌, arith}
use Rattle.glacier_base.specs.Outside.{one_more, HasRisen}
use Rattle.glacier_cli.specs.declared.ending.Ending.{Ending}
use Rattle.glacier_cli.specs.declared.ending.Ending.TheVariants.{Hashed, Served, Usage, FileFault, BadKeyFile, NoMemory, DiskFault, ListenerFault, NotAJournal, NotEmpty, JournalEnd, OverQuota}
use Rattle.glacier_cli.specs.Endings.{SinkUse, PrintsEnding}
use Rattle.glacier_cli.specs.FileUse.{FileUse}
use Rattle.glacier_cli.specs.Forms.{ServeWords, serve}
use Rattle.glacier_cli.specs.Program.{ServeEnds}
use Rattle.glacier_cli.specs.Runs.{AllWell, HasBadLine, ServeRun}
use Rattle.glacier_cli.specs.StationUse.{StationUse}

pub risen : (before after : ℕ) → after ≡ one_more before → HasRisen before after
risen before after is = omega (arith, is)

-- a status is one
pub not_two : {P : Type 0} (status m n : ℕ) → status ≡ m → m ≢ n → status ≡ n → P
not_two status m n first differ second = absurd (differ (sym first ∙ second))

module _ {files : FileUse} {station : StationUse} {sink : SinkUse} {words : ServeWords} {status : ℕ} where
  -- a status that isn't 0 and isn't 3
  other_run : (n : ℕ) → status ≡ n → n ≢ 0 → n ≢ 3
      → (AllWell files station sink → (status ≡ 0) ⊎ (status ≡ 4)
      ⊎ ((status ≡ 3) × HasBadLine (Some (serve words)) files) ⊎ (status ≡ 8) ⊎ (status ≡ 10) ⊎ (status ≡ 11))
      → ServeRun files station sink words status
  other_run n is zero three well = record {
    printed = λ s _ _. not_two status n 0 is zero s;
    nothing_else = not_two status n 3 is three;
    all_well = well;
  }

  pub serve_run : (ending : Ending) → ServeEnds files station words ending → PrintsEnding sink ending status
      → ServeRun files station sink words status
  serve_run ending ends (inr failed) =
      other_run 7 failed.0 (omega arith) (omega arith) (λ well. absurd (well.writes (risen _ _ failed.1)))
  serve_run (Served count) (inl ends) (inl done) = absurd ends.0
  serve_run (Served count) (inr ends) (inl done) = record {
    printed = λ _ told written. (ends.0, ends.1, (count, ends.2.0, ends.2.2 told, done.2 written));
    nothing_else = not_two status 0 3 done.0 (omega arith);
    all_well = λ _. inl done.0;
  }
  serve_run NoMemory ends (inl done) = other_run 4 done.0 (omega arith) (omega arith) (λ _. inr (inl done.0))
  serve_run DiskFault (inl ends) (inl done) = absurd ends.0
  serve_run DiskFault (inr ends) (inl done) =
      other_run 5 done.0 (omega arith) (omega arith) (λ well. absurd (well.disk ends.2.0))
  serve_run ListenerFault (inl ends) (inl done) = absurd ends.0
  serve_run ListenerFault (inr ends) (inl done) =
      other_run 6 done.0 (omega arith) (omega arith) (λ well. absurd (well.listener (risen _ _ ends.2.0)))
  serve_run FileFault (inl ends) (inl done) = record {
    printed = λ s _ _. not_two status 3 0 done.0 (omega arith) s;
    nothing_else = λ _. (ends.0.1, ends.1);
    all_well = λ well. absurd (well.reads (risen _ _ ends.0.0));
  }
  serve_run FileFault (inr ends) (inl done) = absurd ends.2
  serve_run (BadKeyFile line) (inl ends) (inl done) = record {
    printed = λ s _ _. not_two status 3 0 done.0 (omega arith) s;
    nothing_else = λ _. (inr ends.0.1, ends.1);
    all_well = λ _. inr (inr (inl (done.0, (line, ends.0.0))));
  }
  serve_run (BadKeyFile line) (inr ends) (inl done) = absurd ends.2
  serve_run (NotAJournal area at) (inl ends) (inl done) = absurd ends.0
  serve_run (NotAJournal area at) (inr ends) (inl done) =
      other_run 8 done.0 (omega arith) (omega arith) (λ _. inr (inr (inr (inl done.0))))
  serve_run (NotEmpty area size) (inl ends) (inl done) = absurd ends.0
  serve_run (NotEmpty area size) (inr ends) (inl done) =
      other_run 8 done.0 (omega arith) (omega arith) (λ _. inr (inr (inr (inl done.0))))
  serve_run (JournalEnd length) (inl ends) (inl done) = absurd ends.0
  serve_run (JournalEnd length) (inr ends) (inl done) =
      other_run 10 done.0 (omega arith) (omega arith) (λ _. inr (inr (inr (inr (inl done.0)))))
  serve_run (OverQuota over) (inl ends) (inl done) = absurd ends.0
  serve_run (OverQuota over) (inr ends) (inl done) =
      other_run 11 done.0 (omega arith) (omega arith) (λ _. inr (inr (inr (inr (inr done.0)))))
  serve_run (Hashed digest) (inl ends) (inl done) = absurd ends.0
  serve_run (Hashed digest) (inr ends) (inl done) = absurd ends.2
  serve_run Usage (inl ends) (inl done) = absurd ends.0
  serve_run Usage (inr ends) (inl done) = absurd ends.2
