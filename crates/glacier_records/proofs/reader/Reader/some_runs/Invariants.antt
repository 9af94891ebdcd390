use Rattle.std.proofs.Common.{◌≡◌, ◌-◌}
use Rattle.glacier_records.specs.Codec.{read_many}
use Rattle.glacier_records.specs.Fields.{run_field}
use Rattle.glacier_records.proofs.ManyLemmas.{with_front}
use Rattle.glacier_records.proofs.reader.Reader.some_runs.Given as goal

abbrev pub invariant-loop : goal.invariant-loop
invariant-loop l = with_front l.runs (read_many run_field (l.count - l.counter) l.self) ≡ read_many run_field l.count l.fn.self
