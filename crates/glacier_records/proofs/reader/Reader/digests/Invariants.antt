use Rattle.std.proofs.Common.{◌≡◌, ◌-◌}
use Rattle.glacier_records.specs.Codec.{read_many}
use Rattle.glacier_records.specs.Fields.{digest_field}
use Rattle.glacier_records.proofs.ManyLemmas.{with_front}
use Rattle.glacier_records.proofs.reader.Reader.digests.Given as goal

abbrev pub invariant-loop : goal.invariant-loop
invariant-loop l = with_front l.digests (read_many digest_field (l.count - l.counter) l.self) ≡ read_many digest_field l.count l.fn.self
