use Rattle.glacier_records.proofs.KeptLengths.{record_long}
use Rattle.glacier_records.proofs.laws.kept_records_length.Goals as goal

pub returns : goal.returns
returns c = record_long
