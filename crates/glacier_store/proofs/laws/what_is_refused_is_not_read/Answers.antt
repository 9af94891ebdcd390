use Rattle.glacier_store.proofs.OpenLemmas.{refused_reads_none}
use Rattle.glacier_store.proofs.laws.what_is_refused_is_not_read.Goals as goal

pub returns : goal.returns
returns c = refused_reads_none
