use Rattle.glacier_http.proofs.RangeLemmas.{one_range, one_byte_range, one_content_range}
use Rattle.glacier_http.proofs.laws.range_is_one.Goals as goal

pub returns-clause-job : goal.returns-clause-job
returns-clause-job c = one_range

pub returns-clause-byte : goal.returns-clause-byte
returns-clause-byte c = one_byte_range

pub returns-clause-content : goal.returns-clause-content
returns-clause-content c = one_content_range
