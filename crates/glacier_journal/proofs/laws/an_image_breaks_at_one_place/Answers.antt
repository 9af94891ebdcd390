use Rattle.glacier_journal.proofs.OneList.{one_break}
use Rattle.glacier_journal.proofs.laws.an_image_breaks_at_one_place.Goals as goal

pub returns : goal.returns
returns c = one_break
