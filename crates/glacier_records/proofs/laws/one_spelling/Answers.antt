use Rattle.std.proofs.Common.{sym, ◌∙◌}
use Rattle.glacier_records.proofs.RecordLaws.{record_again}
use Rattle.glacier_records.proofs.OptionLemmas.{some_is}
use Rattle.glacier_records.proofs.laws.one_spelling.Goals as goal

pub returns-clause-one_record : goal.returns-clause-one_record
returns-clause-one_record c bytes one other spells also = some_is one other (sym (record_again bytes one spells) ∙ record_again bytes other also)

pub returns-clause-one_text : goal.returns-clause-one_text
returns-clause-one_text c bytes others one spells also = spells.spelled ∙ sym also.spelled
