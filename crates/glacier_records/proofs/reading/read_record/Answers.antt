use Rattle.std.proofs.Common.{◌≡◌, None, sym, ◌∙◌, arith}
use Rattle.glacier_records.specs.Reading.{record_in}
use Rattle.glacier_records.proofs.RecordLaws.{record_found, record_again, unread_is_unspelled}
use Rattle.glacier_records.proofs.reading.read_record.Goals as goal

pub returns-in-Ok-clause-found : goal.returns-in-Ok-clause-found
returns-in-Ok-clause-found c = record_found c.args.bytes.now c.in-Ok.record (λ i. omega (arith, c.type_inv.bytes i)) c.in-Ok.ensures

pub returns-in-Ok-clause-spelled : goal.returns-in-Ok-clause-spelled
returns-in-Ok-clause-spelled c written spells = sym c.in-Ok.ensures ∙ record_again c.args.bytes.now written spells

pub returns-in-Err-NoValue-clause-none : goal.returns-in-Err-NoValue-clause-none
returns-in-Err-NoValue-clause-none c written spells =
    let none : record_in c.args.bytes.now ≡ None = rw c.in-Err-NoValue.field-0-is at c.in-Err-NoValue.ensures in
    unread_is_unspelled c.args.bytes.now none written spells

pub returns-in-Err-NoValue-clause-spelled : goal.returns-in-Err-NoValue-clause-spelled
returns-in-Err-NoValue-clause-spelled c written spells =
    let none : record_in c.args.bytes.now ≡ None = rw c.in-Err-NoValue.field-0-is at c.in-Err-NoValue.ensures in
    absurd (unread_is_unspelled c.args.bytes.now none written spells)
