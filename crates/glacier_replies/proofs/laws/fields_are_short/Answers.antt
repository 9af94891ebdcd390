use Rattle.glacier_replies.proofs.FieldLemmas.{created_is_short, uploaded_is_short, begun_is_short}
use Rattle.glacier_replies.proofs.laws.fields_are_short.Goals as goal

pub returns-clause-created : goal.returns-clause-created
returns-clause-created c = created_is_short c.args.rules.now c.args.name.now c.names_are_short.ensures.account c.names_are_short.ensures.name

pub returns-clause-uploaded : goal.returns-clause-uploaded
returns-clause-uploaded c =
    uploaded_is_short c.args.rules.now c.args.name.now c.names_are_short.ensures.account c.names_are_short.ensures.name
    c.args.number c.args.tree.now c.digits_are_few.ensures

pub returns-clause-begun : goal.returns-clause-begun
returns-clause-begun c =
    begun_is_short c.args.rules.now c.args.name.now c.names_are_short.ensures.account c.names_are_short.ensures.name c.args.number
