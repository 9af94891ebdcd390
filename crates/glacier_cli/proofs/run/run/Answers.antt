use Rattle.glacier_cli.proofs.ReasonLemmas.{printed_reason}
use Rattle.glacier_cli.proofs.ServeRunLemmas.{serve_run}
use Rattle.glacier_cli.proofs.run.run.Goals as goal

pub returns-clause-serve : goal.returns-clause-serve
returns-clause-serve g c = λ told is.
    serve_run c.ending_of.result (rw is at c.ending_of.ensures.stands) c.print.ensures.prints

pub returns-clause-reason : goal.returns-clause-reason
returns-clause-reason g c = printed_reason _ c.ending_of.result c.ending_of.ensures.stands c.print.ensures.prints
