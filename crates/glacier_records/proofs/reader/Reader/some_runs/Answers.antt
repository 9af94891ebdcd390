use Rattle.std.proofs.lemmas.Result.{err_from_is_err_and}
use Rattle.glacier_records.specs.Codec.{read_many}
use Rattle.glacier_records.specs.Fields.{run_field}
use Rattle.glacier_records.proofs.ManyLemmas.{goes_on, ends, is_done}
use Rattle.glacier_records.proofs.reader.Reader.some_runs.Goals as goal

pub returns-in_err-next : goal.returns-in_err-next
returns-in_err-next c =
    let p = err_from_is_err_and c.from_residual.result c.from_residual.ensures.1 in
    rw (p.1, p.2)
    (ends run_field c.loop.runs c.args.count c.loop.counter c.loop.self (read_many run_field c.args.count c.args.self.now) c.in_err-next.field-0.0 c.loop-test.true c.in_err-next.ensures c.loop.invariant)

pub loop-preserved : goal.loop-preserved
loop-preserved c =
    rw c.in_ok-push.ensures.ok
    (goes_on run_field c.loop.runs c.args.count c.loop.counter c.loop.self (read_many run_field c.args.count c.args.self.now) c.in_ok-next.next c.run.new.self c.loop-test.true c.in_ok-next.ensures c.loop.invariant)

pub returns : goal.returns
returns c = is_done run_field c.loop.runs c.args.count c.loop.counter c.loop.self (read_many run_field c.args.count c.args.self.now) c.loop-test.false c.loop.invariant
