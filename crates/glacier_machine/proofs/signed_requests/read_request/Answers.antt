use Rattle.std.proofs.lemmas.Result.{IfOk-weaker}
use Rattle.std.proofs.Common.{◌≡◌, ◌∙◌, subst, sym}
use Rattle.std.specs.Prelude.{IfOk}
use Rattle.glacier_machine.specs.Actions.{stores_body, HasOrder, HasSize}
use Rattle.glacier_machine.specs.Asks.{is_bulk_head}
use Rattle.glacier_machine.specs.SignedRequests.{RefusesInAscii}
use Rattle.glacier_machine.proofs.AskLemmas.{asked_has_size, asked_is_in_order, asked_is_bulk}
use Rattle.glacier_machine.proofs.RefusalLemmas.{refused_ascii}
use Rattle.glacier_machine.proofs.RequestLemmas.{kept_is_enough}
use Rattle.glacier_machine.proofs.signed_requests.read_request.Goals as goal

pub returns-clause-request : goal.returns-clause-request
returns-clause-request c whole is kept =
    IfOk-weaker c.read.result _ _
    (λ r same. same
    ∙ kept_is_enough c.args.config.now c.args.head.now c.args.content_length c.args.body.now whole c.args.reading is kept)
    c.read.ensures

pub returns-clause-ascii : goal.returns-clause-ascii
returns-clause-ascii c =
    IfOk-weaker c.read.result _ _
    (λ r same. subst RefusesInAscii (sym same)
    (refused_ascii c.args.config.now c.args.head.now c.args.content_length c.args.body.now c.args.reading
    c.count-names.ensures.names))
    c.read.ensures

pub returns-clause-order : goal.returns-clause-order
returns-clause-order c =
    IfOk-weaker c.read.result _ _
    (λ r same. subst (λ q. IfOk q (λ request. IfOk request.asked HasOrder)) (sym same)
    (asked_is_in_order c.args.config.now c.args.head.now c.args.content_length c.args.body.now c.args.reading))
    c.read.ensures

pub returns-clause-bulk : goal.returns-clause-bulk
returns-clause-bulk c =
    IfOk-weaker c.read.result _ _
    (λ r same. subst (λ q. IfOk q (λ request. IfOk request.asked (λ a. stores_body a ≡ is_bulk_head c.args.head.now))) (sym same)
    (asked_is_bulk c.args.config.now c.args.head.now c.args.content_length c.args.body.now c.args.reading))
    c.read.ensures

pub returns-clause-size : goal.returns-clause-size
returns-clause-size c =
    IfOk-weaker c.read.result _ _
    (λ r same. subst (λ q. IfOk q (λ request. IfOk request.asked (HasSize c.args.content_length))) (sym same)
    (asked_has_size c.args.config.now c.args.head.now c.args.content_length c.args.body.now c.args.reading))
    c.read.ensures
