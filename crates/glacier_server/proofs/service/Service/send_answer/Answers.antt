use Rattle.std.proofs.Common.{◌≡◌, ◌∙◌, ℕ, List, ap, drop, refl, sym, rules}
use Rattle.std.specs.Option.{is_some}
use Rattle.glacier_server.specs.Exchange.{end_of_good}
use Rattle.glacier_server.specs.Outputs.{IsHeldIn}
use Rattle.glacier_server.specs.Placed.{placed_as}
use Rattle.glacier_server.specs.Texts.{text_of_answer}
use Rattle.glacier_server.proofs.OutputLemmas.{held_in}
use Rattle.glacier_server.proofs.SentLemmas.{all_sent, broken_amid, part_sent, text_is}
use Rattle.glacier_server.proofs.service.Service.send_answer.Goals as goal

pub returns-in-Ok-clause-exchange : goal.returns-in-Ok-clause-exchange
returns-in-Ok-clause-exchange g c t old from state counted same done =
    let config = c.args.self.now.config.now in
    let end = c.good_end-end.result in
    let flag : c.is_some.result ≡ is_some end = search rules in
    let end_is = c.good_end-end.ensures.end ∙ ap (λ (n : ℕ). end_of_good n c.args.close) (sym counted) in
    let now = placed_as c.args.store state in (
      state,
      all_sent config from c.args.used c.args.close now c.args.answered.now c.args.reading done end end_is
          (text_of_answer state c.args.answered.now c.args.reading c.is_some.result)
          (text_is config from c.args.used c.args.close now c.args.answered.now c.args.reading done end end_is c.is_some.result flag)
          c.good_end-end.ensures.of_none (c.in-Ok.ensures.sends t state (held_in done.kept)) _ refl
          (c.skip.ensures ∙ ap (λ (l : List ℕ). drop c.args.used l) (sym same)),
    )

pub returns-in-Err-Send-clause-exchange : goal.returns-in-Err-Send-clause-exchange
returns-in-Err-Send-clause-exchange g c t old from state counted same done =
    let config = c.args.self.now.config.now in
    let end = c.good_end-end.result in
    let flag : c.is_some.result ≡ is_some end = search rules in
    let end_is = c.good_end-end.ensures.end ∙ ap (λ (n : ℕ). end_of_good n c.args.close) (sym counted) in
    let now = placed_as c.args.store state in (
      state,
      part_sent config from c.args.used c.args.close now c.args.answered.now c.args.reading done end end_is
          (text_of_answer state c.args.answered.now c.args.reading c.is_some.result)
          (text_is config from c.args.used c.args.close now c.args.answered.now c.args.reading done end end_is c.is_some.result flag)
          (rw c.in-Err-Send.field-0-is at c.in-Err-Send.ensures.sends t state (held_in done.kept)) _ refl,
    )

pub returns-in-Err-Disk-clause-broken : goal.returns-in-Err-Disk-clause-broken
returns-in-Err-Disk-clause-broken g c t old from state counted same done =
    let config = c.args.self.now.config.now in
    let end = c.good_end-end.result in
    let flag : c.is_some.result ≡ is_some end = search rules in
    let end_is = c.good_end-end.ensures.end ∙ ap (λ (n : ℕ). end_of_good n c.args.close) (sym counted) in
    let now = placed_as c.args.store state in
    let sends = rw c.in-Err-Disk.field-0-is at c.in-Err-Disk.ensures.sends t state (held_in done.kept) in
    broken_amid config from c.args.used c.args.close now c.args.answered.now c.args.reading done end end_is
    (text_of_answer state c.args.answered.now c.args.reading c.is_some.result)
    (text_is config from c.args.used c.args.close now c.args.answered.now c.args.reading done end end_is c.is_some.result flag)
    sends.0 sends.1 sends.2 sends.4
