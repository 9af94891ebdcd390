use Rattle.std.proofs.Common.{ℕ, List, subst}
use Rattle.glacier_http.specs.Opening.{HasNoOpening}
use Rattle.glacier_http.specs.Step.{IsStep}
use Rattle.glacier_http.specs.declared.head_spans.HeadStep.TheVariants as step
use Rattle.glacier_server.proofs.KeepLemmas.{keeps_self, keeps_then}
use Rattle.glacier_server.proofs.TransferLemmas.{behind_none, behind_more}
use Rattle.glacier_server.proofs.next_head.next_head.Goals as goal

pub returns-in-Head-clause-found : goal.returns-in-Head-clause-found
returns-in-Head-clause-found g c = subst (λ (l : List ℕ). IsStep l c.read_head.new.room
    (step.Head c.in-Head.spans)) c.bytes.ensures.same c.in-Head.ensures.step

pub returns-in-Bad-clause-found : goal.returns-in-Bad-clause-found
returns-in-Bad-clause-found g c = subst (λ (l : List ℕ). IsStep l c.read_head.new.room
    (step.Bad c.in-Bad.cause)) c.bytes.ensures.same c.in-Bad.ensures.step

pub search-init : goal.search-init
search-init g c = record { takes = λ t. behind_none _ _ HasNoOpening; keeps = keeps_self _ c.requires }

pub search-preserved : goal.search-preserved
search-preserved g c = record {
  takes = λ t. behind_more (c.search.invariant.takes t)
      (subst HasNoOpening c.bytes.ensures.same c.in-Need.ensures.step) (c.in-Ok-true.ensures.takes t);
  keeps = keeps_then c.search.invariant.keeps c.in-Ok-true.ensures.keeps;
}

pub returns-in-Ok-false-clause-takes : goal.returns-in-Ok-false-clause-takes
returns-in-Ok-false-clause-takes g c t = behind_more (c.search.invariant.takes t)
    (subst HasNoOpening c.bytes.ensures.same c.in-Need.ensures.step) (c.in-Ok-false.ensures.takes t)

pub returns-in-Err-clause-takes : goal.returns-in-Err-clause-takes
returns-in-Err-clause-takes g c t = behind_more (c.search.invariant.takes t)
    (subst HasNoOpening c.bytes.ensures.same c.in-Need.ensures.step) (c.in-Err.ensures.takes t)
