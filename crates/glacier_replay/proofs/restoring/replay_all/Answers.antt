use Rattle.std.proofs.Common.{◌≡◌, ℕ, List, sym, subst, take}
use Rattle.glacier_journal.specs.Listed.{Payloads, bytes_of}
use Rattle.glacier_records.specs.Spells.{Spells}
use Rattle.glacier_replay.specs.Made.{Adds, BadRecord, Leads, nothing}
use Rattle.glacier_replay.specs.Restoring.{holdings_of}
use Rattle.glacier_replay.proofs.MadeLemmas.{leads-push}
use Rattle.glacier_replay.proofs.PlaceLemmas.{bad_at, bytes_of-take}
use Rattle.glacier_replay.proofs.SettledLemmas.{leads_settled, nothing_settled}
use Rattle.glacier_replay.proofs.restoring.replay_all.Goals as goal

pub replay_payload-requires-clause-settled : goal.replay_payload-requires-clause-settled
replay_payload-requires-clause-settled c =
    leads_settled (bytes_of (take c.loop-payload.payload-index c.args.payloads.now)) nothing (holdings_of c.loop-payload.restored) nothing_settled c.loop-payload.invariant.made

pub returns-then-not-fits-clause-bad : goal.returns-then-not-fits-clause-bad
returns-then-not-fits-clause-bad c at is places =
    let here : c.payload-item.result.at ≡ at = cc is in
    let refused = c.in_ok-fits.ensures.refused c.if-not-fits.true in
    subst (λ (n : ℕ). BadRecord (bytes_of c.args.payloads.now) n) here
    (bad_at c.args.payloads.now c.loop-payload.payload-index c.payload-item.result c.loop-payload-test.true c.payload-item.is (holdings_of c.loop-payload.restored) places c.loop-payload.invariant.made
    (λ r spells. refused r (subst (λ (l : List ℕ). Spells l r) (sym c.bytes.ensures) spells)))

pub loop-payload-preserved : goal.loop-payload-preserved
loop-payload-preserved c =
    let payloads = c.args.payloads.now in
    let i = c.loop-payload.payload-index in
    let item = c.payload-item.result in
    let before = holdings_of c.loop-payload.restored in
    let after = holdings_of c.replay_payload.new.restored in
    let adds = subst (λ (l : List ℕ). Adds l before after) c.bytes.ensures (c.in_ok-fits.ensures.replayed c.if-not-fits.false) in
    record {
      made = subst (λ (l : Payloads). Leads nothing l after) (sym (bytes_of-take payloads i item c.loop-payload-test.true c.payload-item.is))
          (leads-push (bytes_of (take i payloads)) item.bytes nothing before after c.loop-payload.invariant.made adds);
      rest = c.in_ok-fits.ensures.rest c.if-not-fits.false;
    }

pub returns-clause-settled : goal.returns-clause-settled
returns-clause-settled c =
    leads_settled (bytes_of (take c.loop-payload.payload-index c.args.payloads.now)) nothing (holdings_of c.loop-payload.restored) nothing_settled c.loop-payload.invariant.made
