use Rattle.std.proofs.Common.{rules, ◌≡◌, ◌+◌, ◌++◌, ℕ, List, [], ◌∷◌, length, drop, sym, ◌∙◌, ap, subst, arith, length-drop}
use Rattle.glacier_disk.specs.Image.{Image}
use Rattle.glacier_disk.specs.Moments.{looks_joined}
use Rattle.glacier_journal.specs.Breaks.{IsBroken}
use Rattle.glacier_journal.specs.Listed.{header, bytes_of, placed, behind}
use Rattle.glacier_journal.specs.Steps.{BeginsWith}
use Rattle.glacier_journal.proofs.ReadLemmas.{Further, further, none_yet, breaks_there, empty_broken, pushed}
use Rattle.glacier_journal.proofs.read.read_list.Goals as goal

pub loop-at-init : goal.loop-at-init
loop-at-init g c =
    let empty : c.new-payloads.result ≡ [] = search rules in
    let none : bytes_of c.new-payloads.result ≡ [] = ap bytes_of empty in
    let bytes = (g.D.Disk.told c.args.disk.now).reads c.args.area in
    record {
      low = omega arith;
      high = search rules;
      reads = λ t.
          let is : c.look.new.into ≡ header = search rules in
          let first = none_yet bytes c.look.new.into (c.in_ok-look.ensures.bytes t) is (omega (arith, c.requires.size t, c.if-size-lt16.false)) in
          subst (λ (l : List (List ℕ)). Further bytes 16 l) (sym none) first;
      places = empty ∙ sym (ap (placed 16) none);
      gated = λ is. none;
      here = sym (ap (behind 16) none);
      looks = c.look.ensures.looks;
      is_open = c.look.ensures.call.opened;
      faults = search rules;
      alone = c.look.ensures.alone;
    }

pub loop-at-preserved : goal.loop-at-preserved
loop-at-preserved g c =
    let loop = c.loop-at.invariant in
    let bytes = (g.D.Disk.told c.args.disk.now).reads c.args.area in
    let payload = c.in-Record.bytes.items in
    let size : c.len.result ≡ length payload = search rules in
    let next = c.in_ok-read_step.ensures.inside.1 c.in-Record.bytes c.in-Record.is in
    let is : c.push.new.self ≡ c.loop-at.payloads ++ record { at = c.loop-at.at; bytes = payload } ∷ [] = search rules in
    let more = pushed c.loop-at.payloads c.push.new.self c.loop-at.at payload is loop.places loop.here in
    let there : c.loop-at.at + 5 + c.len.result ≡ c.loop-at.at + 5 + length payload = ap (λ (n : ℕ). c.loop-at.at + 5 + n) size in
    record {
      low = omega (arith, loop.low);
      high = omega (arith, next, size);
      reads = λ t.
          let begins = subst (λ (i : Image). BeginsWith (drop c.loop-at.at (i c.args.area)) payload) (loop.looks t).same
          ((c.in_ok-read_step.ensures.shows t).1 c.in-Record.bytes c.in-Record.is) in
          subst (λ (n : ℕ). Further bytes n (bytes_of c.push.new.self)) (sym there)
          (subst (λ (l : List (List ℕ)). Further bytes (c.loop-at.at + 5 + length payload) l) (sym more.0)
          (further bytes payload c.loop-at.at (bytes_of c.loop-at.payloads) (loop.reads t) begins));
      places = more.1;
      gated = λ end. absurd (omega (arith, next, size, end));
      here = there ∙ more.2;
      looks = λ t. looks_joined _ _ _ (loop.looks t) (c.read_step.ensures.looks t);
      is_open = c.read_step.ensures.call.opened;
      faults = search rules;
      alone = g.met.D.Disk.by_disk_joins c.args.disk.now c.loop-at.disk c.read_step.new.disk loop.alone c.read_step.ensures.alone;
    }

pub returns-in-Broken-clause-reads : goal.returns-in-Broken-clause-reads
returns-in-Broken-clause-reads g c t =
    let loop = c.loop-at.invariant in
    let broken = subst (λ (i : Image). IsBroken (drop c.loop-at.at (i c.args.area))) (loop.looks t).same
    ((c.in_ok-read_step.ensures.shows t).2 c.in-Broken.is) in
    record {
      looks = looks_joined _ _ _ (loop.looks t) (c.read_step.ensures.looks t);
      breaks = λ other at is. breaks_there (loop.reads t) (c.requires.size t) loop.high loop.gated broken c.args.area other at (cc is);
    }

pub returns-clause-reads : goal.returns-clause-reads
returns-clause-reads g c t =
    let loop = c.loop-at.invariant in
    let bytes = (g.D.Disk.told c.args.disk.now).reads c.args.area in
    let none : length (drop c.loop-at.at bytes) ≡ 0 = omega (arith, c.requires.size t, c.loop-at-test.false, length-drop c.loop-at.at bytes) in
    record {
      looks = loop.looks t;
      breaks = λ other at is. breaks_there (loop.reads t) (c.requires.size t) loop.high loop.gated (empty_broken _ none) c.args.area other at (cc is);
    }
