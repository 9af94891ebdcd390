use Rattle.std.proofs.Common.{◌≡◌, ◌≤◌, ◌++◌, ◌∷◌, [], ◌∙◌, IsTrue, Some, Ok, Err, length, take, sym, rules}
use Rattle.std.proofs.lemmas.List.{take_at}
use Rattle.glacier_sigv4.specs.KeyFile.{entries_of}
use Rattle.glacier_cli.proofs.KeyPrefixLemmas.{filled_spells}
use Rattle.glacier_cli.proofs.keys.read_keys.Goals as goal

pub returns-in-Ok-read-clause-ring : goal.returns-in-Ok-read-clause-ring
returns-in-Ok-read-clause-ring g c =
    let told = g.F.Files.told in
    let old = told c.args.files.now in
    let mid = told c.open_read.new.self in
    let named : IsTrue g.F.Files.tells → mid.names ≡ old.names ++ Some c.args.name.now ∷ [] = λ t. search rules in
    let faults : mid.faults ≡ old.faults = search rules in
    let size : length c.fill.new.buffer ≡ 17857 = search rules in
    let long : length c.fill.new.buffer ≡ c.in-Ok.text.len = search rules in
    let bound : c.in-Ok-fill.count ≤ length c.fill.new.buffer = search rules in
    let text : c.deref.result.now ≡ c.fill.new.buffer = c.deref.ensures.value ∙ take_at c.fill.new.buffer _ _ long in
    let read : entries_of (take c.in-Ok-fill.count c.fill.new.buffer) ≡ Ok c.in-Ok-read.ring = rw text at c.in-Ok-read.ensures.ok in
    record {
      spells = λ t.
          let opened : old.content (Some c.args.name.now) ≡ Some mid.rest = search rules in
          let filled = c.in-Ok-fill.ensures.fills t in
          (_, opened, sym (filled_spells c.in-Ok-fill.count _ c.fill.new.buffer _ size bound filled.taken filled.end) ∙ read);
      given = λ t. (c.in-Ok-fill.ensures.fills t).names ∙ named t;
      no_fault = c.in-Ok-fill.ensures.call.cause.ok ∙ faults;
    }

pub returns-in-Err-BadLine-clause-ends : goal.returns-in-Err-BadLine-clause-ends
returns-in-Err-BadLine-clause-ends g c =
    let told = g.F.Files.told in
    let old = told c.args.files.now in
    let mid = told c.open_read.new.self in
    let named : IsTrue g.F.Files.tells → mid.names ≡ old.names ++ Some c.args.name.now ∷ [] = λ t. search rules in
    let faults : mid.faults ≡ old.faults = search rules in
    let size : length c.fill.new.buffer ≡ 17857 = search rules in
    let long : length c.fill.new.buffer ≡ c.in-Ok.text.len = search rules in
    let bound : c.in-Ok-fill.count ≤ length c.fill.new.buffer = search rules in
    let text : c.deref.result.now ≡ c.fill.new.buffer = c.deref.ensures.value ∙ take_at c.fill.new.buffer _ _ long in
    let blames = rw c.in-Err-BadLine.field-0-is at c.in-Err-BadLine.ensures.err in
    let read : entries_of (take c.in-Ok-fill.count c.fill.new.buffer) ≡ Err c.in-Err-BadLine.line = rw text at blames in (
      λ t.
          let opened : old.content (Some c.args.name.now) ≡ Some mid.rest = search rules in
          let filled = c.in-Ok-fill.ensures.fills t in
          (_, opened, sym (filled_spells c.in-Ok-fill.count _ c.fill.new.buffer _ size bound filled.taken filled.end) ∙ read),
      λ t. (c.in-Ok-fill.ensures.fills t).names ∙ named t,
      c.in-Ok-fill.ensures.call.cause.ok ∙ faults,
    )
