use Rattle.std.proofs.Common.{rules, ◌≡◌, ◌⊎◌, inl, inr, ◌<◌, ◌≤◌, ◌+◌, ◌^◌, ℕ, List, [], length, drop, ◌∙◌, sym, ap, subst, arith, length-drop}
use Rattle.std.proofs.lemmas.List.{drop-drop, take_at}
use Rattle.glacier_disk.specs.Image.{Image, padded, window}
use Rattle.glacier_journal.specs.declared.read.Step.{Step}
use Rattle.glacier_journal.specs.declared.read.Step.TheVariants.{Closed, Record, Broken}
use Rattle.glacier_journal.proofs.HeadLemmas.{told_length, broken, begins}
use Rattle.glacier_journal.proofs.read.read_step.Goals as goal
use Rattle.glacier_journal.proofs.read.read_step.Goals.{then-count-gt-MOST-via-then-count-gt-MOST, then-count-gt-MOST-via-else-count-gt-MOST+then-size-at}

pub returns-then-count-gt-MOST-clause-shows : goal.returns-then-count-gt-MOST-clause-shows
returns-then-count-gt-MOST-clause-shows g c t =
    let b = drop c.args.at ((g.D.Disk.told c.args.disk.now).reads c.args.area) in
    let h = c.look.new.into in
    let count : c.from-count.result ≡ told_length h = c.from-count.ensures ∙ c.from_be_bytes.ensures in
    let long : length b + c.args.at ≡ c.args.size = omega (arith, c.requires.size t, c.requires.within, length-drop c.args.at ((g.D.Disk.told c.args.disk.now).reads c.args.area)) in
    let bad : (2 ^ 26 < told_length h) ⊎ (length b ≤ told_length h + 5) = elim c.then-count-gt-MOST.branch [
      | then-count-gt-MOST-via-then-count-gt-MOST w ↦ inl (subst (λ (n : ℕ). 2 ^ 26 < n) count (search rules))
      | then-count-gt-MOST-via-else-count-gt-MOST+then-size-at w ↦ inr (subst (λ (n : ℕ). length b ≤ n + 5) count (omega (arith, w.if-size-at.true, long)))
    ] in
    (λ is. cc is, λ bytes is. cc is, λ is. broken b h (c.in_ok-look.ensures.bytes t) (search rules) bad)

abbrev items_of : Step → List ℕ
items_of Closed = []
items_of (Record bytes) = bytes.items
items_of Broken = []

pub returns-clause-shows : goal.returns-clause-shows
returns-clause-shows g c t =
    let xs = (g.D.Disk.told c.args.disk.now).reads c.args.area in
    let b = drop c.args.at xs in
    let h = c.look.new.into in
    let count : c.from-count.result ≡ told_length h = c.from-count.ensures ∙ c.from_be_bytes.ensures in
    let long : length b + c.args.at ≡ c.args.size = omega (arith, c.requires.size t, c.requires.within, length-drop c.args.at xs) in
    let short : told_length h ≤ 2 ^ 26 = subst (λ (n : ℕ). n ≤ 2 ^ 26) count (search rules) in
    let inside : told_length h + 5 < length b = subst (λ (n : ℕ). n + 5 < length b) count (omega (arith, c.if-size-at.false, long)) in
    let same : (g.D.Disk.told c.look.new.disk).reads ≡ (g.D.Disk.told c.args.disk.now).reads = (c.in_ok-look.ensures.looks t).same in
    let size : length c.deref_mut.result.now ≡ c.from-count.result = search rules in (
      λ is. cc is,
      λ bytes is.
          let payload : bytes.items ≡ padded (told_length h) (drop 5 b) =
          sym (ap items_of is)
          ∙ take_at c.look-2.new.into (drop (length c.look-2.new.into) c.in_ok-bytes.bytes.items) _ (search rules)
          ∙ c.in_ok-look-2.ensures.bytes t
          ∙ ap (λ (n : ℕ). window ((g.D.Disk.told c.look.new.disk).reads c.args.area) (c.args.at + 5) n) (size ∙ count)
          ∙ ap (λ (i : Image). window (i c.args.area) (c.args.at + 5) (told_length h)) same
          ∙ ap (λ (l : List ℕ). padded (told_length h) l) (sym (drop-drop 5 c.args.at xs)) in
          begins b h bytes.items (c.in_ok-look.ensures.bytes t) (search rules) c.look.ensures.fits short inside payload,
      λ is. cc is,
    )
