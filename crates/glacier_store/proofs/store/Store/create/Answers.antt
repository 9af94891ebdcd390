use Rattle.glacier_store.proofs.OpenLemmas.{new_held, new_rest, none_drawn}
use Rattle.glacier_store.proofs.store.Store.create.Goals as goal

pub returns-in-Ok-clause-creates : goal.returns-in-Ok-clause-creates
returns-in-Ok-clause-creates g c t =
    let made = c.in-Ok.ensures.creates t in
    let area = c.in_ok-area.area in
    let none = c.in_ok-area.ensures.blobs in
    record {
      kept = record {
        accounts = c.empty.ensures;
        held = new_held (g.D.Disk.told c.create.new.disk) c.in-Ok.journal area.blobs made.durable (c.in-Ok.ensures.listed t) none;
        rest = new_rest area.free area.blobs c.in_ok-area.ensures.free none;
      };
      made = made.made;
      empty = made.empty;
      not_empty = λ area size is. absurd (cc is);
      untouched = λ full. absurd (full made.empty);
    }

pub invariant_of-result : goal.invariant_of-result
invariant_of-result g c = record { drawn = none_drawn c.empty.result c.in_ok-area.area.blobs c.in_ok-area.ensures.blobs }

pub returns-in-Ok-clause-nothing : goal.returns-in-Ok-clause-nothing
returns-in-Ok-clause-nothing g c =
    let area = c.in_ok-area.area in
    let none = c.in_ok-area.ensures.blobs in
    record {
      accounts = c.empty.ensures;
      blobs = none;
      rest = new_rest area.free area.blobs c.in_ok-area.ensures.free none;
      length = c.in-Ok.ensures.length;
    }
