use Rattle.std.proofs.Common.{◌≡◌, Err, inr, sym, ap, subst}
use Rattle.glacier_disk.specs.declared.area.Area.{Area}
use Rattle.glacier_disk.specs.declared.area.Area.TheVariants.{Lead}
use Rattle.glacier_disk.specs.Image.{Image}
use Rattle.glacier_disk.specs.Moments.{looks_on, looks_joined}
use Rattle.glacier_journal.specs.Breaks.{Breaks, BreaksAt}
use Rattle.glacier_journal.specs.Listed.{Picks}
use Rattle.glacier_journal.specs.declared.fault.JournalFault.TheVariants.{NotAJournal}
use Rattle.glacier_journal.proofs.journal.Journal.open.Goals as goal

pub returns-in-Err-clause-opens : goal.returns-in-Err-clause-opens
returns-in-Err-clause-opens g c t =
    let synced = c.settle.ensures.looks t in
    record {
      looks = looks_joined _ _ _ synced (c.picked.ensures.looks t);
      durable = tt;
      not_a_journal = λ area at is.
          let fault : c.in-Err.fault ≡ NotAJournal area at = cc is in
          subst (λ (i : Image). Breaks i area at) synced.same (c.in-Err.ensures.breaks t area at (ap Err fault));
    }

pub returns-in-Err-read_list-clause-opens : goal.returns-in-Err-read_list-clause-opens
returns-in-Err-read_list-clause-opens g c t =
    let old = (g.D.Disk.told c.args.disk.now).reads in
    let synced = c.settle.ensures.looks t in
    let sized = looks_on _ _ _ (looks_joined _ _ _ synced (c.picked.ensures.looks t)) c.size.ensures.call.rests in
    record {
      looks = looks_joined _ _ _ sized (c.read_list.ensures.reads t).looks;
      durable = tt;
      not_a_journal = λ area at is.
          let picks : Picks (old Lead) c.in-Ok.area = subst (λ (i : Image). Picks (i Lead) c.in-Ok.area) synced.same (c.in-Ok.ensures.picks t) in
          let fault : c.in-Err-read_list.fault ≡ NotAJournal area at = cc is in
          let found = (c.in-Err-read_list.ensures.reads t).breaks area at (ap Err fault) in
          let here : BreaksAt (old c.in-Ok.area) at = subst (λ (i : Image). BreaksAt (i c.in-Ok.area) at) sized.same found.1 in
          subst (λ (a : Area). Breaks old a at) (sym found.0) (inr (picks, here));
    }
