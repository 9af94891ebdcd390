-- The headline, by what was done.
use Rattle.std.proofs.Common.{◌≡◌, ◌⊎◌, inl, inr, ℕ, List, [], sym, subst, append-nil}
use Rattle.glacier_disk.specs.Network.{Connection}
use Rattle.glacier_disk.specs.Told.{Told, Lawful}
use Rattle.glacier_machine.specs.declared.config.Config.{Config}
use Rattle.glacier_server.specs.declared.end.End.{End}
use Rattle.glacier_server.specs.declared.end.End.TheVariants.{Closed, Cut, Refused, Bound, ReadFault, SendFault}
use Rattle.glacier_server.specs.declared.end.ServeFault.{ServeFault}
use Rattle.glacier_server.specs.declared.end.ServeFault.TheVariants.{Disk, Memory, JournalEnd, Accept}
use Rattle.glacier_server.specs.Acts.{StopsAmid}
use Rattle.glacier_server.specs.Headline.{HeadlineLast, Headline}
use Rattle.glacier_server.specs.Served.{Served, IsWholeOut, IsPartOfOut, ServedLast}
use Rattle.glacier_server.specs.Breaking.{PartLast}
use Rattle.glacier_server.specs.Serving.{ServedAll, BreaksLast, ServedTill, Serves, Breaks}
use Rattle.glacier_server.specs.Session.{Session}
use Rattle.glacier_server.proofs.AllSentLemmas.{all_sent}
use Rattle.glacier_server.proofs.DoesLemmas.{stops_anywhere}
use Rattle.glacier_server.specs.Placed.{IsKept, Placed}

-- all that is to be done is a first part of it
whole : (config : Config) (s : Session) → IsWholeOut config s.taken s.readings s.before.state s.acts
    → IsPartOfOut config s
whole config s x = (s.acts, [], x.is_out, sym (append-nil s.acts))

-- whatever the end, what was done is a first part of what is to be done
part : (config : Config) (s : Session) (coming : List ℕ) (end : End) → Served config s coming end
    → IsPartOfOut config s
part config s coming Closed x = whole config s (all_sent config s coming Closed x (λ never. absurd (cc)))
part config s coming (Cut n) x = whole config s (all_sent config s coming (Cut n) x (λ never. absurd (cc)))
part config s coming Refused x = whole config s (all_sent config s coming Refused x (λ never. absurd (cc)))
part config s coming Bound x = whole config s (all_sent config s coming Bound x (λ never. absurd (cc)))
part config s coming ReadFault x = whole config s (all_sent config s coming ReadFault x (λ never. absurd (cc)))
part config s coming SendFault x = x.0

by_machine : (config : Config) (came : List Connection) (sessions : List Session) (placed after : Placed)
    (fault : ServeFault) → ServedTill config fault came sessions placed after
    → ((after : Placed) × ServedAll config came sessions placed after)
    ⊎ ((fault : ServeFault) × BreaksLast config came sessions placed fault)
by_machine config came sessions placed after Disk x = inr (Disk, x)
by_machine config came sessions placed after Memory x = inr (Memory, x)
by_machine config came sessions placed after (JournalEnd end) x = inr (JournalEnd end, x)
by_machine config came sessions placed after Accept x = inl (after, x)

-- a session from a store that was kept
at_start : (old : Told) (placed : Placed) (s : Session) → s.before ≡ placed → IsKept old placed → IsKept old s.before
at_start old placed s starts kept = subst (λ (k : Placed). IsKept old k) (sym starts) kept

did : (old new : Told) (placed : Placed) (s : Session) → s.before ≡ placed → StopsAmid old new s.before.state s.acts
    → StopsAmid old new placed.state s.acts
did old new placed s starts amid = subst (λ (k : Placed). StopsAmid old new k.state s.acts) starts amid

module _ {config : Config} {old new : Told} {placed : Placed} (law : Lawful old) (kept : IsKept old placed) where
  pub served_headline : {after : Placed} {end : End} → ServedLast config old new placed after end
      → HeadlineLast config old new placed
  served_headline {end = end} x = record {
    session = x.session;
    starts = x.starts;
    took = x.transfer.took;
    sent = x.transfer.sent_now;
    read = x.transfer.read;
    machine = part config x.session _ end x.served;
    stop = stops_anywhere law kept (did old new placed x.session x.starts
        (x.transfer.does.stops (at_start old placed x.session x.starts kept)));
  }

  pub part_headline : {fault : ServeFault} → PartLast config old new placed fault → HeadlineLast config old new placed
  part_headline x = record {
    session = x.session;
    starts = x.starts;
    took = x.transfer.took;
    sent = x.transfer.sent_now;
    read = x.transfer.read;
    machine = x.part.0;
    stop = stops_anywhere law kept (did old new placed x.session x.starts
        (x.transfer.does.stops (at_start old placed x.session x.starts kept)));
  }

  pub serves_headline : {after : Placed} {count : ℕ} → Serves config old new placed after count
      → Headline config old new placed
  serves_headline {after = after} x = record {
    came = x.came;
    sessions = x.sessions;
    behind = x.comes.behind;
    read = x.comes.read;
    machine = inl (after, x.each);
    stop = stops_anywhere law kept (x.does.stops kept);
    amid = x.does.stops kept;
  }

  pub breaks_headline : {most : ℕ} {fault : ServeFault} → Breaks config old new placed most fault
      → Headline config old new placed
  breaks_headline {fault = fault} x = record {
    came = x.came;
    sessions = x.sessions;
    behind = x.comes.behind;
    read = x.comes.read;
    machine = by_machine config x.came x.sessions placed x.after fault x.till;
    stop = stops_anywhere law kept (x.does.stops kept);
    amid = x.does.stops kept;
  }
