-- What is kept, on every form.
use Rattle.std.proofs.Common.{◌≡◌, ℕ, ◌≤◌, true, false, refl, ap, ◌∙◌, arith, subst}
use Rattle.glacier_base.specs.Outside.{one_more, HasRisen}
use Rattle.glacier_disk.specs.Calls.{NowCall}
use Rattle.glacier_disk.specs.Told.{Told, ByDisk}
use Rattle.glacier_server.specs.declared.end.ServeFault.{ServeFault}
use Rattle.glacier_server.specs.declared.end.ServeFault.TheVariants.{Disk, Memory, JournalEnd, Accept}
use Rattle.glacier_server.specs.Breaking.{HasBroken}
use Rattle.glacier_server.specs.Serving.{ServesOn, HasStopped}
use Rattle.glacier_server.specs.Transfer.{Counts, Keeps}
use Rattle.glacier_server.specs.Does.{Failing, nothing, receiving, sending, breaking}

-- by calls on a connection
pub keeps_self : (s : Told) → s.connected ≡ true → Keeps s s nothing
keeps_self s is = record {
  connected = is;
  opened = λ was. was;
  folders = λ was. refl;
  listener = refl;
  receives = omega arith;
  sends = omega arith;
  counts = (refl, refl, refl);
}

counts_then : (failing : Failing) (a b c : Told) → Counts nothing a b → Counts failing b c → Counts failing a c
counts_then nothing a b c first second = (second.0 ∙ first.0, second.1 ∙ first.1, second.2 ∙ first.2)
counts_then receiving a b c first second =
    (second.0 ∙ ap one_more first.0, second.1 ∙ first.1, second.2 ∙ first.2)
counts_then sending a b c first second = (second.0 ∙ first.0, second.1 ∙ ap one_more first.1, second.2 ∙ first.2)
counts_then breaking a b c first second =
    (second.0 ∙ first.0, second.1 ∙ first.1, omega (arith, first.2, second.2))

pub keeps_then : {failing : Failing} {a b c : Told} → Keeps a b nothing → Keeps b c failing → Keeps a c failing
keeps_then {failing = failing} {a = a} {b = b} {c = c} first second = record {
  connected = second.connected;
  opened = λ was. second.opened (first.opened was);
  folders = λ was. second.folders (first.opened was) ∙ first.folders was;
  listener = second.listener ∙ first.listener;
  receives = omega (arith, first.receives, second.receives);
  sends = omega (arith, first.sends, second.sends);
  counts = counts_then failing a b c first.counts second.counts;
}

pub ruleset kept = (keeps_then, keeps_self)

-- by a reading
pub keeps_now : {a b : Told} → NowCall a b → a.connected ≡ true → Keeps a b nothing
keeps_now call is = record {
  connected = call.connected ∙ is;
  opened = λ was. call.disk.opened ∙ was;
  folders = λ was. call.disk.folders;
  listener = call.listener;
  receives = omega (arith, call.receives);
  sends = omega (arith, call.sends);
  counts = (call.receives, call.sends, call.disk.faults);
}

-- what failed, said otherwise
pub keeps_as : {a b : Told} {failing other : Failing} → failing ≡ other → Keeps a b failing → Keeps a b other
keeps_as {a = a} {b = b} same keeps = subst (λ (f : Failing). Keeps a b f) same keeps

-- by calls of the disk, which leave the rest alone
pub keeps_disk : {a b : Told} → ByDisk a b → a.connected ≡ true → b.disk_faults ≡ a.disk_faults → Keeps a b nothing
keeps_disk alone is same = record {
  connected = alone.connected ∙ is;
  opened = alone.opened;
  folders = alone.folders;
  listener = alone.listener;
  receives = omega (arith, alone.receive_faults);
  sends = omega (arith, alone.send_faults);
  counts = (alone.receive_faults, alone.send_faults, same);
}

pub keeps_broken : {a b : Told} → ByDisk a b → a.connected ≡ true → Keeps a b breaking
keeps_broken alone is = record {
  connected = alone.connected ∙ is;
  opened = alone.opened;
  folders = alone.folders;
  listener = alone.listener;
  receives = omega (arith, alone.receive_faults);
  sends = omega (arith, alone.send_faults);
  counts = (alone.receive_faults, alone.send_faults, alone.faults);
}

-- where nothing failed, the server breaks off as well
pub keeps_break : {a b : Told} → Keeps a b nothing → Keeps a b breaking
keeps_break x = record {
  connected = x.connected;
  opened = x.opened;
  folders = x.folders;
  listener = x.listener;
  receives = x.receives;
  sends = x.sends;
  counts = (x.counts.0, x.counts.1, omega (arith, x.counts.2));
}

-- what broke off behind calls that didn't fail
pub broken_then : (fault : ServeFault) (a b c : Told) → Keeps a b nothing → HasBroken fault b c → HasBroken fault a c
broken_then Disk a b c first x = subst (λ (n : ℕ). HasRisen n c.disk_faults) first.counts.2 x
broken_then Memory a b c first x = x ∙ first.counts.2
broken_then (JournalEnd length) a b c first x = x ∙ first.counts.2
broken_then Accept a b c first x = x

-- the count of the disk's faults never falls
pub disks : (failing : Failing) (a b : Told) → Counts failing a b → a.disk_faults ≤ b.disk_faults
disks nothing a b x = omega (arith, x.2)
disks receiving a b x = omega (arith, x.2)
disks sending a b x = omega (arith, x.2)
disks breaking a b x = x.2

-- by calls of the listener and on its connections
pub on_self : (s : Told) → s.connected ≡ false → s.opened ≡ true → s.listener.listening ≡ true → ServesOn s s
on_self s free opened listening = record {
  free = free;
  opened = opened;
  listening = listening;
  addresses = refl;
  folders = refl;
  disks = omega arith;
  accepts = omega arith;
  receives = omega arith;
  sends = omega arith;
}

pub on_then : {a b c : Told} → ServesOn a b → ServesOn b c → ServesOn a c
on_then first second = record {
  free = second.free;
  opened = second.opened;
  listening = second.listening;
  addresses = second.addresses ∙ first.addresses;
  folders = second.folders ∙ first.folders;
  disks = omega (arith, first.disks, second.disks);
  accepts = omega (arith, first.accepts, second.accepts);
  receives = omega (arith, first.receives, second.receives);
  sends = omega (arith, first.sends, second.sends);
}

-- what failed behind connections that were served
pub stopped_then : (fault : ServeFault) (a b c : Told) → b.listener.faults ≡ a.listener.faults
    → b.disk_faults ≡ a.disk_faults → HasStopped fault b c → HasStopped fault a c
stopped_then Disk a b c first disk x = (x.0 ∙ first, subst (λ (n : ℕ). HasRisen n c.disk_faults) disk x.1)
stopped_then Memory a b c first disk x = (x.0 ∙ first, x.1 ∙ disk)
stopped_then (JournalEnd end) a b c first disk x = (x.0 ∙ first, x.1 ∙ disk)
stopped_then Accept a b c first disk x = (x.0 ∙ ap one_more first, x.1 ∙ disk)
