-- When a client is too slow.
use Rattle.std.specs.Prelude.{ℕ, ◌+◌, ◌-◌, ◌^◌, ◌&&◌, min, Bool, false, nat_le, nat_lt, if◌then◌else◌}
use Rattle.glacier_host.specs.declared.pace.Pace.{Pace}
use Rattle.glacier_host.specs.declared.pace.TheConstants.{WINDOW_BYTES, WINDOW_MILLIS}

-- nothing has moved, and no other client waits
abbrev pub pace_from : ℕ → Pace
pace_from now = record { since = now; is_watched = false; moved = 0; last = now }

-- so many bytes more have moved
abbrev pub moving : Pace → ℕ → ℕ → Pace
moving pace count now = record {
  since = pace.since;
  is_watched = pace.is_watched;
  moved = min (pace.moved + count) (2 ^ 64 - 1);
  last = now;
}

-- while another waits: a window is over in which too little moved; else: no byte moved for so long
abbrev pub is_slow : Pace → ℕ → Bool → Bool
is_slow pace now others_wait =
    if others_wait
    then pace.is_watched && nat_le WINDOW_MILLIS (now - pace.since) && nat_lt pace.moved WINDOW_BYTES
    else nat_le WINDOW_MILLIS (now - pace.last)

-- a window goes on while another waits, until it is over
abbrev pub next_window : Pace → ℕ → Bool → Pace
next_window pace now others_wait =
    if others_wait && pace.is_watched && nat_lt (now - pace.since) WINDOW_MILLIS then pace
    else record { since = now; is_watched = others_wait; moved = 0; last = pace.last }
