-- Which connections are live, and which of them are held.
use Rattle.mio_edge.specs.declared.roll.Roll.TheInside.{Inside}
use Rattle.relay_ports.specs.Memory.{AreMost, Rises, Tap, held_in, live_in}
use Rattle.std.specs.Prelude.{List, None, [], ℕ}
use Rattle.worker_ports.specs.Wires.{Seen}

pub record RollValue : Type 0 where
  pub clusters : ℕ
  pub taps : List Tap
  pub greatest : ℕ

abbrev pub value_of : Inside → RollValue
value_of r = record { clusters = r.clusters; taps = r.live.entries; greatest = r.greatest }

-- what was done isn't told
abbrev pub roll_seen : RollValue → Seen
roll_seen r = record { clusters = r.clusters; live = live_in r.taps; greatest = r.greatest; held = held_in r.taps; steps = None }

abbrev pub new_roll : ℕ → RollValue
new_roll clusters = record { clusters = clusters; taps = []; greatest = 0 }

-- the numbers rise, and none is above the greatest
pub record IsInOrder (r : Inside) : Type 0 where
  pub rises : Rises r.live.entries
  pub below : AreMost r.greatest r.live.entries
