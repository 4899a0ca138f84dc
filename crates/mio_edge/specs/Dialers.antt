-- When connections to a cluster are made.
use Rattle.mio_edge.specs.declared.dialer.Dialer.{Dialer}
use Rattle.std.specs.Prelude.{Bool, Option, false, if◌then◌else◌, max, min, nat_lt, true, ℕ, ◌*◌, ◌+◌, ◌-◌, ◌<◌, ◌^◌, ◌≡◌}
use Rattle.std.specs.declared.net.socket_addr.SocketAddr.{SocketAddr}

abbrev pub new_dialer : Option SocketAddr → ℕ → Dialer
new_dialer address wanted = record { address = address; wanted = wanted; ready = 0; begun = 0; failing = false; pause = 0; until = 0 }

-- One may be made now: fewer are ready or being made than are wanted. A pause is kept, but where it is urgent, and the cluster can
-- be reached as far as is known.
pub record MayDial (now : ℕ) (is_urgent : Bool) (d : Dialer) : Type 0 where
  pub wanted : d.ready + d.begun < d.wanted
  pub pause : now < d.until → (d.failing ≡ false) × (is_urgent ≡ true)

-- each pause is twice as long as the one before, 100 to 5,000 ms
abbrev pub next_pause : ℕ → ℕ
next_pause pause = min (max (pause * 2) 100) 5000

abbrev pub later : ℕ → ℕ → ℕ
later now pause = min (now + pause) (2 ^ 64 - 1)

-- none begins while one is kept
abbrev pub rested : ℕ → Dialer → Dialer
rested now d = if nat_lt now d.until then d else record d { pause = next_pause d.pause; until = later now (next_pause d.pause) }

-- one couldn't be made
abbrev pub failed : ℕ → Dialer → Dialer
failed now d = rested now (record d { begun = d.begun - 1; failing = true })

-- one couldn't be begun or taken in
abbrev pub postponed : ℕ → Dialer → Dialer
postponed now d = record d { begun = d.begun - 1; until = later now 100 }

-- one that was made is ready
abbrev pub joined : Dialer → Dialer
joined d = record d { ready = min (d.ready + 1) (2 ^ 32 - 1); begun = d.begun - 1; failing = false }
