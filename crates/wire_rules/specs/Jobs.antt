-- The job that makes all clients' connections drain, one after another (RFC 9113 section 6.8).
use Rattle.flow_notes.specs.declared.events.Event.{Event}
use Rattle.proxy_config.specs.declared.config.Config.{Config}
use Rattle.std.specs.Prelude.{Bool, List, MatchOption, None, Option, Some, false, filter, if◌then◌else◌, length, not, slice_get, true, ℕ, ◌&&◌, ◌==◌, ◌≡◌}
use Rattle.tape_laws.specs.Dispatches.{this_event}
use Rattle.tape_laws.specs.History.{Marked}
use Rattle.wire_laws.specs.Base.{is_open_conn}
use Rattle.wire_laws.specs.Draining.{draining}
use Rattle.wire_laws.specs.Marks.{Drains, WireHistory, WireStep}
use Rattle.wire_laws.specs.Peers.{clients}
use Rattle.wire_rules.specs.Owed.{owed}
use Rattle.flow_notes.specs.declared.events.Event.TheVariants as event
use Rattle.flow_notes.specs.declared.events.Job.TheVariants as job

abbrev pub is_drain : Option Event → Bool
is_drain (Some (event.Post poster number job.Drain)) = true
is_drain e = false

-- the open connections of clients that don't drain yet, by number
abbrev pub to_drain : Config → WireHistory → List ℕ
to_drain config past = filter (λ c. is_open_conn config c past && not (draining config c past)) (clients past)

-- The next one, where nothing is owed any more of those before: a GOAWAY for a full list closes its connection first, with all
-- that this dooms.
abbrev pub next_to_drain : Config → WireHistory → Option ℕ
next_to_drain config past =
    if is_drain (this_event past) && (length (owed config past) == 0) then slice_get (to_drain config past) 0 else None

abbrev pub is_drains : WireStep → Bool
is_drains (Marked (Drains c)) = true
is_drains step = false

-- it begins to drain at once, and no other does
abbrev pub DrainsInTurn : Config → WireStep → WireHistory → Type 0
DrainsInTurn config step past = MatchOption (next_to_drain config past) (is_drains step ≡ false) (λ c. step ≡ Marked (Drains c))
