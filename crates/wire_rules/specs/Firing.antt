-- Which timers fire in a tick, and in which order.
use Rattle.flow_notes.specs.declared.events.Event.{Event}
use Rattle.flow_rules.specs.declared.causes.FireKind.{FireKind}
use Rattle.proxy_config.specs.declared.config.Config.{Config}
use Rattle.scaled_timer.specs.Order.{in_order}
use Rattle.std.specs.Bool.{OnTrue}
use Rattle.std.specs.List.{list_any}
use Rattle.std.specs.Prelude.{Bool, IsTrue, List, Option, Some, [], false, filter, nat_le, true, ℕ, ◌&&◌, ◌*◌, ◌+◌, ◌-◌, ◌/◌, ◌==◌, ◌∷◌, ◌≡◌}
use Rattle.tape_laws.specs.Dispatches.{this_event, time}
use Rattle.tape_laws.specs.History.{Noted}
use Rattle.wire_laws.specs.Marks.{WireHistory, WireStep}
use Rattle.wire_laws.specs.Overload.{actions}
use Rattle.wire_rules.specs.Timers.{Armed, armed, is_timer, longest, shortest}
use Rattle.flow_notes.specs.declared.events.Event.TheVariants as event
use Rattle.flow_notes.specs.declared.notes.Note.TheVariants as note

-- when a timer is due, by the state of `reduce_timeouts` in parts per million
abbrev pub due_moment : Config → ℕ → Armed → ℕ
due_moment config state a =
    a.at + shortest config a.kind + (longest config a.kind - shortest config a.kind) * (1000000 - state) / 1000000

-- What stood before this dispatch's first fire note, or all where it has none. `start` is the answer as far as the steps were
-- looked at, the newest first: at first all of it, and behind each fire note what stood before that.
abbrev pub before_fires : WireHistory → WireHistory → WireHistory
before_fires start [] = start
before_fires start (Noted (note.Turn k e) ∷ past) = start
before_fires start (Noted (note.Fire which id) ∷ past) = before_fires past past
before_fires start (step ∷ past) = before_fires start past

-- the timer is still armed, as it was
abbrev pub stands : List Armed → Armed → Bool
stands timers a = list_any (λ b. is_timer a.kind a.id b && (a.at == b.at)) timers

-- those that were due once the tick had run the flows, by due moment, then by arming, less those fired, doomed or closed since
abbrev pub due_timers : Config → WireHistory → List Armed
due_timers config past =
    let start = before_fires past past in
    let state = (actions config past).reduce_timeouts in
    filter (stands (armed config past))
    (in_order (due_moment config state) (filter (λ a. nat_le (due_moment config state a) (time start)) (armed config start)))

abbrev pub is_tick : Option Event → Bool
is_tick (Some (event.Tick now)) = true
is_tick e = false

abbrev pub is_first : FireKind → ℕ → List Armed → Bool
is_first which id [] = false
is_first which id (a ∷ others) = is_timer which id a

-- a fire note stands only in a tick, and is that of the first timer due
abbrev pub FiresDue : Config → WireStep → WireHistory → Type 0
FiresDue config (Noted (note.Fire which id)) past =
    IsTrue (is_tick (this_event past) && is_first which id (due_timers config past))
FiresDue config step past = Unit {0}

-- and a tick leaves none that was due
abbrev pub LeavesNoneDue : Config → WireHistory → Type 0
LeavesNoneDue config past = OnTrue (is_tick (this_event past)) (due_timers config past ≡ [])
