-- Between which connections the flows of exchanges go.
use Rattle.flow_gate.specs.Board.{count}
use Rattle.flow_rules.specs.declared.ids.FlowId.{FlowId}
use Rattle.std.specs.Option.{option_and_then, option_map}
use Rattle.std.specs.Prelude.{Bool, List, None, Option, Some, if◌then◌else◌, nat_eq, nat_le, not, slice_get, true, ℕ, ◌&&◌, ◌-◌, ◌==◌, ◌≡◌}
use Rattle.wire_flows.specs.Flows.{Flows, is_there}
use Rattle.wire_links.specs.Links.{Links, ends_of, exchange_at}
use Rattle.wire_links.specs.declared.links.exchanges.Ends.{Ends}
use Rattle.wire_state.specs.declared.course.Course.{Course}

-- a request goes from its client to its cluster, if it has one, and a response back
abbrev pub course_of : ℕ → Bool → Ends → Course
course_of x back e = record {
  flow = record { exchange = x; back = back };
  from = if back then e.cluster else Some e.client;
  to = if back then Some e.client else e.cluster;
}

-- the course of a flow of a linked exchange
abbrev pub course_in : Links → FlowId → Option Course
course_in links f = option_map (course_of f.exchange f.back) (ends_of f.exchange links)

-- the course of the flow of an exchange that comes from a connection, and of the one that goes to it
abbrev pub comes_from : ℕ → ℕ → Ends → Course
comes_from c x e = course_of x (not (nat_eq e.client c)) e

abbrev pub goes_to : ℕ → ℕ → Ends → Course
goes_to c x e = course_of x (nat_eq e.client c) e

-- of the exchange that is on a stream of a connection
abbrev pub course_at : (ℕ → Ends → Course) → ℕ → ℕ → Links → Option Course
course_at course c stream links = option_and_then (λ x. option_map (course x) (ends_of x links)) (exchange_at c stream links)

-- the route row of an exchange, where those that began after `before` have these
abbrev pub row_of : ℕ → ℕ → List (Option ℕ) → Option ℕ
row_of x before rows = if nat_le x before then None else option_and_then (λ row. row) (slice_get rows (x - before - 1))

-- it is there, and nothing holds it back
abbrev pub IsReadable : Flows → FlowId → Type 0
IsReadable flows f = (is_there flows f && (count flows.gates f == 0)) ≡ true
