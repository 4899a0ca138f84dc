-- A flow as the record that decides what goes on.
use Rattle.exchange_core.specs.Flow.{Flow, last_place, octets_in}
use Rattle.exchange_core.specs.Message.{head_waits, trailers_wait}
use Rattle.filter_chain.specs.Chain.{limit_at, place_at}
use Rattle.filter_chain.specs.Place.{Place, kind_of}
use Rattle.flow_gate.specs.Board.{Board, count, is_marked}
use Rattle.flow_rules.specs.declared.ids.FlowId.{FlowId}
use Rattle.flow_rules.specs.Narrowed.{octets_of}
use Rattle.flow_rules.specs.Sources.{SourceAt, sources_from as in_order, write_source}
use Rattle.flow_rules.specs.State.{FlowState}
use Rattle.std.specs.Option.{option_map_or}
use Rattle.std.specs.Prelude.{List, Option, [], false, length, map, min, pos, ℕ, ℤ, ◌++◌, ◌+◌}

-- its sources: its Meters, its send buffer, and the write buffer of the connection that it goes to, if any
abbrev pub sources_from : FlowId → ℕ → List Place → List SourceAt
sources_from f p places = in_order f p (map (λ place. kind_of place.kind) places)

abbrev pub sources : Option ℕ → Flow → List SourceAt
sources to flow = sources_from flow.chain.flow 1 flow.chain.places ++ write_source (last_place flow + 1) to

-- with the windows of so much room, and a peer that takes so much in one frame, where no gate has a say
abbrev pub ungated : ℤ → ℕ → Flow → FlowState
ungated room frame flow = record {
  quantum = flow.chain.quantum;
  frame = min frame (octets_of room);
  count = 0;
  last = last_place flow;
  kinds = map (λ place. kind_of place.kind) flow.chain.places;
  len = λ p. length (octets_in flow p);
  limit = limit_at flow.chain;
  tokens = λ p. option_map_or (λ place. place.tokens) (place_at flow.chain.places p) 0;
  sources = [];
  is_above = λ b. false;
  ended = flow.message.ended;
  end_framed = flow.message.end_framed;
  head_waits = head_waits flow.message;
  head_ends = flow.message.head_ends;
  trailers_wait = trailers_wait flow.message;
}

-- with the count and the marks of the gates, on its way to a connection or none
abbrev pub state_of : Board → Option ℕ → ℤ → ℕ → Flow → FlowState
state_of board to room frame flow = record (ungated room frame flow) {
  count = count board flow.chain.flow;
  sources = sources to flow;
  is_above = is_marked board;
}

-- as its moves see it, which no window holds back
abbrev pub gated : Board → Option ℕ → Flow → FlowState
gated board to flow = state_of board to (pos 0) 0 flow
