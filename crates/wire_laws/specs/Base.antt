-- A wire session as far as its flows go: each exchange has a request and a response, with the stages of its route.
use Rattle.flow_rules.specs.declared.ids.FlowId.{FlowId}
use Rattle.hpack_codec.specs.declared.fields.Field.{Field}
use Rattle.proxy_config.specs.declared.config.Config.{Config}
use Rattle.proxy_config.specs.declared.routes.Filter.{Filter}
use Rattle.proxy_config.specs.declared.routes.Route.{Route}
use Rattle.std.specs.Option.{option_and_then, option_map_or}
use Rattle.std.specs.Prelude.{Bool, List, None, Option, Some, [], false, flat_map, if◌then◌else◌, is_some, not, slice_get, ℕ, ◌&&◌, ◌==◌, ◌∷◌}
use Rattle.tape_laws.specs.Connections.{is_open}
use Rattle.tape_laws.specs.Flows.{request, response}
use Rattle.tape_laws.specs.History.{Noted}
use Rattle.tape_laws.specs.Setup.{Setup}
use Rattle.tape_laws.specs.Units.{Hold, Meter, StageKind}
use Rattle.wire_heads.specs.Requests.{row_of as row_number}
use Rattle.wire_laws.specs.Came.{flow_body, flow_ended, head_came, head_framed, head_of, trailers_framed, trailers_of}
use Rattle.wire_laws.specs.Marks.{WireHistory, WireMark, picked_by}
use Rattle.wire_laws.specs.SendWindows.{frame_room}
use Rattle.wire_laws.specs.Streams.{conn_from, conn_to, stream_to}
use Rattle.flow_notes.specs.declared.notes.Note.TheVariants as note
use Rattle.proxy_config.specs.declared.routes.Filter.TheVariants as filter

-- the route that a request head takes
abbrev pub route_of_head : Config → List Field → Option Route
route_of_head config fields = option_and_then (slice_get config.routes) (row_number config fields)

-- the route that the exchange took when it started; later heads don't change it
abbrev pub route_of : Config → ℕ → WireHistory → Option Route
route_of config x [] = None
route_of config x (Noted (note.Start y c s d) ∷ past) =
    if y == x then option_and_then (λ head. route_of_head config head.fields) (head_came c s past) else route_of config x past
route_of config x (step ∷ past) = route_of config x past

-- a Pass keeps no octets, and so is no stage
abbrev pub stage_of : Filter → List StageKind
stage_of filter.Pass = []
stage_of (filter.Hold limit) = Hold limit ∷ []
stage_of (filter.Meter limit rate) = Meter limit rate ∷ []

abbrev pub stages_of : Config → FlowId → WireHistory → List StageKind
stages_of config f past =
    option_map_or (λ route. flat_map stage_of (if f.back then route.response else route.request)) (route_of config f.exchange past) []

-- all but what waits besides the flows
abbrev pub wire_base : Config → Setup WireMark
wire_base config = record {
  recv = config.limits.stream_window;
  together = Some config.limits.connection_window;
  send = config.limits.send_buffer;
  write = config.limits.write_buffer;
  quantum = config.limits.quantum;
  overflow = config.limits.overflow_multiple;
  first_open = [];
  flows = λ x. request x ∷ response x ∷ [];
  stages = λ f past. stages_of config f past;
  comes_from = λ f past. conn_from f past;
  goes_to = λ f past. conn_to f past;
  stream = λ f past. stream_to f past;
  body = λ f past. flow_body f past;
  ended = λ f past. flow_ended f past;
  carries = λ f past. frame_room f past;
  head_waits = λ f past. is_some (head_of f past) && not (head_framed f past);
  head_ends = λ f past. option_map_or (λ head. head.last) (head_of f past) false;
  trailers_wait = λ f past. is_some (trailers_of f past) && not (trailers_framed f past);
  waiting = λ c past. [];
  grants = λ c past. [];
  picks = picked_by;
}

abbrev pub is_open_conn : Config → ℕ → WireHistory → Bool
is_open_conn config c past = is_open (wire_base config) c past
