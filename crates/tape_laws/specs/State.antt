-- A flow of a history as the record that decides what goes on.
use Rattle.flow_rules.specs.declared.ids.FlowId.{FlowId}
use Rattle.flow_rules.specs.State.{FlowState}
use Rattle.std.specs.Prelude.{length}
use Rattle.tape_laws.specs.Ends.{end_framed}
use Rattle.tape_laws.specs.History.{History}
use Rattle.tape_laws.specs.Pauses.{count, place_buffer}
use Rattle.tape_laws.specs.Setup.{Setup}
use Rattle.tape_laws.specs.Sources.{kinds, sources}
use Rattle.tape_laws.specs.Tokens.{rate_at, tokens}
use Rattle.tape_laws.specs.Watermark.{above, limit}
use Rattle.tape_laws.specs.World.{last_place, place}

abbrev pub state_of : {Mark : Type 0} → Setup Mark → FlowId → History Mark → FlowState
state_of setup f past = record {
  quantum = setup.quantum;
  frame = setup.carries f past;
  count = count f past;
  last = last_place setup f past;
  kinds = kinds setup f past;
  len = λ p. length (place setup f p past);
  limit = λ p. limit setup (place_buffer setup f p past) past;
  tokens = λ p. tokens f p (rate_at (setup.stages f past) p) past;
  sources = sources setup f past;
  is_above = λ b. above setup b past;
  ended = setup.ended f past;
  end_framed = end_framed setup f past;
  head_waits = setup.head_waits f past;
  head_ends = setup.head_ends f past;
  trailers_wait = setup.trailers_wait f past;
}
