-- A stream of a plain session as an exchange: no response, no head and no filters, so its octets lie in a receive buffer and
-- in a send buffer alone. It comes from connection 0 and goes there.
use Rattle.exchange_core.specs.Exchange.{flow_id}
use Rattle.exchange_core.specs.Flow.{Flow}
use Rattle.exchange_core.specs.Message.{empty_message}
use Rattle.exchange_core.specs.declared.exchange.Exchange.{Exchange}
use Rattle.exchange_core.specs.declared.start.StartSpec.{StartSpec}
use Rattle.filter_chain.specs.declared.stage.StageKind.TheVariants.{Send}
use Rattle.std.specs.Prelude.{Bool, List, None, Some, [], drop, false, length, take, true, ℕ, ◌++◌, ◌==◌, ◌||◌, ◌∷◌}
use Rattle.wm_buffer.specs.Watermark.{above_after, crossing}
use Rattle.wm_buffer.specs.declared.buffer.Shifted.{Shifted}
use Rattle.wm_buffer.specs.declared.watermark.Crossed.TheVariants.{Nothing}

pub record Plain : Type 0 where
  -- the room of the receive buffer, the limit of the send buffer, what one move carries, and the moment of its start
  pub window : ℕ
  pub limit : ℕ
  pub quantum : ℕ
  pub started : ℕ
  -- what lies in the receive buffer and in the send buffer, and whether that is above
  pub recv : List ℕ
  pub send : List ℕ
  pub above : Bool
  -- whether its end came, and whether that was framed
  pub ended : Bool
  pub end_framed : Bool
  -- whether the receive buffer was empty at the last move or, after that, at the end
  pub drained : Bool

abbrev pub plain_flow : ℕ → Plain → Flow
plain_flow x p = record {
  window = p.window;
  recv = p.recv;
  chain = record {
    flow = flow_id x false;
    quantum = p.quantum;
    started = p.started;
    time = p.started;
    ended = p.ended;
    recv_empty = p.drained;
    places = record { kind = Send; limit = p.limit; octets = p.send; above = p.above; tokens = 0 } ∷ [];
  };
  message = record empty_message { ended = p.ended; end_framed = p.end_framed };
  multiple = 0;
}

abbrev pub plain_exchange : ℕ → Plain → Exchange
plain_exchange x p = record { from_conn = 0; to_conn = Some 0; request = plain_flow x p; response = None }

-- ---- its start
abbrev pub plain_spec : ℕ → ℕ → ℕ → ℕ → ℕ → StartSpec
plain_spec x window limit quantum now = record {
  plain = true;
  from_conn = 0;
  from_stream = x;
  to_conn = Some 0;
  row = None;
  recv = window;
  send = limit;
  quantum = quantum;
  now = now;
}

abbrev pub plain_begun : ℕ → ℕ → ℕ → ℕ → Plain
plain_begun window limit quantum now = record {
  window = window;
  limit = limit;
  quantum = quantum;
  started = now;
  recv = [];
  send = [];
  above = false;
  ended = false;
  end_framed = false;
  drained = false;
}

-- ---- what becomes of it
-- the send buffer holds these octets
abbrev pub sending : List ℕ → Plain → Plain
sending octets p = record p { send = octets; above = above_after p.limit p.above (length octets) }

abbrev pub plain_arrived : List ℕ → Plain → Plain
plain_arrived octets p = record p { recv = p.recv ++ octets }

abbrev pub plain_finished : Plain → Plain
plain_finished p = record p { ended = true; drained = length p.recv == 0 }

-- the first n octets of the receive buffer went to the send buffer
abbrev pub plain_moved : ℕ → Plain → Plain
plain_moved n p = record (sending (p.send ++ take n p.recv) p) { recv = drop n p.recv; drained = length (drop n p.recv) == 0 }

-- the first n octets of the send buffer were framed, with the end or without
abbrev pub plain_framed : ℕ → Bool → Plain → Plain
plain_framed n last p = record (sending (drop n p.send) p) { end_framed = p.end_framed || last }

-- only the send buffer may cross its limit in a move
abbrev pub plain_crossed : ℕ → Plain → Shifted
plain_crossed n p = record { from = Nothing; to = crossing p.above (plain_moved n p).above }
