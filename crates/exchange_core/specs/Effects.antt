-- What each call makes of the flow that it names.
use Rattle.exchange_core.specs.Flow.{Flow}
use Rattle.exchange_core.specs.Message.{end_framed_if, ended_with, headed as message_headed, list_framed as message_list_framed}
use Rattle.exchange_core.specs.declared.step.Received.{Received}
use Rattle.exchange_core.specs.declared.step.Received.TheVariants.{Arrived, NotLive, TooMany}
use Rattle.filter_chain.specs.Effects.{finished as chain_finished, framed, offered, released, ticked as chain_ticked}
use Rattle.hpack_codec.specs.declared.fields.Field.{Field}
use Rattle.std.specs.Prelude.{Bool, List, None, Option, Some, drop, if◌then◌else◌, length, nat_le, suc, take, zero, ℕ, ◌+◌, ◌++◌, ◌==◌}

-- the stages are told of the end, with the receive buffer empty or not
abbrev pub end_came : Flow → Flow
end_came flow = record flow { chain = chain_finished flow.chain (length flow.recv == 0) }

-- the head came, with the flow's end or without
abbrev pub headed : List Field → Bool → Flow → Flow
headed fields last flow =
    let told = if last then end_came flow else flow in
    record told { message = message_headed fields last flow.message }

-- octets came into the receive buffer
abbrev pub arrived : List ℕ → Flow → Flow
arrived octets flow = record flow { recv = flow.recv ++ octets }

-- what becomes of n octets that come for a flow
abbrev pub received_by : ℕ → Option Flow → Received
received_by n None = NotLive
received_by n (Some flow) = if nat_le (length flow.recv + n) flow.window then Arrived else TooMany

-- and what they make of the flow
abbrev pub received : List ℕ → Flow → Flow
received octets flow = if nat_le (length flow.recv + length octets) flow.window then arrived octets flow else flow

-- the flow's end came, with trailers or without
abbrev pub finished : Option (List Field) → Flow → Flow
finished trailers flow = record (end_came flow) { message = ended_with trailers flow.message }

-- the first n octets of place p went to the next place
abbrev pub moved : ℕ → ℕ → Flow → Flow
moved zero n flow = record flow {
  recv = drop n flow.recv;
  chain = offered flow.chain (take n flow.recv) (length (drop n flow.recv) == 0);
}
moved (suc p) n flow = record flow { chain = released flow.chain (suc p) n }

-- the list that goes next was framed
abbrev pub list_framed : Bool → Flow → Flow
list_framed last flow = record flow { message = message_list_framed last flow.message }

-- the first n octets of the send buffer were framed
abbrev pub body_framed : ℕ → Bool → Flow → Flow
body_framed n last flow = record flow { chain = framed flow.chain n; message = end_framed_if last flow.message }

-- the Meters went on to this moment
abbrev pub ticked : ℕ → Flow → Flow
ticked now flow = record flow { chain = chain_ticked flow.chain now }
