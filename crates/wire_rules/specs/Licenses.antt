-- Each doom and each close has its cause in its own dispatch.
use Rattle.flow_rules.specs.declared.ids.FlowId.{FlowId}
use Rattle.flow_rules.specs.declared.causes.Cause.{Cause}
use Rattle.flow_notes.specs.declared.notes.CloseCause.{CloseCause}
use Rattle.proxy_config.specs.declared.config.Config.{Config}
use Rattle.std.specs.Prelude.{Bool, IsTrue, false, length, nat_le, not, ℕ, ◌&&◌, ◌==◌, ◌^◌, ◌||◌, ◌≡◌, ◌⊎◌}
use Rattle.tape_laws.specs.Dispatches.{before_dispatch}
use Rattle.tape_laws.specs.Ends.{end_framed}
use Rattle.tape_laws.specs.Flows.{request, response}
use Rattle.tape_laws.specs.History.{Noted}
use Rattle.tape_laws.specs.Order.{Flows, NextUnit, next_on}
use Rattle.tape_laws.specs.Pauses.{Heads}
use Rattle.tape_laws.specs.Units.{WantsClose, WantsDoom}
use Rattle.wire_laws.specs.Base.{is_open_conn}
use Rattle.wire_laws.specs.Draining.{draining}
use Rattle.wire_laws.specs.Marks.{WireHistory, WireStep}
use Rattle.wire_laws.specs.Replies.{is_too_large}
use Rattle.wire_laws.specs.Streams.{exchanges_of, next_stream_on}
use Rattle.wire_laws.specs.Waiting.{waiting_on}
use Rattle.wire_rules.specs.Owed.{owed}
use Rattle.wire_rules.specs.WireSetup.{wire_setup}
use Rattle.flow_rules.specs.declared.causes.Cause.TheVariants as cause
use Rattle.flow_notes.specs.declared.notes.CloseCause.TheVariants as closed
use Rattle.flow_notes.specs.declared.notes.Note.TheVariants as note
use Rattle.flow_rules.specs.declared.unit.Unit.TheVariants as unit

-- the end of the flow was framed, and in this dispatch
abbrev pub end_is_framed : Config → FlowId → WireHistory → Bool
end_is_framed config f past = end_framed (wire_setup config) f past

abbrev pub end_framed_here : Config → FlowId → WireHistory → Bool
end_framed_here config f past = end_is_framed config f past && not (end_is_framed config f (before_dispatch past))

-- both ends are framed, the later in this dispatch
abbrev pub is_done : Config → ℕ → WireHistory → Bool
is_done config x past =
    end_is_framed config (request x) past && end_is_framed config (response x) past
    && (end_framed_here config (request x) past || end_framed_here config (response x) past)

-- the response's end was framed in this dispatch, and the request's isn't
abbrev pub is_early : Config → ℕ → WireHistory → Bool
is_early config x past = end_framed_here config (response x) past && not (end_is_framed config (request x) past)

-- the request's head is next on its connection, which has no stream number left for it (RFC 9113 section 5.1.1)
abbrev pub is_request_head : ℕ → NextUnit → Bool
is_request_head x (Flows f (unit.Head last)) = (f.exchange == x) && not f.back
is_request_head x next = false

abbrev pub has_no_stream : Config → ℕ → ℕ → WireHistory → Bool
has_no_stream config d x past = is_request_head x (next_on (wire_setup config) d past) && nat_le (2 ^ 31) (next_stream_on d past)

abbrev pub MayDoom : Config → ℕ → Cause → WireHistory → Type 0
MayDoom config x cause.Done past = IsTrue (is_done config x past)
MayDoom config x cause.EarlyEnd past = IsTrue (is_early config x past)
MayDoom config x cause.TooLarge past =
    IsTrue (is_too_large config (request x) past || is_too_large config (response x) past)
MayDoom config x (cause.ConnLost d) past =
    IsTrue (has_no_stream config d x past) ⊎ Heads (WantsDoom x (cause.ConnLost d)) (owed config past)
MayDoom config x why past = Heads (WantsDoom x why) (owed config past)

-- a connection that drains has no exchange left, and nothing waits on it
abbrev pub is_drained : Config → ℕ → WireHistory → Bool
is_drained config c past =
    draining config c past && (length (exchanges_of c past) == 0) && (length (waiting_on config c past) == 0)

abbrev pub MayClose : Config → ℕ → ℕ → CloseCause → WireHistory → Type 0
MayClose config c code closed.Drained past = (code ≡ 0) × IsTrue (is_drained config c past)
MayClose config c code why past = Heads (WantsClose c code why) (owed config past)

abbrev pub IsLicensed : Config → WireStep → WireHistory → Type 0
IsLicensed config (Noted (note.Doom x why)) past = MayDoom config x why past
IsLicensed config (Noted (note.Close c code why)) past = IsTrue (is_open_conn config c past) × MayClose config c code why past
IsLicensed config step past = Unit {0}

-- a response whose end was framed ends its exchange within the dispatch
abbrev pub wire_must_end : Config → ℕ → WireHistory → Bool
wire_must_end config x past = end_is_framed config (response x) past
