-- What came for a flow, by the frames that were taken from its stream (RFC 9113 section 8.1).
use Rattle.flow_rules.specs.declared.ids.FlowId.{FlowId}
use Rattle.h2_frames.specs.Body.{stream_body}
use Rattle.h2_frames.specs.Frame.{Frame}
use Rattle.h2_heads.specs.Heads.{is_interim}
use Rattle.h2_session.specs.declared.act.Act.{Act}
use Rattle.hpack_codec.specs.declared.fields.Field.{Field}
use Rattle.std.specs.Option.{option_map_or}
use Rattle.std.specs.Prelude.{Bool, List, None, Option, Some, [], false, if◌then◌else◌, not, ℕ, ◌&&◌, ◌++◌, ◌==◌, ◌||◌, ◌∷◌}
use Rattle.tape_laws.specs.Flows.{same_flow}
use Rattle.tape_laws.specs.History.{Marked}
use Rattle.tape_laws.specs.Units.{HeadOf, TrailersOf}
use Rattle.wire_laws.specs.Marks.{Fields, Picked, Took, WireHistory}
use Rattle.wire_laws.specs.Streams.{conn_from, stream_from}
use Rattle.h2_session.specs.declared.act.Act.TheVariants as act

-- the frames that were taken from a connection, in their order
abbrev pub taken : ℕ → WireHistory → List Frame
taken c [] = []
taken c (Marked (Took d frame a reading) ∷ past) = taken c past ++ (if d == c then frame ∷ [] else [])
taken c (step ∷ past) = taken c past

-- the head of a message: its fields, and whether it ends its stream
pub record MessageHead : Type 0 where
  pub fields : List Field
  pub last : Bool

-- the head that came on a stream; interim responses are dropped
abbrev pub head_came : ℕ → ℕ → WireHistory → Option MessageHead
head_came c s [] = None
head_came c s (Marked (Took d frame (act.Head t block last) (Fields fields)) ∷ past) =
    if (d == c) && (t == s) && not (is_interim fields) then Some (record { fields = fields; last = last }) else head_came c s past
head_came c s (step ∷ past) = head_came c s past

-- the trailers that came on a stream
abbrev pub trailers_came : ℕ → ℕ → WireHistory → Option (List Field)
trailers_came c s [] = None
trailers_came c s (Marked (Took d frame (act.Trailers t block) (Fields fields)) ∷ past) =
    if (d == c) && (t == s) then Some fields else trailers_came c s past
trailers_came c s (step ∷ past) = trailers_came c s past

-- the act ends the peer's side of the stream
abbrev pub ends_stream : ℕ → Act → Bool
ends_stream s (act.Head t block last) = (t == s) && last
ends_stream s (act.Body t octets padded last) = (t == s) && last
ends_stream s (act.Trailers t block) = t == s
ends_stream s a = false

-- the end came on a stream
abbrev pub end_came : ℕ → ℕ → WireHistory → Bool
end_came c s [] = false
end_came c s (Marked (Took d frame a reading) ∷ past) = ((d == c) && ends_stream s a) || end_came c s past
end_came c s (step ∷ past) = end_came c s past

-- the same of a flow, by the stream that it comes from
abbrev pub at_source : {A : Type 0} → (ℕ → ℕ → WireHistory → A) → A → FlowId → WireHistory → A
at_source what otherwise f past = option_map_or (λ c. what c (stream_from f past) past) (conn_from f past) otherwise

abbrev pub head_of : FlowId → WireHistory → Option MessageHead
head_of f past = at_source head_came None f past

abbrev pub trailers_of : FlowId → WireHistory → Option (List Field)
trailers_of f past = at_source trailers_came None f past

abbrev pub flow_ended : FlowId → WireHistory → Bool
flow_ended f past = at_source end_came false f past

abbrev pub flow_body : FlowId → WireHistory → List ℕ
flow_body f past = at_source (λ c s now. stream_body s (taken c now)) [] f past

-- the flow's head was framed, or its trailers
abbrev pub head_framed : FlowId → WireHistory → Bool
head_framed f [] = false
head_framed f (Marked (Picked c (HeadOf g)) ∷ past) = same_flow g f || head_framed f past
head_framed f (step ∷ past) = head_framed f past

abbrev pub trailers_framed : FlowId → WireHistory → Bool
trailers_framed f [] = false
trailers_framed f (Marked (Picked c (TrailersOf g)) ∷ past) = same_flow g f || trailers_framed f past
trailers_framed f (step ∷ past) = trailers_framed f past
