-- What of a flow is framed next: its head, then its body, then its trailers (RFC 9113 section 8.1).
use Rattle.exchange_core.specs.Flow.{Flow, octets_in, send}
use Rattle.exchange_core.specs.Message.{fields_of, head_waits, trailers_wait}
use Rattle.exchange_core.specs.State.{ungated}
use Rattle.flow_rules.specs.declared.unit.Unit.{Unit as NextUnit}
use Rattle.flow_rules.specs.declared.unit.Unit.TheVariants.{Nothing, Head, Body, Trailers}
use Rattle.flow_rules.specs.Kinds.{all_empty}
use Rattle.flow_rules.specs.Units.{carried as most_carried, carries_end as is_end_with, ends_after as is_end_after, next_head as first_head, next_unit as first_unit}
use Rattle.std.specs.Prelude.{Bool, IsSome, IsTrue, false, length, not, pos, true, ℕ, ℤ, ◌&&◌, ◌==◌, ◌≡◌, ◌≤◌}

-- every place before p is empty
abbrev pub empty_before : Flow → ℕ → Bool
empty_before flow p = all_empty (λ q. length (octets_in flow q) == 0) p

-- the end came, and the first n octets of the send buffer are the last
abbrev pub ends_after : ℕ → Flow → Bool
ends_after n flow = is_end_after (ungated (pos 0) 0 flow) n

-- a frame of n octets carries END_STREAM
abbrev pub carries_end : ℕ → Flow → Bool
carries_end n flow = is_end_with (ungated (pos 0) 0 flow) n

-- a list that is framed may carry END_STREAM: no body is left, and there are no trailers behind a head
abbrev pub list_may_end : Flow → Bool
list_may_end flow = ends_after 0 flow && not (head_waits flow.message && trailers_wait flow.message)

-- what a DATA frame may carry, the head that waits, where it may go, and the flow's next unit
abbrev pub carried : ℤ → ℕ → Flow → ℕ
carried room frame flow = most_carried (ungated room frame flow)

abbrev pub next_head : Flow → NextUnit
next_head flow = first_head (ungated (pos 0) 0 flow)

abbrev pub next_unit : ℤ → ℕ → Flow → NextUnit
next_unit room frame flow = first_unit (ungated room frame flow)

-- it may be framed as it stands: a list that came, or octets that lie in the send buffer, with the end only where nothing
-- is left
abbrev pub IsFrameable : NextUnit → Flow → Type 0
IsFrameable Nothing flow = Unit {0}
IsFrameable (Head last) flow = IsSome (fields_of flow.message) × (last ≡ true → IsTrue (list_may_end flow))
IsFrameable (Body n last) flow = (head_waits flow.message ≡ false) × (n ≤ length (send flow)) × (last ≡ true → IsTrue (carries_end n flow))
IsFrameable Trailers flow = IsSome (fields_of flow.message) × IsTrue (list_may_end flow)
