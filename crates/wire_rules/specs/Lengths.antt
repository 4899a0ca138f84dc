-- Whether a body is as long as its head declares (RFC 9110 section 8.6, RFC 9113 section 8.1.1).
use Rattle.flow_rules.specs.declared.ids.FlowId.{FlowId}
use Rattle.h2_heads.specs.Heads.{is_head, length_of, status_of}
use Rattle.hpack_codec.specs.declared.fields.Field.{Field}
use Rattle.std.specs.Option.{option_map_or}
use Rattle.std.specs.Prelude.{Bool, List, [], length, not, ℕ, ◌&&◌, ◌+◌, ◌||◌}
use Rattle.tape_laws.specs.Flows.{request}
use Rattle.wire_heads.specs.Lengths.{fits}
use Rattle.wire_heads.specs.Responses.{is_bodiless}
use Rattle.wire_heads.specs.declared.lengths.Expected.{Expected}
use Rattle.wire_laws.specs.Came.{flow_body, head_of}
use Rattle.wire_laws.specs.Marks.{WireHistory}

-- the fields of the head that came for a flow, none before it came
abbrev pub head_fields : FlowId → WireHistory → List Field
head_fields f past = option_map_or (λ head. head.fields) (head_of f past) []

-- a response to HEAD, and one of status 204 or 304, may be shorter than declared where it is empty
abbrev pub may_be_empty : FlowId → WireHistory → Bool
may_be_empty f past = f.back && (is_head (head_fields (request f.exchange) past) || is_bodiless (status_of (head_fields f past)))

-- what is expected of its body, with more octets than came so far
abbrev pub expected : FlowId → ℕ → WireHistory → Expected
expected f more past = record {
  declared = length_of (head_fields f past);
  body = length (flow_body f past) + more;
  bodiless = may_be_empty f past;
}

-- so many octets more don't fit, where they are the last or aren't
abbrev pub misfits : FlowId → Bool → ℕ → WireHistory → Bool
misfits f last more past = not (fits (expected f more past) last)
