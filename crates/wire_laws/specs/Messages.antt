-- How heads, trailers, replies and answers are spelled on the wire (RFC 9113 sections 6.2, 6.10 and 8.1).
use Rattle.flow_rules.specs.declared.ids.FlowId.{FlowId}
use Rattle.h2_frames.specs.Blocks.{block_frames, spellings}
use Rattle.h2_heads.specs.Replies.{status_list}
use Rattle.h2_session.specs.declared.act.Setting.{Setting}
use Rattle.hpack_codec.specs.Encoding.{encode_block}
use Rattle.hpack_codec.specs.declared.fields.Field.{Field}
use Rattle.proxy_config.specs.declared.config.Config.{Config}
use Rattle.std.specs.List.{list_any}
use Rattle.std.specs.Prelude.{Bool, IsSomeAnd, List, [], if◌then◌else◌, not, true, ℕ, ◌&&◌, ◌<◌, ◌==◌, ◌^◌, ◌||◌, ◌∷◌, ◌≡◌}
use Rattle.tape_laws.specs.History.{Marked, Noted}
use Rattle.tape_laws.specs.Units.{Control, Farewell, FramedUnit, HeadOf, Put, Reply, TrailersOf}
use Rattle.wire_laws.specs.Came.{head_of, trailers_of}
use Rattle.wire_laws.specs.ControlFrames.{goaway}
use Rattle.wire_laws.specs.Happenings.{goaway_number}
use Rattle.wire_laws.specs.Marks.{Picked, Took, WireHistory, WireStep}
use Rattle.wire_laws.specs.Streams.{down_stream, next_stream_on, stream_to}
use Rattle.flow_notes.specs.declared.notes.Note.TheVariants as note
use Rattle.h2_session.specs.declared.act.Act.TheVariants as act

-- the first block of a connection begins anew, and so does the first after its peer named a table size (RFC 7541 section 4.2)
abbrev pub names_table : List Setting → Bool
names_table list = list_any (λ p. p.id == 1) list

abbrev pub begins_anew : ℕ → WireHistory → Bool
begins_anew c [] = true
begins_anew c (Noted (note.Head d s octets) ∷ past) = not (d == c) && begins_anew c past
begins_anew c (Marked (Took d frame (act.Settings list) reading) ∷ past) = ((d == c) && names_table list) || begins_anew c past
begins_anew c (step ∷ past) = begins_anew c past

-- a field list in the encoder's one spelling, in HEADERS and as many CONTINUATION frames as it needs
abbrev pub message_octets : ℕ → ℕ → Bool → List Field → WireHistory → List ℕ
message_octets c s last fields past = spellings (block_frames s last (encode_block (begins_anew c past) fields))

-- the stream of a head: the client's own, or the next towards a cluster
abbrev pub head_stream : ℕ → FlowId → WireHistory → ℕ
head_stream c f past = if f.back then down_stream f.exchange past else next_stream_on c past

-- a header block that was picked: a head and trailers have the fields that came, in the same order, and a reply its status alone
abbrev pub IsBlockOf : ℕ → ℕ → List ℕ → FramedUnit → WireHistory → Type 0
IsBlockOf c s octets (HeadOf f) past = (s ≡ head_stream c f past) × (s < 2 ^ 31)
    × IsSomeAnd (head_of f past) (λ head. octets ≡ message_octets c s head.last head.fields past)
IsBlockOf c s octets (TrailersOf f) past = (s ≡ stream_to f past)
    × IsSomeAnd (trailers_of f past) (λ fields. octets ≡ message_octets c s true fields past)
IsBlockOf c s octets (Put (Reply t status)) past = (s ≡ t) × (octets ≡ message_octets c s true (status_list status) past)
IsBlockOf c s octets u past = ⊥

-- a control frame that was picked
abbrev pub IsControlOf : Config → ℕ → List ℕ → FramedUnit → WireHistory → Type 0
IsControlOf config c octets (Put (Control control)) past = octets ≡ control
IsControlOf config c octets (Farewell code why) past = octets ≡ goaway (goaway_number config c past) code
IsControlOf config c octets u past = ⊥

-- a head or answer note spells the unit that was picked just before, for its connection
abbrev pub SpellsUnit : Config → WireStep → WireHistory → Type 0
SpellsUnit config (Noted (note.Head c s octets)) (Marked (Picked d u) ∷ past) = (c ≡ d) × IsBlockOf c s octets u past
SpellsUnit config (Noted (note.Answer c octets)) (Marked (Picked d u) ∷ past) = (c ≡ d) × IsControlOf config c octets u past
SpellsUnit config (Noted (note.Head c s octets)) past = ⊥
SpellsUnit config (Noted (note.Answer c octets)) past = ⊥
SpellsUnit config step past = Unit {0}
