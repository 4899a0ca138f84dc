-- Connections that take no further streams (RFC 9113 section 6.8).
use Rattle.proxy_config.specs.declared.config.Config.{Config}
use Rattle.std.specs.Prelude.{Bool, [], false, if◌then◌else◌, not, ℕ, ◌&&◌, ◌==◌, ◌||◌, ◌∷◌}
use Rattle.tape_laws.specs.History.{Marked, Noted}
use Rattle.wire_laws.specs.Base.{is_open_conn}
use Rattle.wire_laws.specs.Marks.{Drains, Took, WireHistory}
use Rattle.wire_laws.specs.Overload.{gives_up_keepalive}
use Rattle.wire_laws.specs.Peers.{is_client}
use Rattle.wire_laws.specs.Streams.{comes_from}
use Rattle.flow_notes.specs.declared.notes.Note.TheVariants as note
use Rattle.h2_session.specs.declared.act.Act.TheVariants as act

-- a cluster's GOAWAY came, or one was put for the client: by a job, or as an exchange of it was doomed while keep-alive is given up
abbrev pub draining : Config → ℕ → WireHistory → Bool
draining config c [] = false
draining config c (Marked (Took d frame (act.GoAway last code) reading) ∷ past) =
    ((d == c) && not (is_client c past)) || draining config c past
draining config c (Marked (Drains d) ∷ past) = (d == c) || draining config c past
draining config c (Noted (note.Doom x why) ∷ past) =
    (comes_from c x past && gives_up_keepalive config past && is_open_conn config c past) || draining config c past
draining config c (step ∷ past) = draining config c past

-- what stood before the connection began to drain
abbrev pub before_draining : Config → ℕ → WireHistory → WireHistory
before_draining config c [] = []
before_draining config c (step ∷ past) =
    let before = before_draining config c past in if draining config c past then before else past
