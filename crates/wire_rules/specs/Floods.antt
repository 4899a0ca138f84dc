-- When a peer floods its connection: a unit came for a full waiting list, or a client resets more streams than it may.
use Rattle.proxy_config.specs.declared.config.Config.{Config}
use Rattle.std.specs.Prelude.{Bool, List, [], if◌then◌else◌, nat_lt, ℕ, ◌&&◌, ◌+◌, ◌==◌, ◌∷◌}
use Rattle.tape_laws.specs.History.{Marked, Noted}
use Rattle.tape_laws.specs.Units.{Demand, WantsClose}
use Rattle.wire_laws.specs.Marks.{Took, WireHistory, WireStep}
use Rattle.wire_laws.specs.Peers.{is_client}
use Rattle.wire_laws.specs.Streams.{comes_from}
use Rattle.wire_laws.specs.Waiting.{overflows}
use Rattle.flow_rules.specs.declared.causes.Cause.TheVariants as cause
use Rattle.flow_notes.specs.declared.notes.CloseCause.TheVariants as closed
use Rattle.flow_notes.specs.declared.notes.Note.TheVariants as note
use Rattle.h2_session.specs.declared.act.Act.TheVariants as act

abbrev pub resets_from : ℕ → WireHistory → ℕ
resets_from c [] = 0
resets_from c (Marked (Took d frame (act.PeerReset s code) reading) ∷ past) = (if d == c then 1 else 0) + resets_from c past
resets_from c (step ∷ past) = resets_from c past

-- the exchanges from the connection that were done
abbrev pub done_from : ℕ → WireHistory → ℕ
done_from c [] = 0
done_from c (Noted (note.Doom x cause.Done) ∷ past) = (if comes_from c x past then 1 else 0) + done_from c past
done_from c (step ∷ past) = done_from c past

-- the client reset more streams than are allowed beside its exchanges that were done
abbrev pub resets_too_many : Config → ℕ → WireHistory → Bool
resets_too_many config c past = is_client c past && nat_lt (config.limits.peer_resets + done_from c past) (resets_from c past)

-- the connection is closed where the step put a unit on its full list
abbrev pub close_if_flooded : Config → ℕ → WireStep → WireHistory → List Demand
close_if_flooded config c step past = if overflows config c step past then WantsClose c 11 closed.Flood ∷ [] else []
