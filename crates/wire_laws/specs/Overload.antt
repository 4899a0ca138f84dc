-- The states of the overload actions in force, in parts per million.
use Rattle.overload_core.specs.ActionStates.{actions_at, all_off, is_saturated}
use Rattle.overload_core.specs.declared.actions.Actions.{Actions}
use Rattle.proxy_config.specs.declared.config.Config.{Config}
use Rattle.std.specs.Prelude.{Bool, [], ◌∷◌}
use Rattle.tape_laws.specs.History.{Noted}
use Rattle.wire_laws.specs.Marks.{WireHistory}
use Rattle.flow_notes.specs.declared.events.Event.TheVariants as event
use Rattle.flow_notes.specs.declared.notes.Note.TheVariants as note

-- those of the pressures that were obeyed last; before the first, every action is off
abbrev pub actions : Config → WireHistory → Actions
actions config [] = all_off
actions config (Noted (note.Turn k (event.Obey version pressures)) ∷ past) = actions_at config.overload.triggers pressures
actions config (step ∷ past) = actions config past

-- no requests are taken, no connection is taken, and connections are given up after an exchange
abbrev pub stops_requests : Config → WireHistory → Bool
stops_requests config past = is_saturated (actions config past).stop_requests

abbrev pub rejects_incoming : Config → WireHistory → Bool
rejects_incoming config past = is_saturated (actions config past).reject_incoming

abbrev pub gives_up_keepalive : Config → WireHistory → Bool
gives_up_keepalive config past = is_saturated (actions config past).no_keepalive
