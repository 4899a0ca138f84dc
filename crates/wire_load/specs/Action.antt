-- Which state an overload action has.
use Rattle.std.specs.Prelude.{ℕ}
use Rattle.overload_core.specs.declared.actions.Actions.{Actions}
use Rattle.wire_load.specs.declared.load.Action.{Action}
use Rattle.wire_load.specs.declared.load.Action.TheVariants.{StopRequests, StopAccepting, RejectIncoming, NoKeepalive, ReduceTimeouts, ResetStreams}

abbrev pub state_of : Actions → Action → ℕ
state_of a StopRequests = a.stop_requests
state_of a StopAccepting = a.stop_accepting
state_of a RejectIncoming = a.reject_incoming
state_of a NoKeepalive = a.no_keepalive
state_of a ReduceTimeouts = a.reduce_timeouts
state_of a ResetStreams = a.reset_streams
