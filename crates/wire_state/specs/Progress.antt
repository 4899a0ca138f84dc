-- How much is still to do: a number that each small step lessens. Each octet that came has its way ahead, each unit that waits
-- or is due is to be framed, each live exchange and each open connection may still end, and each task has its weight.
use Rattle.std.specs.FinMap.{values as values_in}
use Rattle.std.specs.List.{sum_by}
use Rattle.std.specs.Map.{values_of}
use Rattle.std.specs.Prelude.{List, if◌then◌else◌, length, ℕ, ◌*◌, ◌+◌, ◌-◌, ◌^◌}
use Rattle.wire_flows.specs.Measure.{to_go as flows_go}
use Rattle.wire_state.specs.declared.agenda.Task.{Task}
use Rattle.wire_state.specs.declared.agenda.Task.TheVariants as task
use Rattle.wire_state.specs.declared.conn.Conn.{Conn}
use Rattle.wire_state.specs.declared.wire_core.WireCore.{WireCore}
use Rattle.wire_windows.specs.RecvWindows.{RecvWindows}
use Rattle.wire_windows.specs.declared.recv_stream.RecvStream.{RecvStream}

-- what a task may still begin
abbrev pub task_go : Task → ℕ
task_go (task.AskDrain c) = 2
task_go (task.Drain c) = 1
task_go (task.AskRun course) = 7
task_go (task.Run course tried) = if tried then 1 else 6
task_go (task.End x) = 1
task_go (task.Doom x cause) = 1
task_go (task.Close c code cause) = 1
task_go (task.Losses c last) = 1
task_go (task.Read c) = 4
task_go (task.Waste c stream n) = 2
task_go (task.Ticks x back) = 32 * (2 ^ 64 - x) + (if back then 1 else 17)
task_go task.Fires = 2
task_go task.Fire = 1
task_go (task.Resets n) = n + 1
task_go (task.Drains c) = 8 * (2 ^ 32 - c) + 1

abbrev pub tasks_go : List Task → ℕ
tasks_go tasks = sum_by task_go tasks

-- the octets that a stream took and isn't granted again
abbrev pub used : RecvStream → ℕ
used s = s.window.held + s.window.owed

-- the octets that may still be granted
unfoldable pub credit_go : RecvWindows → ℕ
credit_go w = w.first + ((w.conn.held + w.conn.owed) + sum_by used (values_in w.streams))

-- it may be closed, octets aren't read, units wait, and there is credit
unfoldable pub conn_go : Conn → ℕ
conn_go conn =
    (if conn.open then 4 else 0) + (512 * length conn.inlet.unread + (4 * length conn.outlet.waiting + 4 * credit_go conn.windows.recv))

unfoldable pub conns_go : List (ℕ × Conn) → ℕ
conns_go conns = sum_by conn_go (values_of conns)

unfoldable pub to_go : WireCore → ℕ
to_go core =
    flows_go core.flows + (conns_go core.conns.entries + (tasks_go core.agenda
    + (length core.timers.armed + (length core.due + length core.stirred.conns.items))))
