use Rattle.std.specs.Prelude.{length, ◌≡◌}
use Rattle.wire_state.proofs.conn.Conn.next_due.Given as goal

abbrev pub invariant-loop-exchange : goal.invariant-loop-exchange
invariant-loop-exchange l = l.self ≡ record l.fn.self { credits = l.self.credits }

abbrev pub decreases-loop-exchange : goal.decreases-loop-exchange
decreases-loop-exchange l = length l.self.credits.items
