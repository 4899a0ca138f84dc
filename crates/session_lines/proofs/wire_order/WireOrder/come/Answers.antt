-- A connection comes in the order of the numbers.
use Rattle.std.proofs.Common.{arith, refl}
use Rattle.std.proofs.lemmas.Grind.{common_steps}
use Rattle.session_lines.proofs.WireFollowing.{came_late, came_on}
use Rattle.session_lines.proofs.wire_order.WireOrder.come.Goals as goal

pub returns-then-conn-self-clause-accept : goal.returns-then-conn-self-clause-accept
returns-then-conn-self-clause-accept c = (came_late c.args.self.now c.args.conn (omega arith)).accept

pub returns-then-conn-self-clause-join : goal.returns-then-conn-self-clause-join
returns-then-conn-self-clause-join c = (came_late c.args.self.now c.args.conn (omega arith)).join

pub returns-clause-accept : goal.returns-clause-accept
returns-clause-accept c = (came_on c.args.self.now _ c.args.conn (omega arith) refl refl refl refl (λ q. let h = c.in_ok-insert.ensures.updates.0 q in grind (arith, common_steps, h))).accept

pub returns-clause-join : goal.returns-clause-join
returns-clause-join c = (came_on c.args.self.now _ c.args.conn (omega arith) refl refl refl refl (λ q. let h = c.in_ok-insert.ensures.updates.0 q in grind (arith, common_steps, h))).join
