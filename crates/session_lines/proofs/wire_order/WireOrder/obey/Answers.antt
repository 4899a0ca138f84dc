-- A version comes after those before it, with a pressure for each resource.
use Rattle.std.proofs.Common.{arith, refl}
use Rattle.session_lines.proofs.WireFollowing.{obeyed_late, obeyed_on}
use Rattle.session_lines.proofs.wire_order.WireOrder.obey.Goals as goal

pub returns-then-version-self : goal.returns-then-version-self
returns-then-version-self c = obeyed_late c.args.self.now c.args.version c.args.pressures.now (omega arith)

pub returns : goal.returns
returns c = obeyed_on c.args.self.now _ c.args.version c.args.pressures.now (omega arith) c.if-pressures-self.false refl refl refl refl refl
