use Rattle.std.specs.BTreeMap.{get}
use Rattle.std.specs.Ordering.{nat_cmp}
use Rattle.std.specs.Prelude.{Bool, None, Option, Some, false, is_some, not, true, ◌≡◌}
use Rattle.plain_core.specs.Ready.{IsFirst, IsIdle}
use Rattle.plain_core.specs.declared.conn.Connection.{Connection}
use Rattle.exchange_core.specs.declared.step.Piece.{Piece}
use Rattle.plain_core.specs.declared.flows.NextFrame.{NextFrame}
use Rattle.plain_core.proofs.conn.Connection.is_idle.Goals as goal

not_both : (o : Option Piece) (p : Piece) → o ≡ Some p → o ≡ None → ⊥
not_both None p e f = cc
not_both (Some q) p e f = cc

idle : (conn : Connection) (first : Option NextFrame) (answer : Bool) → IsFirst conn first → is_some first ≡ not answer → IsIdle conn answer
idle conn None true f e = record { none = λ t. f; some = λ t n. cc }
idle conn None false f e = cc
idle conn (Some next) true f e = cc
idle conn (Some next) false f e = record { none = λ t. cc; some = λ t n. not_both (get nat_cmp conn.ready next.exchange) (record { n = next.n; last = next.last }) f.ready (n next.exchange) }

pub returns : goal.returns
returns c = idle c.args.self.now c.first.result c.is_none.result c.first.ensures c.is_none.ensures
