use Rattle.h2_windows.specs.RecvWindow.{AddsUp, Receiving}
use Rattle.std.proofs.Common.{ap, arith, refl, subst, sym}
use Rattle.wire_windows.proofs.Keeping.{kept_first}
use Rattle.wire_windows.proofs.recv_windows.RecvWindows.new.Goals as goal

pub invariant_of-result : goal.invariant_of-result
invariant_of-result c = kept_first _ c.new-2.ensures c.new-3.ensures (subst AddsUp (sym c.new.ensures) (omega arith)) (ap (λ (w : Receiving). w.held) c.new.ensures) refl
