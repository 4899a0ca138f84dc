use Rattle.h2_windows.specs.RecvWindow.{Receiving}
use Rattle.std.proofs.Common.{ap, refl, sym}
use Rattle.std.proofs.lemmas.Bool.{leb-true}
use Rattle.wire_windows.proofs.Keeping.{kept_came, when_ok}
use Rattle.wire_windows.proofs.recv_windows.RecvWindows.came.Goals as goal
use Rattle.wire_windows.specs.RecvWindows.{left_in}

pub invariant_of-self-then-receive : goal.invariant_of-self-then-receive
invariant_of-self-then-receive c =
    let counts = when_ok _ c.received.result (sym c.if-is_err.ensures.value) c.received.ensures.ok in
    kept_came c.self.inside c.self.invariant c.args.x c.args.n c.received.new.self c.receive.new.streams
    (leb-true c.args.n (left_in c.args.x c.self.inside.streams) (sym c.if-receive.ensures.fits)) (ap (λ (w : Receiving). w.held) counts) c.received.ensures.whole (c.if-receive.ensures.ok refl)

pub returns-then-receive-clause-sound : goal.returns-then-receive-clause-sound
returns-then-receive-clause-sound c = (invariant_of-self-then-receive c).sound
