use Rattle.std.proofs.Common.{ap, arith, refl, sym, ◌∙◌}
use Rattle.h2_windows.specs.RecvWindow.{Receiving}
use Rattle.std.specs.Prelude.{Bool, false, not, true, ◌&&◌, ◌≡◌}
use Rattle.wire_windows.proofs.Keeping.{kept_undue, whole_at}
use Rattle.wire_windows.proofs.recv_windows.RecvWindows.grant.Goals as goal
use Rattle.wire_windows.specs.Kept.{windows_of}
use Rattle.wire_windows.specs.RecvWindows.{is_due_stream}
use Rattle.wire_windows.specs.declared.recv_stream.RecvStream.{RecvStream}

never : (b : Bool) → (b && false) ≡ false
never true = refl
never false = refl

pub invariant_of-self : goal.invariant_of-self
invariant_of-self c =
    let is = whole_at (windows_of c.self.inside) c.self.invariant.sound c.args.x c.in-Some.stream (sym c.in-Some.ensures) in
    let t : RecvStream = record c.in-Some.stream { window = c.grant-granted.new.self } in
    let undue : is_due_stream t ≡ false = ap (λ (w : Receiving). let u : RecvStream = record c.in-Some.stream { window = w } in is_due_stream u) c.grant-granted.ensures.left ∙ never (not c.in-Some.stream.ended) in
    kept_undue c.self.inside c.self.invariant c.args.x c.in-Some.stream (sym c.in-Some.ensures) t c.set.new.self c.remove.new.self c.set.ensures
    (c.grant-granted.ensures.whole, ap (λ (w : Receiving). w.window) c.grant-granted.ensures.left ∙ is.1) (ap (λ (w : Receiving). w.held) c.grant-granted.ensures.left) undue
    (record { items = c.remove.ensures.members; len = omega (arith, c.remove.ensures.len) }) c.remove.ensures.room

pub returns-clause-sound : goal.returns-clause-sound
returns-clause-sound c = (invariant_of-self c).sound
