use Rattle.std.proofs.Common.{ℕ, ap, ◌∙◌}
use Rattle.std.specs.Prelude.{is_some}
use Rattle.wire_timers.specs.Kinds.{number_of}
use Rattle.wire_timers.specs.Armed.{is_armed}
use Rattle.wire_timers.specs.Held.{find_in}
use Rattle.wire_timers.proofs.Seeing.{seen-any}
use Rattle.wire_timers.proofs.timers.WireTimers.is_armed.Goals as goal

pub returns : goal.returns
returns c =
    let find = find_in c.self.inside.tokens in
    let h = c.self.invariant.found in
    c.has.ensures ∙ ap (λ (m : ℕ). is_some (find (m, c.args.id))) c.number.ensures.number
    ∙ ap is_some (h.same (number_of c.args.kind, c.args.id)) ∙ seen-any c.args.kind c.args.id c.self.inside.timers.armed h.known
    ∙ ap (is_armed c.args.kind c.args.id) c.self.view_is
