use Rattle.flow_gate.proofs.Leaving.{line_there, not_there}
use Rattle.flow_gate.proofs.gates.held_by.Goals as goal
use Rattle.flow_gate.specs.Line.{Line, at_place, held_in}
use Rattle.flow_gate.specs.Board.{times}
use Rattle.std.specs.Map.{values_of}
use Rattle.std.proofs.Common.{ap, subst, sym, ◌∙◌}
use Rattle.std.specs.Prelude.{Some, ◌≡◌, ◌≤◌}

pub returns-in-Some-clause-held : goal.returns-in-Some-clause-held
returns-in-Some-clause-held c = λ f line stands.
    let same : line ≡ c.in-Some.gate.now = line_there f c.args.watch line c.in-Some.gate.now c.args.buffers.now stands c.in-Some.ensures.value in
    c.held.ensures.held f (subst (λ (l : Line). at_place c.args.watch.place l.watchers ≡ Some f) same stands.here)
    (subst (λ (l : Line). times f (values_of l.watchers) ≤ 1) same stands.once) ∙ ap (held_in f) (sym same)

pub returns-in-None-clause-held : goal.returns-in-None-clause-held
returns-in-None-clause-held c = λ f line stands. absurd (not_there f c.args.watch line c.args.buffers.now stands c.in-None.ensures.value)
