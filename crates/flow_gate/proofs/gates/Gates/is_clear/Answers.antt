use Rattle.flow_gate.proofs.Clear.{clear_by_both, clear_by_first, not_clear}
use Rattle.flow_gate.proofs.Reading.{open_found}
use Rattle.flow_gate.proofs.gates.Gates.is_clear.Goals as goal
use Rattle.std.proofs.Common.{ap, sym, ◌∙◌}
use Rattle.std.proofs.lemmas.Bool.{false≢true}
use Rattle.std.specs.Option.{is_some, option_copied}

pub unreachable-requires : goal.unreachable-requires
unreachable-requires c = false≢true
    (open_found c.self.inside.flows c.self.inside.buffers c.args.flow _ (ap is_some (ap option_copied (sym c.in_default.is) ∙ c.get.ensures.value)) ∙ (rw (← c.self.view_is) at c.requires))

pub returns-then-held_back-gt0 : goal.returns-then-held_back-gt0
returns-then-held_back-gt0 c = rw (← c.self.view_is) (
    not_clear c.args.flow c.in-Some.watcher.now c.watches-watches.result.now c.self.inside.flows c.self.inside.buffers c.held_back.result
    c.in-Some.ensures.value c.watches-watches.ensures c.self.invariant c.held_back.ensures _ c.if-held_back-gt0.true)

pub returns-then-is_low : goal.returns-then-is_low
returns-then-is_low c = rw (← c.self.view_is) (
    clear_by_both c.args.flow c.in-Some.watcher.now c.watches-watches.result.now c.self.inside.flows c.self.inside.buffers c.held_back.result
    c.in-Some.ensures.value c.watches-watches.ensures c.self.invariant c.held_back.ensures c.if-held_back-gt0.false
    c.args.first c.args.second c.is_low.result c.is_low-then-is_low.result c.is_low.ensures c.if-is_low.true c.is_low-then-is_low.ensures)

pub returns-else-is_low : goal.returns-else-is_low
returns-else-is_low c = rw (← c.self.view_is) (
    clear_by_first c.args.flow c.in-Some.watcher.now c.watches-watches.result.now c.self.inside.flows c.self.inside.buffers c.held_back.result
    c.in-Some.ensures.value c.watches-watches.ensures c.self.invariant c.held_back.ensures c.if-held_back-gt0.false
    c.args.first c.args.second c.is_low.result c.is_low.ensures c.if-is_low.false)
