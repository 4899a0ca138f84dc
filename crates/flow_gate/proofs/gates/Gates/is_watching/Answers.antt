use Rattle.flow_gate.proofs.Watching.{any_watch, apart, eq_of, watching}
use Rattle.flow_gate.proofs.gates.Gates.is_watching.Goals as goal
use Rattle.flow_gate.specs.declared.watcher.Watch.{Watch}
use Rattle.std.proofs.Common.{refl, rules, sym, tests, ◌∙◌}
use Rattle.std.proofs.lemmas.Iterator.{YieldsList-from_slice}
use Rattle.std.proofs.lemmas.Iterator.Search.{any_from_yields_List}
use Rattle.std.specs.Prelude.{None, Some}

pub returns-in-Some : goal.returns-in-Some
returns-in-Some c = apart _ _ (
    any_from_yields_List (λ (w : Watch). eq_of w.buffer c.args.buffer) _ _ c.any.result c.any.ensures.ran (YieldsList-from_slice c.watches.result.now cc) (λ x b q k. search (rules, tests))
    ∙ any_watch c.args.buffer c.watches.result.now
    ∙ rw (← c.self.view_is) (watching c.args.flow c.args.buffer (Some c.in-Some.watcher.now) c.watches.result.now c.self.inside.flows c.self.inside.buffers
    c.in-Some.ensures.value (sym c.watches.ensures) c.self.invariant))

pub returns-in-None : goal.returns-in-None
returns-in-None c = apart _ _ (rw (← c.self.view_is) (watching c.args.flow c.args.buffer None _ c.self.inside.flows c.self.inside.buffers c.in-None.ensures.value refl c.self.invariant))
