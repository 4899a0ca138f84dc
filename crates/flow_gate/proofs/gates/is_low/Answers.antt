use Rattle.flow_gate.proofs.Watching.{any_watch, eq_of, low_among}
use Rattle.flow_gate.proofs.gates.is_low.Goals as goal
use Rattle.flow_gate.specs.Parts.{watched_in}
use Rattle.flow_gate.specs.declared.watcher.Watch.{Watch}
use Rattle.std.proofs.Common.{rules, sym, tests, ◌∙◌}
use Rattle.std.proofs.lemmas.Iterator.{YieldsList-from_slice}
use Rattle.std.proofs.lemmas.Iterator.Search.{any_from_yields_List}

pub returns-then-any : goal.returns-then-any
returns-then-any c = λ none. c.if-any.true ∙ low_among c.args.buffer (watched_in c.args.watches.now) c.args.buffers.now none (
    sym (any_from_yields_List (λ (w : Watch). eq_of w.buffer c.args.buffer) _ _ c.any.result c.any.ensures.ran (YieldsList-from_slice c.args.watches.now cc) (λ x b q k. search (rules, tests))
    ∙ any_watch c.args.buffer c.args.watches.now)
    ∙ c.if-any.true)
