use Rattle.flow_gate.proofs.gates.Gates.watcher.Goals as goal
use Rattle.flow_rules.specs.declared.ids.FlowId.{FlowId}
use Rattle.std.proofs.Common.{ap, refl, sym, ◌∙◌}
use Rattle.std.proofs.lemmas.Iterator.Adapters.{option_map_id}
use Rattle.std.proofs.lemmas.Iterator.Consumers.{YieldsList-from_first, nth_from_yields_List}
use Rattle.std.specs.List.{slice_get}
use Rattle.std.specs.Prelude.{List}

pub returns : goal.returns
returns c =
    sym (option_map_id c.nth.result)
    ∙ nth_from_yields_List c.nth.result c.nth.new.self c.args.i c.nth.ensures.ran (YieldsList-from_first (λ (f : FlowId). f) (λ (fs : List FlowId). fs) c.watchers.result refl)
    ∙ ap (λ xs. slice_get xs c.args.i) c.watchers.ensures
