-- The first flows that an iterator gives.
use Rattle.std.proofs.lemmas.Iterator.Consumers.{YieldsList-from_first}
use Rattle.std.proofs.lemmas.Iterator.{YieldsList-from_take}
use Rattle.std.specs.Prelude.{List, take}
use Rattle.flow_rules.specs.declared.ids.FlowId.{FlowId}
use Rattle.flow_notes.proofs.Rows.{all_appended}
use Rattle.flow_notes.proofs.notes.append_first.Goals as goal

pub returns-in-None-clause-ok : goal.returns-in-None-clause-ok
returns-in-None-clause-ok c = all_appended c.append.result c.args.list.now.items c.append.new.list.items (take c.args.n c.args.flows) c.append.ensures.ok (YieldsList-from_take c.args.n (YieldsList-from_first (λ (f : FlowId). f) (λ (fs : List FlowId). fs) c.args.flows c.take.ensures.source) c.take.ensures.count)
