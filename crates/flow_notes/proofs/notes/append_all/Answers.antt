-- Flows that an iterator gives, all of them.
use Rattle.std.proofs.Common.{refl}
use Rattle.std.proofs.lemmas.Iterator.Consumers.{YieldsList-from_first}
use Rattle.std.specs.Prelude.{List}
use Rattle.flow_rules.specs.declared.ids.FlowId.{FlowId}
use Rattle.flow_notes.proofs.Rows.{all_appended}
use Rattle.flow_notes.proofs.notes.append_all.Goals as goal

pub returns-in-None-clause-ok : goal.returns-in-None-clause-ok
returns-in-None-clause-ok c = all_appended c.append.result c.args.list.now.items c.append.new.list.items c.args.flows c.append.ensures.ok (YieldsList-from_first (λ (f : FlowId). f) (λ (fs : List FlowId). fs) c.args.flows refl)
