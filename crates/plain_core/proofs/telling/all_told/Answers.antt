-- All are told, and none goes on.
use Rattle.flow_gate.specs.Board.{pending_on}
use Rattle.std.proofs.Common.{ap, refl, ◌∙◌}
use Rattle.std.proofs.lemmas.List.{append-nil}
use Rattle.std.specs.Prelude.{[], length}
use Rattle.plain_core.proofs.Resumes.{all_still, none_wakes}
use Rattle.flow_rules.specs.declared.ids.BufferId.TheVariants as buffer
use Rattle.plain_core.proofs.telling.all_told.Goals as goal

pub returns : goal.returns
returns c =
    let lows = pending_on c.args.flows.now.gates (buffer.Write 0) in
    none_wakes c.args.flows.now lows [] c.len.result (append-nil lows) refl (all_still c.args.flows.now lows c.requires)
    (c.len.ensures ∙ ap length c.lows.ensures)
