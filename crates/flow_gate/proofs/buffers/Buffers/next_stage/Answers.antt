use Rattle.flow_gate.proofs.ByBuffer.{read}
use Rattle.flow_gate.proofs.Orders.{stage_cmp}
use Rattle.flow_gate.proofs.Stages.{no_stages, stage_at, stage_in_range, stage_later, stages_before}
use Rattle.flow_gate.proofs.buffers.Buffers.next_stage.Goals as goal
use Rattle.flow_gate.proofs.buffers.Buffers.next_stage.Goals.{After-stage_of}
use Rattle.flow_gate.specs.Line.{Line}
use Rattle.flow_gate.specs.Named.{all_of, as_buffer}
use Rattle.flow_gate.specs.Parts.{bound_after, buffer_at}
use Rattle.flow_rules.specs.declared.ids.BufferId.TheVariants.{Stage}
use Rattle.flow_gate.specs.declared.buffers.StageId.{StageId}
use Rattle.std.proofs.Common.{ap, subst, sym, ◌∙◌}
use Rattle.std.specs.BTreeMap.Range.{IsEntryInRange, IsInRange, IsLeBy}
use Rattle.std.specs.List.{slice_get}
use Rattle.std.specs.Option.{IfSome, IsSome, is_some}
use Rattle.std.specs.Prelude.{Option}
use Rattle.std.specs.declared.ops.Bound.TheVariants.{Unbounded}

-- the gate of a stage, if it is known
abbrev known : After-stage_of → StageId → Option Line
known c s = buffer_at (all_of c.self.inside.writes.entries c.self.inside.recvs c.self.inside.stages.entries c.self.inside.sends) (as_buffer s)

-- the stage that is found lies in the range
inside : (c : After-stage_of) → IsInRange stage_cmp (bound_after c.args.flow c.args.after) Unbounded c.in_ok-stage.field-0-0.now
inside c = subst (λ from. IsInRange stage_cmp from Unbounded c.in_ok-stage.field-0-0.now) c.bound_after.ensures
    (subst (λ es. IfSome (slice_get es 0) (IsEntryInRange stage_cmp c.bound_after.result Unbounded c.self.inside.stages)) c.in_ok-stage.ensures.steps (c.range.ensures.in_range tt).1).0

-- and is the first there
first : (c : After-stage_of) (s : StageId) → IsInRange stage_cmp (bound_after c.args.flow c.args.after) Unbounded s → IsSome (known c s) → IsLeBy stage_cmp c.in_ok-stage.field-0-0.now s
first c s here some = subst (λ es. IfSome (slice_get es 0) (λ e. IsLeBy stage_cmp e.0 s)) c.in_ok-stage.ensures.steps
    ((c.range.ensures.in_range tt).2 s (subst (λ from. IsInRange stage_cmp from Unbounded s) (sym c.bound_after.ensures) here)
    (ap is_some (sym (read (as_buffer s) c.self.inside.writes.entries c.self.inside.recvs c.self.inside.stages.entries c.self.inside.sends)) ∙ some))

pub returns-in_err-stage-clause-none : goal.returns-in_err-stage-clause-none
returns-in_err-stage-clause-none c = rw (c.from_residual.ensures, ← c.self.view_is) (λ j later.
    read (Stage c.args.flow j) c.self.inside.writes.entries c.self.inside.recvs c.self.inside.stages.entries c.self.inside.sends
    ∙ (c.range.ensures.in_range tt).5 c.in_err-stage.ensures.steps.0 (stage_at c.args.flow j)
    (subst (λ from. IsInRange stage_cmp from Unbounded (stage_at c.args.flow j)) (sym c.bound_after.ensures) (stage_in_range c.args.flow c.args.after j later)))

pub returns-clause-later : goal.returns-clause-later
returns-clause-later c = rw c.stage_of.ensures (stage_later c.args.flow c.args.after c.in_ok-stage.field-0-0.now (inside c))

pub returns-clause-first : goal.returns-clause-first
returns-clause-first c = rw (c.stage_of.ensures, ← c.self.view_is) (stages_before c.args.flow c.args.after c.in_ok-stage.field-0-0.now (known c) (first c))

pub returns-clause-none : goal.returns-clause-none
returns-clause-none c = rw (c.stage_of.ensures, ← c.self.view_is) (no_stages c.args.flow c.args.after c.in_ok-stage.field-0-0.now (known c) (first c) (inside c))
