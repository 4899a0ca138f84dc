-- What the gates are told of a frame: the write buffer's rise, and the send buffer's low, of which its flow is told at once.
use Rattle.flow_gate.specs.Board.{Board}
use Rattle.flow_gate.specs.Changes.{Drains, Rises, Tells}
use Rattle.flow_rules.specs.declared.ids.FlowId.{FlowId}
use Rattle.std.specs.Prelude.{Bool, [], false, true, ◌∷◌, ◌≡◌}
use Rattle.wm_buffer.specs.declared.watermark.Crossed.{Crossed}
use Rattle.wm_buffer.specs.declared.buffer.Shifted.{Shifted}
use Rattle.plain_core.specs.declared.flows.Framed.{Framed}
use Rattle.flow_rules.specs.declared.ids.BufferId.TheVariants as buffer
use Rattle.wm_buffer.specs.declared.watermark.Crossed.TheVariants as crossed

abbrev pub is_high : Crossed → Bool
is_high crossed.High = true
is_high c = false

abbrev pub is_low : Crossed → Bool
is_low crossed.Low = true
is_low c = false

-- the write buffer rose, or didn't
abbrev pub RisesIf : Bool → Board → Board → Type 0
RisesIf true old new = Rises (buffer.Write 0) old new
RisesIf false old new = new ≡ old

-- the flow's send buffer drained and the flow was told, or it didn't
pub record DrainsAndTells (f : FlowId) (old new : Board) : Type 0 where
  pub between : Board
  pub drains : Drains (buffer.Send f) old between
  pub tells : Tells (buffer.Send f) (f ∷ []) between new

abbrev pub DrainsIf : Bool → FlowId → Board → Board → Type 0
DrainsIf true f old new = DrainsAndTells f old new
DrainsIf false f old new = new ≡ old

pub record MarksCrossed (f : FlowId) (shifted : Shifted) (old : Board) (framed : Framed) (new : Board) : Type 0 where
  pub rose : framed.rose ≡ is_high shifted.to
  pub drained : framed.drained ≡ is_low shifted.from
  pub between : Board
  pub rises : RisesIf framed.rose old between
  pub drains : DrainsIf framed.drained f between new
