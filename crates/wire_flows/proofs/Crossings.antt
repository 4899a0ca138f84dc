-- What the gates are told of a move and of a frame.
use Rattle.flow_gate.proofs.SameIds.{same_buffer-refl, same_buffer_exact}
use Rattle.flow_gate.specs.Board.{Board, IsSound as AreSoundGates, is_known, is_marked, is_open, pending_on, watched_by, watchers_of}
use Rattle.flow_gate.specs.Changes.{Drains, Rises, Same, Tells}
use Rattle.flow_gate.specs.Ids.{is_own, same_buffer, same_flow}
use Rattle.flow_rules.specs.declared.ids.BufferId.{BufferId}
use Rattle.flow_rules.specs.declared.ids.FlowId.{FlowId}
use Rattle.std.proofs.Common.{ap, arith, refl, subst, sym, ◌∙◌}
use Rattle.std.proofs.lemmas.List.{append-nil}
use Rattle.std.specs.Prelude.{Bool, IsNone, List, None, Option, Some, [], drop, false, if◌then◌else◌, length, not, option_to_list, slice_get, true, ℕ, ◌&&◌, ◌++◌, ◌+◌, ◌==◌, ◌||◌, ◌∷◌, ◌≡◌, ◌≤◌, ◌↔◌}
use Rattle.wire_flows.proofs.Boards.{left_of}
use Rattle.wire_flows.proofs.Cases.{by_case}
use Rattle.wire_flows.specs.Begins.{Crosses, DrainsIf, DrainsTo, RisesIf}
use Rattle.wm_buffer.specs.Watermark.{crossing}
use Rattle.wm_buffer.specs.declared.watermark.Crossed.{Crossed}
use Rattle.wire_flows.specs.Moves.{is_high, is_low}
use Rattle.flow_rules.specs.declared.ids.BufferId.TheVariants as buffer
use Rattle.wm_buffer.specs.declared.watermark.Crossed.TheVariants as crossed

pub high_of : (a b : Bool) → is_high (crossing a b) ≡ (not a && b)
high_of false true = refl
high_of true false = refl
high_of false false = refl
high_of true true = refl

pub low_of : (a b : Bool) → is_low (crossing a b) ≡ (a && not b)
low_of false true = refl
low_of true false = refl
low_of false false = refl
low_of true true = refl

-- ---- a drain, and who is told of it at once
-- ---- a rise and a drain together
risen : (rose : Bool) (b : BufferId) (old new : Board) → RisesIf rose b old new → Crosses rose b false b [] old new
risen true b old new r = record { flows = r.flows; watched = r.watched; buffers = r.buffers; watchers = r.watchers; marks = r.marks; pending = r.pending }
risen false b old new r = record {
  flows = λ f. ap (λ x. is_open x f) r;
  watched = λ f. ap (λ x. watched_by x f) r;
  buffers = λ d. ap (λ x. is_known x d) r;
  watchers = λ d. ap (λ x. watchers_of x d) r;
  marks = λ d. ap (λ x. is_marked x d) r;
  pending = λ d. ap (λ x. pending_on x d) r;
}

pub crosses : (rose : Bool) (b : BufferId) (drained : Bool) (c : BufferId) (lows : List FlowId) (old mid new : Board) → RisesIf rose b old mid → DrainsIf drained c lows mid new → Crosses rose b drained c lows old new
crosses rose b true c lows old mid new r d =
    let up = risen rose b old mid r in
    record {
      flows = λ f. d.flows f ∙ up.flows f;
      watched = λ f. d.watched f ∙ up.watched f;
      buffers = λ e. d.buffers e ∙ up.buffers e;
      watchers = λ e. d.watchers e ∙ up.watchers e;
      marks = λ e. d.marks e ∙ ap (λ m. not (same_buffer c e) && m) (up.marks e);
      pending = λ e. d.pending e ∙ ap (λ ps. if same_buffer c e then lows else ps) (up.pending e);
    }
crosses rose b false c lows old mid new r d =
    let up = risen rose b old mid r in
    record {
      flows = λ f. ap (λ x. is_open x f) d ∙ up.flows f;
      watched = λ f. ap (λ x. watched_by x f) d ∙ up.watched f;
      buffers = λ e. ap (λ x. is_known x e) d ∙ up.buffers e;
      watchers = λ e. ap (λ x. watchers_of x e) d ∙ up.watchers e;
      marks = λ e. ap (λ x. is_marked x e) d ∙ up.marks e;
      pending = λ e. ap (λ x. pending_on x e) d ∙ up.pending e;
    }
