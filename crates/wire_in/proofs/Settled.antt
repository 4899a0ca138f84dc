-- A connection whose write buffer and waiting list are as they were.
use Rattle.proxy_config.specs.declared.config.LimitKeys.{LimitKeys}
use Rattle.std.proofs.Common.{ap, subst, sym, ◌∙◌}
use Rattle.std.specs.Prelude.{List, length, ◌≡◌, ◌≤◌}
use Rattle.wire_outlet.specs.Outgoing.{IsReady, Outgoing}
use Rattle.wire_outlet.specs.declared.waiting.Waiting.{Waiting}
use Rattle.wire_state.specs.Sound.{IsKept, unit_of}
use Rattle.wm_buffer.specs.Buffer.{Buffer}

pub same_kept : (limits : LimitKeys) (old new : Outgoing) → new.write ≡ old.write → new.waiting ≡ old.waiting → IsKept limits old → IsKept limits new
same_kept limits old new w n k = record {
  limit = ap (λ (v : Buffer). v.limit) w ∙ k.limit;
  write = subst (λ (v : Buffer). IsReady (unit_of limits) v) (sym w) k.write;
  waiting = subst (λ (v : List Waiting). length v ≤ limits.control_frames) (sym n) k.waiting;
}
