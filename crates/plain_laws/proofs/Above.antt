-- The flag of a buffer is the one that its lengths give.
use Rattle.flow_rules.specs.declared.ids.BufferId.{BufferId}
use Rattle.std.proofs.Common.{refl}
use Rattle.std.specs.Prelude.{[], ◌∷◌, ◌≡◌}
use Rattle.plain_laws.specs.Words.{Past}
use Rattle.tape_laws.specs.Plain.{plain_setup}
use Rattle.tape_laws.specs.Watermark.{above, lengths, limit}
use Rattle.tape_laws.specs.declared.PlainLimits.{PlainLimits}
use Rattle.wm_buffer.specs.Watermark.{flag}
use Rattle.flow_rules.specs.declared.ids.BufferId.TheVariants as buffer

pub above_is_flag : (limits : PlainLimits) (b : BufferId) (h : Past) → above (plain_setup limits) b h ≡ flag (limit (plain_setup limits) b h) (lengths (plain_setup limits) b h)
above_is_flag limits b [] = refl
above_is_flag limits (buffer.Recv f) (step ∷ past) = cc
above_is_flag limits (buffer.Stage f i) (step ∷ past) = cc
above_is_flag limits (buffer.Send f) (step ∷ past) = cc (above_is_flag limits (buffer.Send f) past)
above_is_flag limits (buffer.Write c) (step ∷ past) = cc (above_is_flag limits (buffer.Write c) past)
