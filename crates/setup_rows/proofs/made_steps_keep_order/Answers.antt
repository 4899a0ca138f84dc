-- By the laws of any setup, at the made-up one.
use Rattle.flow_laws.proofs.MadeUp.{laws_apply}
use Rattle.flow_laws.proofs.Orders.{order_is_kept}
use Rattle.flow_laws.proofs.Sound.{paced_of}
use Rattle.flow_laws.proofs.Watching.{each_crosses}
use Rattle.flow_laws.specs.Made.{made_session, made_setup}
use Rattle.setup_rows.proofs.Full.{full}
use Rattle.setup_rows.proofs.made_steps_keep_order.Goals as goal
use Rattle.std.proofs.Common.{refl}
use Rattle.std.specs.Prelude.{◌∷◌}

pub returns : goal.returns
returns c = record {
  crosses = λ step past s f before now. each_crosses made_setup laws_apply.ways step past (paced_of made_session (step ∷ past) s) f before now;
  ordered = λ steps past s. order_is_kept made_setup steps past s.lawful.paused;
  full = full;
  rises = refl;
  due = refl;
}
