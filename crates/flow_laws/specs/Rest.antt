-- What a core shows at the end of a dispatch, from which quiet follows.
use Rattle.std.specs.Bool.{OnFalse}
use Rattle.std.specs.List.{AllByRecursion}
use Rattle.std.specs.Prelude.{None, [], false, ◌≡◌}
use Rattle.tape_laws.specs.Bounds.{IsTamed}
use Rattle.tape_laws.specs.Connections.{open_connections}
use Rattle.tape_laws.specs.Demands.{obligations}
use Rattle.tape_laws.specs.Dispatches.{live}
use Rattle.tape_laws.specs.Doomed.{condemned}
use Rattle.tape_laws.specs.History.{History}
use Rattle.tape_laws.specs.Order.{Nothing, next_on}
use Rattle.tape_laws.specs.Pauses.{due_pauses, pending_lows}
use Rattle.tape_laws.specs.Release.{last_free}
use Rattle.tape_laws.specs.Setup.{Session}
use Rattle.tape_laws.specs.Sources.{EachLive, source_buffers}
use Rattle.tape_laws.specs.Watermark.{above}
use Rattle.tape_laws.specs.World.{received}
use Rattle.flow_rules.specs.declared.ids.BufferId.TheVariants as buffer

pub record IsResting {Mark : Type 0} (session : Session Mark) (past : History Mark) : Type 0 where
  -- no pause is due, and nobody is still to be told of a source of a live flow
  pub paused : due_pauses session.setup past ≡ []
  pub told : EachLive session.setup (λ f. AllByRecursion (λ b. pending_lows session.setup b past ≡ []) (source_buffers session.setup f past)) past
  -- no live flow has a free place, and no open connection that may write a unit
  pub behind : EachLive session.setup (λ f. last_free session.setup f past ≡ None) past
  pub framed : AllByRecursion
      (λ c. OnFalse (above session.setup (buffer.Write c) past) (next_on session.setup c past ≡ Nothing)) (open_connections session.setup past)
  pub read : EachLive session.setup (λ f. received f past ≡ session.setup.body f past) past
  pub tamed : IsTamed session.setup past
  -- nothing is owed
  pub asked : obligations session past ≡ []
  pub ended : AllByRecursion (λ x. session.must_end x past ≡ false) (live past)
  pub gone : condemned past ≡ []
  pub leaves : session.leaves past
