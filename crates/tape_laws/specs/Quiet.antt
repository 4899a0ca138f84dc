-- What each dispatch leaves: nothing that may move, nothing that may be framed, and nothing that was asked for.
use Rattle.std.specs.Bool.{OnFalse, OnTrue}
use Rattle.std.specs.List.{AllByRecursion}
use Rattle.std.specs.Prelude.{None, [], false, suc, zero, ℕ, ◌-◌, ◌==◌, ◌≡◌}
use Rattle.tape_laws.specs.Bounds.{IsTamed}
use Rattle.tape_laws.specs.Connections.{open_connections}
use Rattle.tape_laws.specs.Demands.{obligations}
use Rattle.tape_laws.specs.Dispatches.{live}
use Rattle.tape_laws.specs.Doomed.{condemned}
use Rattle.tape_laws.specs.History.{History}
use Rattle.tape_laws.specs.Order.{Nothing, next_on}
use Rattle.tape_laws.specs.Pauses.{count, due_pauses, lows}
use Rattle.tape_laws.specs.Release.{last_free, may_release}
use Rattle.tape_laws.specs.Setup.{Session}
use Rattle.tape_laws.specs.Sources.{EachLive, disabled}
use Rattle.tape_laws.specs.Watermark.{above}
use Rattle.tape_laws.specs.World.{last_place, received}
use Rattle.flow_rules.specs.declared.ids.BufferId.TheVariants as buffer

-- P holds of each place from 0 to p
abbrev pub EachPlace : (ℕ → Type 0) → ℕ → Type 0
EachPlace P zero = P 0
EachPlace P (suc p) = P (suc p) × EachPlace P p

pub record IsQuiet {Mark : Type 0} (session : Session Mark) (past : History Mark) : Type 0 where
  -- no pause is due, each live flow was told of each drain, and its count is the number of its sources above
  pub paused : due_pauses session.setup past ≡ []
  pub told : EachLive session.setup (λ f. lows session.setup f past ≡ 0) past
  pub counted : EachLive session.setup (λ f. count f past ≡ disabled session.setup f past) past
  -- a readable flow has nothing to release, and what any flow may release has a later source above
  pub still : EachLive session.setup (λ f. OnTrue (count f past == 0)
      (EachPlace (λ p. may_release session.setup f p past ≡ 0) (last_place session.setup f past - 1))) past
  pub behind : EachLive session.setup (λ f. last_free session.setup f past ≡ None) past
  -- an open connection that may write has nothing waiting
  pub framed : AllByRecursion
      (λ c. OnFalse (above session.setup (buffer.Write c) past) (next_on session.setup c past ≡ Nothing)) (open_connections session.setup past)
  -- the body that came for a live flow was received whole
  pub read : EachLive session.setup (λ f. received f past ≡ session.setup.body f past) past
  pub tamed : IsTamed session.setup past
  -- what was asked for was done, what had to end is doomed, and what was doomed is gone
  pub asked : obligations session past ≡ []
  pub ended : AllByRecursion (λ x. session.must_end x past ≡ false) (live past)
  pub gone : condemned past ≡ []
  pub leaves : session.leaves past
