-- No buffer holds more than its bound.
use Rattle.flow_rules.specs.declared.ids.FlowId.{FlowId}
use Rattle.std.specs.Bool.{OnTrue}
use Rattle.std.specs.List.{AllByRecursion}
use Rattle.std.specs.Prelude.{IfSome, List, [], if◌then◌else◌, length, max, nat_lt, sum_by, ℕ, ◌*◌, ◌+◌, ◌∷◌, ◌≤◌}
use Rattle.tape_laws.specs.Connections.{connections, open_connections}
use Rattle.tape_laws.specs.Dispatches.{is_some_of}
use Rattle.tape_laws.specs.History.{History}
use Rattle.tape_laws.specs.Setup.{Setup}
use Rattle.tape_laws.specs.Sources.{EachLive, body_sources, live_flows}
use Rattle.tape_laws.specs.Units.{Hold, Meter, StageKind}
use Rattle.tape_laws.specs.Watermark.{limit}
use Rattle.tape_laws.specs.World.{len, out, place, recv, send}

-- the most that one framed unit carries
abbrev pub unit_size : {Mark : Type 0} → Setup Mark → ℕ
unit_size setup = max 65536 (setup.quantum + 9)

-- what a stage holds at most: a Hold its limit, a Meter one move more
abbrev pub stage_bound : ℕ → StageKind → ℕ
stage_bound quantum (Hold limit) = limit
stage_bound quantum (Meter limit rate) = limit + quantum

abbrev pub StagesBounded : {Mark : Type 0} → Setup Mark → FlowId → ℕ → List StageKind → History Mark → Type 0
StagesBounded setup f p [] past = Unit {0}
StagesBounded setup f p (s ∷ ss) past =
    (length (place setup f p past) ≤ stage_bound setup.quantum s) × StagesBounded setup f (p + 1) ss past

-- what the receive buffers of all flows from the connection hold together
abbrev pub held_from : {Mark : Type 0} → Setup Mark → ℕ → History Mark → ℕ
held_from setup c past =
    sum_by (λ f. if is_some_of (setup.comes_from f past) c then length (recv setup f past) else 0) (live_flows setup past)

-- a limit of 0 bounds nothing
pub record IsBounded {Mark : Type 0} (setup : Setup Mark) (past : History Mark) : Type 0 where
  pub recv : EachLive setup (λ f. length (recv setup f past) ≤ setup.recv) past
  pub stages : EachLive setup (λ f. StagesBounded setup f 1 (setup.stages f past) past) past
  pub send : OnTrue (nat_lt 0 setup.send) (EachLive setup (λ f. length (send setup f past) ≤ setup.send + setup.quantum) past)
  pub write : OnTrue (nat_lt 0 setup.write)
      (AllByRecursion (λ c. length (out setup c past) ≤ setup.write + unit_size setup) (connections setup past))
  pub together : IfSome setup.together (λ n. AllByRecursion (λ c. held_from setup c past ≤ n) (open_connections setup past))

-- at a dispatch's end a body buffer with a limit holds at most so many times its limit, where that is asked
abbrev pub IsTamed : {Mark : Type 0} → Setup Mark → History Mark → Type 0
IsTamed setup past =
    OnTrue (nat_lt 0 setup.overflow) (EachLive setup (λ f. AllByRecursion
    (λ s. OnTrue (nat_lt 0 (limit setup s.buffer past))
    (len setup s.buffer past ≤ setup.overflow * limit setup s.buffer past))
    (body_sources setup f past)) past)
