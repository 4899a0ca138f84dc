-- What the laws need of a setup: each flow is of one exchange, and its way is chosen once, at its start.
use Rattle.flow_rules.specs.declared.ids.FlowId.{FlowId}
use Rattle.std.specs.List.{AllByRecursion, list_any}
use Rattle.std.specs.Prelude.{Bool, List, [], false, ℕ, ◌<◌, ◌==◌, ◌∷◌, ◌≡◌}
use Rattle.tape_laws.specs.Flows.{same_flow}
use Rattle.tape_laws.specs.History.{History, Noted, Step}
use Rattle.tape_laws.specs.Setup.{Setup}
use Rattle.tape_laws.specs.Watermark.{kind_limit}
use Rattle.flow_notes.specs.declared.notes.Note.TheVariants as note

-- the step starts the flow's exchange
abbrev pub starts : {Mark : Type 0} → FlowId → Step Mark → Bool
starts f (Noted (note.Start x c s d)) = x == f.exchange
starts f step = false

-- each of the list is another one
abbrev pub AreApart : {A : Type 0} → (A → A → Bool) → List A → Type 0
AreApart same [] = Unit {0}
AreApart same (x ∷ xs) = (list_any (same x) xs ≡ false) × AreApart same xs

pub record HasWays {Mark : Type 0} (setup : Setup Mark) : Type 0 where
  -- the flows of an exchange are its own, each another one
  pub own : (x : ℕ) → AllByRecursion (λ f. f.exchange ≡ x) (setup.flows x)
  pub apart : (x : ℕ) → AreApart same_flow (setup.flows x)
  -- the stages that a flow passes, and the connections that it comes from and goes to, stay but at its start
  pub stages : (f : FlowId) (step : Step Mark) (past : History Mark) → starts f step ≡ false → setup.stages f (step ∷ past) ≡ setup.stages f past
  pub comes : (f : FlowId) (step : Step Mark) (past : History Mark) → starts f step ≡ false → setup.comes_from f (step ∷ past) ≡ setup.comes_from f past
  pub goes : (f : FlowId) (step : Step Mark) (past : History Mark) → starts f step ≡ false → setup.goes_to f (step ∷ past) ≡ setup.goes_to f past

-- each stage that pauses its flow has a limit
pub record HasLimits {Mark : Type 0} (setup : Setup Mark) : Type 0 where
  pub limits : (f : FlowId) (past : History Mark) → AllByRecursion (λ s. 0 < kind_limit s) (setup.stages f past)
