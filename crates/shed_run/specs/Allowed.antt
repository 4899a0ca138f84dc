-- A session for the load shed points that breaks no rule, and how its run may end.
use Rattle.proxy_config.specs.declared.config.Config.{Config}
use Rattle.session_run.specs.declared.status.Status.{Status}
use Rattle.shed_run.specs.ShedLines.{is_own}
use Rattle.std.specs.List.{AllByRecursion}
use Rattle.std.specs.Prelude.{List, None, Option, Some, false, ℕ, ◌≡◌}
use Rattle.wire_run.specs.Allowed.{IsAllowedWire, IsUnrefused}

-- a wire session that breaks no rule, without a post of the poster that makes the drains of what is shed
pub record IsAllowedShed (config : Config) (text : List ℕ) : Type 0 where
  pub wire : IsAllowedWire config text
  pub none_own : AllByRecursion (λ e. is_own e ≡ false) wire.events

-- such a session is run to its end, but for lack of memory and a source or sink that fails
abbrev pub Completes : Config → Option (List ℕ) → Status → Type 0
Completes config None how = Unit {0}
Completes config (Some text) how = IsAllowedShed config text → IsUnrefused how
