-- Kinds of timers.
use Rattle.std.specs.Prelude.{ℕ, List, codes}
use Rattle.flow_rules.specs.declared.causes.FireKind.{FireKind}
use Rattle.flow_rules.specs.declared.causes.FireKind.TheVariants.{Route, StreamIdle, ConnectionIdle}

abbrev pub fire_word : FireKind → List ℕ
fire_word Route = codes "route"
fire_word StreamIdle = codes "stream-idle"
fire_word ConnectionIdle = codes "connection-idle"
