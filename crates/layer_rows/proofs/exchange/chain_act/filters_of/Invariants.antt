use Rattle.std.proofs.Common.{◌-◌, ◌≤◌, All, length}
use Rattle.proxy_config.specs.Ranges.{IsFilter}
use Rattle.layer_rows.proofs.exchange.chain_act.filters_of.Given as goal

abbrev pub invariant-loop-words : goal.invariant-loop-words
invariant-loop-words l = record { few : length l.list ≤ 8; each : All IsFilter l.list }

abbrev pub decreases-loop-words : goal.decreases-loop-words
decreases-loop-words l = 8 - length l.list
