use Rattle.std.proofs.Common.{◌≡◌, ◌++◌, length, map}
use Rattle.session_config.specs.ClusterNames.{names_in}
use Rattle.session_config.proofs.names.names_of.Given as goal

abbrev pub invariant-loop-cluster : goal.invariant-loop-cluster
invariant-loop-cluster l = record { told : names_in l.config ≡ l.names ++ map (λ c. c.name) l.rest }

abbrev pub decreases-loop-cluster : goal.decreases-loop-cluster
decreases-loop-cluster l = length l.rest
