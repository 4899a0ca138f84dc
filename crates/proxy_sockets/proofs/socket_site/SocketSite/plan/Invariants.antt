-- Each cluster that was looked at has its place.
use Rattle.proxy_sockets.proofs.socket_site.SocketSite.plan.Given as goal
use Rattle.std.proofs.Common.{length, ◌≡◌}

abbrev pub invariant-loop-cluster : goal.invariant-loop-cluster
invariant-loop-cluster g l = length l.clusters.items ≡ l.cluster-index
