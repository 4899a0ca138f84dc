use Rattle.proxy_wire.proofs.Pooling.{HiredSoFar}
use Rattle.proxy_wire.specs.Leading.{Leads}
use Rattle.shared_state.specs.PermitSeats.{IsSeatOf, seats_in}
use Rattle.std.proofs.Common.{All, ◌≡◌, ◌≤◌}
use Rattle.std.specs.Prelude.{vec_capacity}
use Rattle.worker_threads.specs.Starting.{outside_of}
use Rattle.proxy_wire.proofs.hiring.hire_all.Given as goal

abbrev pub invariant-loop-place : goal.invariant-loop-place
invariant-loop-place g l = record {
  so : HiredSoFar g.M.Meter.bare (outside_of g.M.Metered.Wires g.T.C.Clock.moments g.T.L.Sink.contents g.T.L.Journal.told g.T.L.Sink.faults) l.task.config.now l.place (g.T.WireSite.wired l.fn.site) (g.T.WireSite.wired l.site) l.pool;
  room : l.task.config.now.proxy.workers ≤ vec_capacity l.pool.workers;
  seats : All (IsSeatOf l.pool.shared.permits) (seats_in l.supply.seats);
  leads : Leads l.pool.shared.posts.items l.leader;
  told : g.T.Site.told l.site ≡ g.T.Site.told l.fn.site;
  no_fall : g.T.Site.faults l.fn.site ≤ g.T.Site.faults l.site;
}
