use Rattle.io_ports.specs.Faults.{Rose}
use Rattle.proxy_wire.specs.Pools.{IsPaid, OneFailed, back_of}
use Rattle.proxy_site.specs.WireSites.{TellsReturned, numbered}
use Rattle.std.proofs.Common.{All, map, reverse, vec_len, ◌<◌, ◌^◌, ◌≡◌, ◌≤◌, ◌⊎◌}
use Rattle.worker_threads.specs.Starting.{outside_of}
use Rattle.proxy_wire.proofs.giving_back.give_back_all.Given as goal

abbrev pub invariant-loop-worker : goal.invariant-loop-worker
invariant-loop-worker g l = record {
  few : vec_len l.workers < 2 ^ 32;
  paid : All (IsPaid l.permits) l.workers.items;
  wired : (end : _) → TellsReturned (g.T.WireSite.wired l.site) (reverse (numbered 1 (map (back_of g.M.Meter.bare) l.workers.items))) end → TellsReturned (g.T.WireSite.wired l.fn.site) (reverse (numbered 1 (map (back_of g.M.Meter.bare) l.initial.workers.items))) end;
  told : g.T.Site.told l.site ≡ g.T.Site.told l.fn.site;
  count : OneFailed (outside_of g.M.Metered.Wires g.T.C.Clock.moments g.T.L.Sink.contents g.T.L.Journal.told g.T.L.Sink.faults) l.initial.workers.items → Rose (g.T.Site.faults l.fn.site) (g.T.Site.faults l.site) ⊎ OneFailed (outside_of g.M.Metered.Wires g.T.C.Clock.moments g.T.L.Sink.contents g.T.L.Journal.told g.T.L.Sink.faults) l.workers.items;
  no_fall : g.T.Site.faults l.fn.site ≤ g.T.Site.faults l.site;
}

abbrev pub decreases-loop-worker : goal.decreases-loop-worker
decreases-loop-worker g l = vec_len l.workers
