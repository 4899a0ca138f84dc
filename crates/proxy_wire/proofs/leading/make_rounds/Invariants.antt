use Rattle.proxy_wire.specs.Leading.{Leads}
use Rattle.std.proofs.Common.{◌≡◌, ◌≤◌}
use Rattle.proxy_wire.proofs.leading.make_rounds.Given as goal

abbrev pub invariant-loop : goal.invariant-loop
invariant-loop g l = record {
  leads : Leads l.shared.posts.items l.leader;
  wired : g.T.WireSite.wired l.site ≡ g.T.WireSite.wired l.fn.site;
  told : g.T.Site.told l.site ≡ g.T.Site.told l.fn.site;
  no_fall : g.T.Site.faults l.fn.site ≤ g.T.Site.faults l.site;
}
