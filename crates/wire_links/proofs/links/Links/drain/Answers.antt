use Rattle.std.proofs.Common.{sym, ◌∙◌}
use Rattle.wire_links.proofs.Calls.{drain_same}
use Rattle.wire_links.proofs.links.Links.drain.Goals as goal

pub returns-then-is_some-clause-drained : goal.returns-then-is_some-clause-drained
returns-then-is_some-clause-drained c = drain_same c.args.self.now c.args.conn c.args.last c.in-Some.state (sym c.state.ensures ∙ c.in-Some.is) (sym c.is_some.ensures ∙ c.if-is_some.true)
