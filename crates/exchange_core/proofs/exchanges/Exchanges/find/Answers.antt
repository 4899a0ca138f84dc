use Rattle.exchange_core.proofs.Finding.{exchange_found, flow_found}
use Rattle.exchange_core.proofs.Untouched.{flow_seen}
use Rattle.exchange_core.proofs.exchanges.Exchanges.find.Goals as goal
use Rattle.exchange_core.specs.Exchange.{flow_in, seen_at}
use Rattle.std.proofs.Common.{ap, refl}
use Rattle.std.specs.Option.{option_and_then}
use Rattle.std.specs.Prelude.{None}

pub returns : goal.returns
returns c = rw (← c.self.view_is) (record {
  now = c.self.inside.ticked;
  same = cc (flow_found c.self.inside c.args.flow c.in-Some.exchange.now (flow_in c.args.flow.back (seen_at c.self.inside.ticked c.in-Some.exchange.now)) c.in-Some.ensures.value refl, flow_seen c.self.inside.ticked c.args.flow.back c.in-Some.exchange.now);
})

pub returns-in_default : goal.returns-in_default
returns-in_default c = rw (← c.self.view_is) (record {
  now = 0;
  same = ap (option_and_then (flow_in c.args.flow.back)) (exchange_found c.self.inside c.args.flow.exchange None c.in_default.ensures.value);
})
