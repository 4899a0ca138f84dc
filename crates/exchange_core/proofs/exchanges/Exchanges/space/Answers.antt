use Rattle.exchange_core.proofs.Finding.{exchange_found, flow_found}
use Rattle.exchange_core.proofs.Untouched.{flow_seen}
use Rattle.exchange_core.proofs.exchanges.Exchanges.space.Goals as goal
use Rattle.exchange_core.specs.Exchange.{at_moment, flow_in, seen_at}
use Rattle.exchange_core.specs.Flow.{Flow}
use Rattle.std.proofs.Common.{ap, refl, sym, ◌∙◌}
use Rattle.std.specs.Option.{option_and_then}
use Rattle.std.specs.Prelude.{None, Option, Some, length, option_map, ℕ, ◌-◌, ◌≡◌}

abbrev room : Option Flow → Option ℕ
room = option_map (λ f. f.window - length f.recv)

-- the moment changes nothing of it
room_seen : (now : ℕ) (flow : Option Flow) → room (option_map (at_moment now) flow) ≡ room flow
room_seen now None = refl
room_seen now (Some flow) = refl

pub returns-in-Some : goal.returns-in-Some
returns-in-Some c = rw (← c.self.view_is) (
    let there = flow_found c.self.inside c.args.flow c.in-Some.exchange.now (flow_in c.args.flow.back (seen_at c.self.inside.ticked c.in-Some.exchange.now)) c.in-Some.ensures.value refl in
    c.space.ensures ∙ (cc (flow_seen c.self.inside.ticked c.args.flow.back c.in-Some.exchange.now, room_seen c.self.inside.ticked (flow_in c.args.flow.back c.in-Some.exchange.now))))

pub returns-in-None : goal.returns-in-None
returns-in-None c = rw (← c.self.view_is) (sym (ap (λ o. room (option_and_then (flow_in c.args.flow.back) o)) (exchange_found c.self.inside c.args.flow.exchange None c.in-None.ensures.value)))
