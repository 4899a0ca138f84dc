use Rattle.std.proofs.Common.{ap, ◌∙◌}
use Rattle.std.specs.Option.{option_map_or}
use Rattle.std.specs.Prelude.{[]}
use Rattle.wire_links.proofs.Reading.{at_stream}
use Rattle.wire_links.specs.Numbers.{under}
use Rattle.wire_links.specs.Seats.{Seat}
use Rattle.wire_links.proofs.links.Links.exchange_at.Goals as goal

pub returns-in_err-get-clause-exchange : goal.returns-in_err-get-clause-exchange
returns-in_err-get-clause-exchange c = rw (← c.self.view_is) (c.from_residual.ensures ∙ ap (λ o. under c.args.stream (option_map_or (λ (s : Seat). s.streams) o [])) c.in_err-get.ensures.value
    ∙ at_stream c.self.inside.seats.entries c.self.inside.exchanges.entries c.self.inside.offers.entries c.self.inside.clients.keys c.self.invariant c.args.conn c.args.stream)

pub returns-clause-exchange : goal.returns-clause-exchange
returns-clause-exchange c = rw (← c.self.view_is) (c.exchange_at.ensures ∙ ap (λ o. under c.args.stream (option_map_or (λ (s : Seat). s.streams) o [])) c.in_ok-get.ensures.value
    ∙ at_stream c.self.inside.seats.entries c.self.inside.exchanges.entries c.self.inside.offers.entries c.self.inside.clients.keys c.self.invariant c.args.conn c.args.stream)
