use Rattle.std.proofs.Common.{ap, sym, ◌∙◌}
use Rattle.std.specs.Option.{option_map}
use Rattle.std.specs.Prelude.{Some}
use Rattle.wire_links.proofs.Seen.{under_seen}
use Rattle.wire_links.specs.Seats.{Seat}
use Rattle.wire_links.proofs.links.Links.state.Goals as goal

pub returns-in-Some : goal.returns-in-Some
returns-in-Some c = rw (← c.self.view_is) (ap Some c.conn.ensures ∙ ap (option_map (λ (s : Seat). s.conn)) c.in-Some.ensures.value ∙ sym (under_seen c.self.inside.seats.entries c.args.conn))

pub returns-in-None : goal.returns-in-None
returns-in-None c = rw (← c.self.view_is) (ap (option_map (λ (s : Seat). s.conn)) c.in-None.ensures.value ∙ sym (under_seen c.self.inside.seats.entries c.args.conn))
