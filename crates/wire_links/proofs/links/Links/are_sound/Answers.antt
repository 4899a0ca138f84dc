use Rattle.wire_links.proofs.Reading.{sound}
use Rattle.wire_links.proofs.links.Links.are_sound.Goals as goal

pub returns : goal.returns
returns c = rw (← c.self.view_is) (sound c.self.inside.seats.entries c.self.inside.exchanges.entries c.self.inside.offers.entries c.self.inside.clients.keys c.self.invariant)
