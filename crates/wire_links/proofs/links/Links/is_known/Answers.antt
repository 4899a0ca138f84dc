use Rattle.std.proofs.Common.{◌∙◌}
use Rattle.wire_links.proofs.Reading.{known_is}
use Rattle.wire_links.proofs.links.Links.is_known.Goals as goal

pub returns : goal.returns
returns c = rw (← c.self.view_is) (c.contains_key.ensures ∙ known_is c.self.inside.seats.entries c.args.conn)
