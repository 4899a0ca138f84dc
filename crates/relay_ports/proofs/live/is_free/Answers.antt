use Rattle.relay_ports.proofs.Lists.{free_found, or_not}
use Rattle.relay_ports.proofs.live.is_free.Goals as goal
use Rattle.std.proofs.Common.{ap, ◌∙◌}
use Rattle.std.specs.Prelude.{Bool, Option, is_some, not, ◌&&◌}

pub returns-in-Some : goal.returns-in-Some
returns-in-Some c = ap (λ (o : Option Bool). is_some o && not (or_not o)) c.in-Some.ensures.value ∙ free_found c.args.conn c.args.taps.now.entries c.requires

pub returns-in-None : goal.returns-in-None
returns-in-None c = ap (λ (o : Option Bool). is_some o && not (or_not o)) c.in-None.ensures.value ∙ free_found c.args.conn c.args.taps.now.entries c.requires
