-- What was told, by its kind.
use Rattle.relay_work.specs.Turning.{event_at}
use Rattle.std.proofs.Common.{ap, sym}
use Rattle.worker_ports.specs.declared.wires.Wired.{Wired}
use Rattle.relay_work.proofs.events.event_of.Goals as goal

pub returns-in-Accept-clause-is : goal.returns-in-Accept-clause-is
returns-in-Accept-clause-is c = sym (ap (λ (w : Wired). event_at w) c.in-Accept.is)

pub returns-in-Join-clause-is : goal.returns-in-Join-clause-is
returns-in-Join-clause-is c = sym (ap (λ (w : Wired). event_at w) c.in-Join.is)

pub returns-in-Read-clause-is : goal.returns-in-Read-clause-is
returns-in-Read-clause-is c = sym (ap (λ (w : Wired). event_at w) c.in-Read.is)

pub returns-in-Lost-clause-is : goal.returns-in-Lost-clause-is
returns-in-Lost-clause-is c = sym (ap (λ (w : Wired). event_at w) c.in-Lost.is)
