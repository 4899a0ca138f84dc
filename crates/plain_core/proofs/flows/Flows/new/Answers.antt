use Rattle.std.proofs.Common.{ap, refl}
use Rattle.std.specs.BTreeMap.{is_at}
use Rattle.std.specs.List.{list_any}
use Rattle.std.specs.Ordering.{nat_cmp}
use Rattle.plain_core.proofs.FlowFounds.{founds}
use Rattle.plain_core.proofs.flows.Flows.new.Goals as goal
use Rattle.plain_laws.proofs.Founding.{none_regular}

pub returns : goal.returns
returns c = record {
  stands = founds c.args.limits c.new.result c.new-gates.result c.open_buffer.new.self c.new-2.result c.new-3.result c.requires c.new.ensures.live c.new.ensures.doomed c.new.ensures.last c.new.ensures.time c.new.ensures.sound
      c.new-gates.ensures.empty (c.in_ok-open_buffer.ensures {u = tt}).ok c.open_buffer.ensures.sound c.new-2.ensures (λ x. ap (list_any (is_at (nat_cmp x))) c.new-3.ensures.empty);
  lawful = record { regular = none_regular c.args.limits; untold = λ x. refl };
}
