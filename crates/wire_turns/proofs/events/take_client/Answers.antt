use Rattle.std.proofs.Common.{ap}
use Rattle.std.specs.Prelude.{is_some}
use Rattle.wire_turns.proofs.events.take_client.Goals as goal
use Rattle.wire_links.specs.Links.{Links, ends_of}
use Rattle.wire_state.proofs.Linked.{accepted_keeps, accepted_known, links_go}
use Rattle.wire_state.proofs.Soundness.{links_sound}
use Rattle.wire_state.specs.Ways.{after}

pub open-requires : goal.open-requires
open-requires c =
    let k = c.args.core.now in
    record { sound = links_sound k.config k.now k.links k.conns k.flows k.timers c.requires.sound c.accept.new.self (λ x. ap (λ (l : Links). is_some (ends_of x l)) c.in_ok-accept.ensures.ok) }

pub returns-clause-octets : goal.returns-clause-octets
returns-clause-octets c = record {
  goes = λ h g start notes t came fresh.
      let k = c.args.core.now in
      let n = c.args.number in
      (c.open.ensures.octets (accepted_known n k.links c.accept.new.self c.in_ok-accept.ensures.ok) (t.stands.known n c.requires.unknown)).goes h g start notes
      (record { steps = t.steps; is = t.is; stands = links_go k.links c.accept.new.self (accepted_keeps n k.links c.accept.new.self c.in_ok-accept.ensures.ok) k.conns k.flows (after t.steps h) t.stands; counts = t.counts; left = t.left; under = t.under; ways = t.ways; rows = t.rows; since = t.since }) came fresh;
}
