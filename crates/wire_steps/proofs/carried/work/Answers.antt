use Rattle.std.proofs.Common.{ap, sym, ◌∙◌}
use Rattle.wire_state.proofs.Turned.{turns_from}
use Rattle.wire_state.specs.Worlds.{left_after}
use Rattle.wire_state.specs.declared.wire_core.WireCore.{WireCore}
use Rattle.wire_steps.proofs.carried.work.Goals as goal

pub returns-clause-octets : goal.returns-clause-octets
returns-clause-octets c =
    let began = c.begin_rows.ensures.rest in
    let turned = turns_from _ c.args.event.now c.args.core.now c.begin_rows.new.core c.take_event.new.core c.args.notes.now c.take_event.new.notes (ap (λ (k : WireCore). k.config) began) (ap (λ (k : WireCore). k.conns) began) (ap (λ (k : WireCore). k.flows) began) (ap (λ (k : WireCore). k.links) began) (c.begin_rows.ensures.none, c.begin_rows.ensures.before ∙ sym (ap (λ (k : WireCore). k.flows.exchanges.last) began)) c.in_ok-eased.ensures.octets in
    record {
      goes = λ h g before k is s left fresh.
          let f = left_after c.args.event.now c.args.core.now.conns g in
          c.rest.ensures.octets.goes h f before _ (c.in_ok-sweep.ensures.octets.goes h f before (c.in_ok-settle.ensures.octets.goes h f before (turned h g before k is s left fresh)));
    }
