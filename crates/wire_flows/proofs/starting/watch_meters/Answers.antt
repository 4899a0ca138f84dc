use Rattle.std.proofs.Common.{ap, arith, length, subst, sym, take, ◌∙◌}
use Rattle.std.proofs.Math.Seq.{take-length}
use Rattle.std.proofs.lemmas.Option.{slice_get-get_or}
use Rattle.std.specs.Prelude.{◌+◌, ◌≡◌}
use Rattle.wire_flows.proofs.Begun.{Met, met_hold, met_meter, met_pass, meter_unknown}
use Rattle.wire_flows.proofs.starting.watch_meters.Goals as goal
use Rattle.wire_flows.proofs.starting.watch_meters.Goals.{in-Hold, in-Meter+in_ok-watch_own-in-Meter, in-Pass}
use Rattle.wire_flows.specs.Begins.{WatchesOwn, meters}

pub watch_own-requires-clause-unknown : goal.watch_own-requires-clause-unknown
watch_own-requires-clause-unknown c = meter_unknown c.args.flow c.loop-filter.place (take c.loop-filter.filter-index c.args.filters.now) c.args.gates.now c.loop-filter.gates c.requires.fresh c.loop-filter.invariant.watches (sym c.loop-filter.invariant.place)

pub loop-filter-preserved : goal.loop-filter-preserved
loop-filter-preserved c =
    let at = slice_get-get_or c.args.filters.now c.loop-filter.filter-index _ c.loop-filter-test.true in
    let before : Met c.args.flow c.args.filters.now c.loop-filter.filter-index c.loop-filter.place c.args.gates.now c.loop-filter.gates = record {
      grows = c.loop-filter.invariant.grows;
      watches = c.loop-filter.invariant.watches;
      place_is = c.loop-filter.invariant.place;
      first = c.loop-filter.invariant.first;
      low = c.loop-filter.invariant.low;
      sound = c.loop-filter.invariant.sound;
    } in
    let m : Met c.args.flow c.args.filters.now (c.loop-filter.filter-index + 1) c.match-filter.place c.args.gates.now c.match-filter.gates = elim c.match-filter.branch [
      | in-Pass w ↦ met_pass c.args.flow c.args.filters.now c.loop-filter.filter-index c.loop-filter.place c.args.gates.now c.loop-filter.gates before _ c.loop-filter-test.true at c.match-filter.place c.match-filter.gates w.in-Pass.is w.place-is w.gates-is
      | in-Hold w ↦ met_hold c.args.flow c.args.filters.now c.loop-filter.filter-index c.loop-filter.place c.args.gates.now c.loop-filter.gates before _ c.loop-filter-test.true at c.match-filter.place c.match-filter.gates _ w.in-Hold.is w.place-is w.gates-is
      | in-Meter+in_ok-watch_own-in-Meter w ↦ met_meter c.args.flow c.args.filters.now c.loop-filter.filter-index c.loop-filter.place c.args.gates.now c.loop-filter.gates before _ c.loop-filter-test.true at c.match-filter.place c.match-filter.gates _ _ w.watch_own.new.gates w.in-Meter.is w.place-is w.gates-is
          w.watch_own.ensures.grows (w.in_ok-watch_own-in-Meter.ensures {u = tt}).ok w.watch_own.ensures.sound
    ] in
    record { grows = m.grows; watches = m.watches; place = m.place_is; first = m.first; low = m.low; sound = m.sound }

pub returns-clause-ok : goal.returns-clause-ok
returns-clause-ok c =
    let end : c.loop-filter.filter-index ≡ length c.args.filters.now = omega arith in
    subst (λ fs. WatchesOwn c.args.flow (meters c.args.flow 1 fs) c.args.gates.now c.loop-filter.gates) (ap (λ i. take i c.args.filters.now) end ∙ take-length c.args.filters.now) c.loop-filter.invariant.watches
