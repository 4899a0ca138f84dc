use Rattle.std.proofs.Common.{◌≡◌, ◌+◌, ◌-◌, ◌∙◌, length, min, true, false, sym, ap, arith}
use Rattle.std.specs.Prelude.{Some}
use Rattle.filter_chain.proofs.Readings.{at_place, hold_releases, hold_waits, meter_releases, octets_is, send_releases}
use Rattle.filter_chain.specs.Chain.{Chain, octets_at, place_at}
use Rattle.filter_chain.specs.Release.{is_whole_at}
use Rattle.filter_chain.specs.Stage.{place_of}
use Rattle.filter_chain.proofs.chain.Chain.may_release.Goals as goal

pub returns-in-Hold-clause-released : goal.returns-in-Hold-clause-released
returns-in-Hold-clause-released c =
    let at : place_at c.args.self.now.places c.args.place ≡ Some (place_of c.index-stage.result.now) = at_place c.args.self.now c.self.inside.stages.items c.args.place c.index-stage.result.now (ap (λ (chain : Chain). chain.places) c.self.view_is) c.requires.first (omega arith) c.index-stage.ensures in
    let here : (c.args.place - 1) + 1 ≡ c.args.place = omega arith in
    let whole : is_whole_at c.args.self.now c.args.place ≡ true = ap (is_whole_at c.args.self.now) (sym here) ∙ (sym c.is_whole_at.ensures ∙ c.if-is_whole_at.true) in
    let quantum : c.self.inside.quantum ≡ c.args.self.now.quantum = ap (λ (chain : Chain). chain.quantum) c.self.view_is in
    (c.min-most.ensures ∙ (ap (λ q. min q c.len.result) quantum ∙ ap (min c.args.self.now.quantum) c.len.ensures))
    ∙ sym (hold_releases c.args.self.now c.args.place (place_of c.index-stage.result.now) at c.in-Hold.is whole)

pub returns-in-Hold-clause-octets : goal.returns-in-Hold-clause-octets
returns-in-Hold-clause-octets c =
    let at : place_at c.args.self.now.places c.args.place ≡ Some (place_of c.index-stage.result.now) = at_place c.args.self.now c.self.inside.stages.items c.args.place c.index-stage.result.now (ap (λ (chain : Chain). chain.places) c.self.view_is) c.requires.first (omega arith) c.index-stage.ensures in
    let octets : length (octets_at c.args.self.now c.args.place) ≡ length c.index-stage.result.now.buffer.octets = ap length (octets_is c.args.self.now c.args.place (place_of c.index-stage.result.now) at) in
    omega arith

pub returns-in-Hold-2-clause-released : goal.returns-in-Hold-2-clause-released
returns-in-Hold-2-clause-released c =
    let at : place_at c.args.self.now.places c.args.place ≡ Some (place_of c.index-stage.result.now) = at_place c.args.self.now c.self.inside.stages.items c.args.place c.index-stage.result.now (ap (λ (chain : Chain). chain.places) c.self.view_is) c.requires.first (omega arith) c.index-stage.ensures in
    let here : (c.args.place - 1) + 1 ≡ c.args.place = omega arith in
    let whole : is_whole_at c.args.self.now c.args.place ≡ false = ap (is_whole_at c.args.self.now) (sym here) ∙ (sym c.is_whole_at.ensures ∙ c.if-is_whole_at.false) in
    sym (hold_waits c.args.self.now c.args.place (place_of c.index-stage.result.now) at c.in-Hold-2.is whole)

pub returns-in-Meter-clause-released : goal.returns-in-Meter-clause-released
returns-in-Meter-clause-released c =
    let at : place_at c.args.self.now.places c.args.place ≡ Some (place_of c.index-stage.result.now) = at_place c.args.self.now c.self.inside.stages.items c.args.place c.index-stage.result.now (ap (λ (chain : Chain). chain.places) c.self.view_is) c.requires.first (omega arith) c.index-stage.ensures in
    let quantum : c.self.inside.quantum ≡ c.args.self.now.quantum = ap (λ (chain : Chain). chain.quantum) c.self.view_is in
    let most : c.min-most.result ≡ min c.args.self.now.quantum (length c.index-stage.result.now.buffer.octets) = c.min-most.ensures ∙ (ap (λ q. min q c.len.result) quantum ∙ ap (min c.args.self.now.quantum) c.len.ensures) in
    (c.min.ensures ∙ ap (λ m. min m c.index-stage.result.now.tokens) most)
    ∙ sym (meter_releases c.args.self.now c.args.place c.in-Meter.rate (place_of c.index-stage.result.now) at c.in-Meter.is)

pub returns-in-Meter-clause-octets : goal.returns-in-Meter-clause-octets
returns-in-Meter-clause-octets c =
    let at : place_at c.args.self.now.places c.args.place ≡ Some (place_of c.index-stage.result.now) = at_place c.args.self.now c.self.inside.stages.items c.args.place c.index-stage.result.now (ap (λ (chain : Chain). chain.places) c.self.view_is) c.requires.first (omega arith) c.index-stage.ensures in
    let octets : length (octets_at c.args.self.now c.args.place) ≡ length c.index-stage.result.now.buffer.octets = ap length (octets_is c.args.self.now c.args.place (place_of c.index-stage.result.now) at) in
    omega arith

pub returns-in-Send-clause-released : goal.returns-in-Send-clause-released
returns-in-Send-clause-released c =
    let at : place_at c.args.self.now.places c.args.place ≡ Some (place_of c.index-stage.result.now) = at_place c.args.self.now c.self.inside.stages.items c.args.place c.index-stage.result.now (ap (λ (chain : Chain). chain.places) c.self.view_is) c.requires.first (omega arith) c.index-stage.ensures in
    sym (send_releases c.args.self.now c.args.place (place_of c.index-stage.result.now) at c.in-Send.is)
