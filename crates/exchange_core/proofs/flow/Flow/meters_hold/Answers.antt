use Rattle.std.proofs.Common.{◌≡◌, ◌-◌, ◌<◌, ◌∙◌, ◌&&◌, length, nat_lt, true, false, sym, ap, arith}
use Rattle.std.proofs.lemmas.Bool.Decides.{nat_tests}
use Rattle.exchange_core.proofs.Meters.{filled_from, found_at, last_none, none_at}
use Rattle.exchange_core.proofs.flow.Flow.meters_hold.Goals as goal
use Rattle.exchange_core.proofs.flow.Flow.meters_hold.Goals.{else-is_source-via-then-is_source+else-len-gt0, else-is_source-via-else-is_source}
use Rattle.exchange_core.specs.Flow.{last_place, meters_hold}
use Rattle.exchange_core.specs.Kept.{flow_of}
use Rattle.filter_chain.specs.Chain.{octets_at}
use Rattle.filter_chain.specs.Release.{is_source_at}

pub returns-then-len-gt0 : goal.returns-then-len-gt0
returns-then-len-gt0 c =
    let rest : filled_from (c.loop-place.place - 1) c.self.inside.chain.places ≡ meters_hold (flow_of c.self.inside) = rw (← c.self.view_is) at c.loop-place.invariant.rest in
    let last : c.loop-place.place < last_place (flow_of c.self.inside) = omega arith in
    let source : is_source_at c.self.inside.chain c.loop-place.place ≡ true = sym c.is_source.ensures ∙ c.if-is_source.true in
    let some : 0 < length (octets_at c.self.inside.chain c.loop-place.place) = omega arith in
    rw (← c.self.view_is) (sym (found_at (flow_of c.self.inside) c.loop-place.place c.loop-place.invariant.first last c.places-place-end.ensures.sound.order source some) ∙ rest)

pub loop-place-preserved : goal.loop-place-preserved
loop-place-preserved c =
    let rest : filled_from (c.loop-place.place - 1) c.self.inside.chain.places ≡ meters_hold (flow_of c.self.inside) = rw (← c.self.view_is) at c.loop-place.invariant.rest in
    let last : c.loop-place.place < last_place (flow_of c.self.inside) = omega arith in
    let none : (is_source_at c.self.inside.chain c.loop-place.place && nat_lt 0 (length (octets_at c.self.inside.chain c.loop-place.place))) ≡ false =
    elim c.else-is_source.branch [
      | else-is_source-via-then-is_source+else-len-gt0 w ↦
          let source : is_source_at c.self.inside.chain c.loop-place.place ≡ true = sym c.is_source.ensures ∙ w.if-is_source.true in
          let empty : nat_lt 0 (length (octets_at c.self.inside.chain c.loop-place.place)) ≡ false = grind (arith, nat_tests) in
          ap (λ b. b && nat_lt 0 (length (octets_at c.self.inside.chain c.loop-place.place))) source ∙ empty
      | else-is_source-via-else-is_source w ↦
          let other : is_source_at c.self.inside.chain c.loop-place.place ≡ false = sym c.is_source.ensures ∙ w.if-is_source.false in
          ap (λ b. b && nat_lt 0 (length (octets_at c.self.inside.chain c.loop-place.place))) other
    ] in
    record {
      first = omega arith;
      within = omega arith;
      last = c.loop-place.invariant.last;
      rest = rw (← c.self.view_is) (none_at (flow_of c.self.inside) c.loop-place.place c.loop-place.invariant.first last c.places-place-end.ensures.sound.order none ∙ rest);
    }

pub returns : goal.returns
returns c =
    let rest : filled_from (c.loop-place.place - 1) c.self.inside.chain.places ≡ meters_hold (flow_of c.self.inside) = rw (← c.self.view_is) at c.loop-place.invariant.rest in
    let last : c.loop-place.place ≡ last_place (flow_of c.self.inside) = omega arith in
    rw (← c.self.view_is) (sym (last_none (flow_of c.self.inside) c.loop-place.place last (omega arith) c.places-place-end.ensures.sound.order) ∙ rest)
