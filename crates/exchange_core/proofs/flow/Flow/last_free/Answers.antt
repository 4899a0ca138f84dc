use Rattle.std.proofs.Common.{◌≡◌, ◌-◌, ◌<◌, ◌≤◌, ◌∙◌, true, false, sym, arith}
use Rattle.exchange_core.proofs.Free.{clear_here, found_here, free_start, held_here, passed_here, target_clear, target_holds}
use Rattle.exchange_core.proofs.flow.Flow.last_free.Goals as goal
use Rattle.exchange_core.specs.Flow.{last_place}
use Rattle.exchange_core.specs.Moves.{is_held_at, later_above, may_release}

pub returns-then-is_target_above-clause-place : goal.returns-then-is_target_above-clause-place
returns-then-is_target_above-clause-place c =
    let some : 1 ≤ last_place c.args.self.now = rw (← c.self.view_is) (omega (arith, c.places-place.ensures.sound.few)) in
    sym (target_holds c.args.gates.now c.args.to c.args.self.now some (sym c.is_target_above.ensures ∙ c.if-is_target_above.true))

pub loop-place-init : goal.loop-place-init
loop-place-init c =
    let last : c.places-place.result ≡ last_place c.args.self.now = rw (← c.self.view_is) c.places-place.ensures.places in
    record {
      within = omega arith;
      clear = target_clear c.args.gates.now c.args.to c.args.self.now c.places-place.result last (sym c.is_target_above.ensures ∙ c.if-is_target_above.false);
      rest = free_start c.args.gates.now c.args.to c.args.self.now c.places-place.result (omega (arith, c.places-place.ensures.sound.few)) last;
    }

pub returns-then-is_held_at-clause-place : goal.returns-then-is_held_at-clause-place
returns-then-is_held_at-clause-place c =
    let held : is_held_at c.args.gates.now c.args.self.now c.loop-place.place ≡ true = sym c.is_held_at.ensures ∙ c.if-is_held_at.true in
    sym (c.loop-place.invariant.rest ∙ held_here c.args.gates.now c.args.to c.args.self.now c.loop-place.place (omega arith) c.loop-place.invariant.within held)

pub returns-then-n-gt0-clause-place : goal.returns-then-n-gt0-clause-place
returns-then-n-gt0-clause-place c =
    let held : is_held_at c.args.gates.now c.args.self.now c.loop-place.place ≡ false = sym c.is_held_at.ensures ∙ c.if-is_held_at.false in
    let clear : later_above c.args.gates.now c.args.to c.args.self.now (c.loop-place.place - 1) ≡ false =
    clear_here c.args.gates.now c.args.to c.args.self.now c.loop-place.place (omega arith) c.loop-place.invariant.within held c.loop-place.invariant.clear in
    let some : 0 < may_release c.args.gates.now c.args.self.now (c.loop-place.place - 1) = omega (arith, c.may_release-n.ensures.released) in
    sym (c.loop-place.invariant.rest ∙ found_here c.args.gates.now c.args.to c.args.self.now c.loop-place.place (omega arith) some clear)

pub loop-place-preserved : goal.loop-place-preserved
loop-place-preserved c =
    let held : is_held_at c.args.gates.now c.args.self.now c.loop-place.place ≡ false = sym c.is_held_at.ensures ∙ c.if-is_held_at.false in
    let clear : later_above c.args.gates.now c.args.to c.args.self.now (c.loop-place.place - 1) ≡ false =
    clear_here c.args.gates.now c.args.to c.args.self.now c.loop-place.place (omega arith) c.loop-place.invariant.within held c.loop-place.invariant.clear in
    let none : may_release c.args.gates.now c.args.self.now (c.loop-place.place - 1) ≡ 0 = omega (arith, c.may_release-n.ensures.released) in
    record {
      within = omega arith;
      clear = clear;
      rest = c.loop-place.invariant.rest ∙ passed_here c.args.gates.now c.args.to c.args.self.now c.loop-place.place (omega arith) none clear;
    }
