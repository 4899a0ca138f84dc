-- Lane after lane is set.
use Rattle.std.proofs.Common.{arith, refl}
use Rattle.tape_plot.proofs.Flowing.{set_all_shows, set_long, set_one, set_within, shown_none}
use Rattle.tape_plot.specs.declared.flow.Place.{Place}
use Rattle.tape_plot.proofs.flow.set_all.Goals as goal

pub loop-i-init : goal.loop-i-init
loop-i-init c = record { shown = shown_none _ _ _; long = refl; within = omega arith }

pub loop-i-preserved : goal.loop-i-preserved
loop-i-preserved c =
    let x : Place = record { lane = c.set.new.self } in record {
      shown =
          set_one c.args.places.now.items c.loop-i.places.items _ c.args.held.now.levels.items c.args.clock.now c.loop-i.i c.at.result c.index_mut.result.now x c.loop-i.invariant.shown (omega arith) refl
          c.index_mut.ensures.value c.at.ensures c.in_ok-set.ensures;
      long = set_long c.args.places.now.items c.loop-i.places.items c.loop-i.i x c.loop-i.invariant.long;
      within = set_within c.loop-i.places.items c.loop-i.i x (omega arith);
    }

pub returns : goal.returns
returns c = record {
  shows =
      set_all_shows c.args.places.now.items c.loop-i.places.items c.args.held.now.levels.items c.args.clock.now c.loop-i.i c.loop-i.invariant.shown c.loop-i.invariant.long (omega arith) c.loop-i.invariant.within
      c.requires;
  many = c.loop-i.invariant.long;
}
