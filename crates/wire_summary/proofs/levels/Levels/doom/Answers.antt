-- The places of the exchange are emptied where they stand, or put in.
use Rattle.wire_summary.proofs.Lending.{lent_all, put_bare}
use Rattle.wire_summary.specs.Places.{emptied_sides}
use Rattle.wire_summary.proofs.levels.Levels.doom.Goals as goal

pub returns-in-Some : goal.returns-in-Some
returns-in-Some c = lent_all c.args.self.now _ _ c.in-Some.places.now c.empty.new.self emptied_sides c.in-Some.ensures.value (c.get_mut.follows.holds c.empty.new.self) c.empty.ensures
