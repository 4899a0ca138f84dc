-- A tape of whole dispatches with the notes that its events give, and no others.
use Rattle.relay_laws.specs.Given.{owed}
use Rattle.relay_laws.specs.Lawful.{StandsWhereGiven, TakesWhatIsThere}
use Rattle.relay_laws.specs.Pairs.{Tape}
use Rattle.std.specs.Prelude.{[], ◌≡◌}
use Rattle.tape_laws.specs.Doomed.{LeavesDoomed}
use Rattle.tape_laws.specs.History.{EachFollows}

pub record IsAsGiven (history : Tape) : Type 0 where
  -- each note stands where its dispatch's event gives it, and octets leave only where they are
  pub given : EachFollows StandsWhereGiven history
  pub taken : EachFollows TakesWhatIsThere history
  -- a doomed pair is untouched until it is gone, and nothing is left to stand
  pub doomed : EachFollows LeavesDoomed history
  pub done : owed history ≡ []
