-- What a lawful tape shows, in a plain and in a wire session alike. It may be cut short in its last dispatch.
use Rattle.tape_laws.specs.Bounds.{IsBounded}
use Rattle.tape_laws.specs.Demands.{Answers, OnlyAsked}
use Rattle.tape_laws.specs.Doomed.{LeavesDoomed, SweepsLast}
use Rattle.tape_laws.specs.Framing.{KeepsEnds}
use Rattle.tape_laws.specs.History.{AtEachMoment, BeforeOthers, BeforeTurn, EachFollows, History}
use Rattle.tape_laws.specs.Order.{InTurn}
use Rattle.tape_laws.specs.Pauses.{IsCounted, PausesInOrder}
use Rattle.tape_laws.specs.Quiet.{IsQuiet}
use Rattle.tape_laws.specs.Release.{MayStand}
use Rattle.tape_laws.specs.Setup.{Session}
use Rattle.tape_laws.specs.Tied.{IsTied}

pub record IsLawful {Mark : Type 0} (session : Session Mark) (history : History Mark) : Type 0 where
  -- the octets that each note moves are there, and are those that it has to move
  pub allowed : EachFollows (MayStand session.setup) history
  -- pauses and resumes stand in their order, and none is left out
  pub paused : EachFollows (PausesInOrder session.setup) history
  -- at each settled moment each count is that of its sources above and pending lows
  pub counted : EachFollows (BeforeOthers (IsCounted session.setup)) history
  pub bounded : AtEachMoment (IsBounded session.setup) history
  pub tied : AtEachMoment (IsTied session.setup) history
  -- END_STREAM goes with the last octet, and each unit stands in its turn
  pub ends : EachFollows (KeepsEnds session.setup) history
  pub in_turn : EachFollows (InTurn session.setup) history
  -- a doomed exchange is untouched until it is gone, and the dispatch ends with that
  pub doomed : EachFollows LeavesDoomed history
  pub swept : EachFollows SweepsLast history
  -- what an event, a frame, a timer or a close asks for stands at once, and each doom and close has its cause
  pub answered : EachFollows (Answers session) history
  pub only : EachFollows (OnlyAsked session) history
  pub licensed : EachFollows session.licensed history
  pub may : EachFollows session.may history
  -- each whole dispatch ends quiet
  pub quiet : EachFollows (BeforeTurn (IsQuiet session)) history

-- a tape of whole dispatches
pub record IsWhole {Mark : Type 0} (session : Session Mark) (history : History Mark) : Type 0 where
  pub lawful : IsLawful session history
  pub quiet : IsQuiet session history
