-- What the laws ask of each step besides what lawful tapes show, and a lawful history with it.
use Rattle.flow_laws.specs.Balance.{LeavesClosed}
use Rattle.flow_laws.specs.Endings.{EndsInTime}
use Rattle.flow_laws.specs.Fitting.{FitsIn}
use Rattle.flow_laws.specs.Octets.{GoesOn, ReadsBody}
use Rattle.tape_laws.specs.Demands.{Answers, OnlyAsked}
use Rattle.tape_laws.specs.Doomed.{LeavesDoomed, SweepsLast}
use Rattle.tape_laws.specs.Framing.{KeepsEnds}
use Rattle.tape_laws.specs.History.{BeforeTurn, EachFollows, History, Step}
use Rattle.tape_laws.specs.Lawful.{IsLawful}
use Rattle.tape_laws.specs.Order.{InTurn}
use Rattle.tape_laws.specs.Pauses.{PausesInOrder}
use Rattle.tape_laws.specs.Quiet.{IsQuiet}
use Rattle.tape_laws.specs.Release.{MayStand}
use Rattle.tape_laws.specs.Setup.{Session, Setup}

pub record Suits {Mark : Type 0} (setup : Setup Mark) (step : Step Mark) (past : History Mark) : Type 0 where
  pub fits : FitsIn setup step past
  pub closed : BeforeTurn (LeavesClosed setup) step past
  pub goes_on : GoesOn setup step past
  pub reads : ReadsBody setup step past
  pub in_time : EndsInTime setup step past

-- a lawful history whose steps suit
pub record IsSound {Mark : Type 0} (session : Session Mark) (h : History Mark) : Type 0 where
  pub lawful : IsLawful session h
  pub suited : EachFollows (Suits session.setup) h

-- What one more step owes: each law of what may follow. What holds at each moment, its counts, bounds and ties, follows.
pub record MayGoOn {Mark : Type 0} (session : Session Mark) (step : Step Mark) (past : History Mark) : Type 0 where
  pub allowed : MayStand session.setup step past
  pub paused : PausesInOrder session.setup step past
  pub ends : KeepsEnds session.setup step past
  pub in_turn : InTurn session.setup step past
  pub doomed : LeavesDoomed step past
  pub swept : SweepsLast step past
  pub answered : Answers session step past
  pub only : OnlyAsked session step past
  pub licensed : session.licensed step past
  pub may : session.may step past
  pub quiet : BeforeTurn (IsQuiet session) step past
  pub suits : Suits session.setup step past
