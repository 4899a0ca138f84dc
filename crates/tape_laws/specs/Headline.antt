-- What a tape of whole dispatches promises to an operator, for every flow and buffer.
use Rattle.flow_rules.specs.declared.ids.FlowId.{FlowId}
use Rattle.std.specs.Prelude.{◌≡◌}
use Rattle.tape_laws.specs.Bounds.{IsBounded}
use Rattle.tape_laws.specs.History.{AtEachMoment, BeforeTurn, EachFollows, History}
use Rattle.tape_laws.specs.Pauses.{count}
use Rattle.tape_laws.specs.Setup.{Setup}
use Rattle.tape_laws.specs.Sources.{EachLive, disabled}
use Rattle.tape_laws.specs.Tied.{IsFront}
use Rattle.tape_laws.specs.World.{sent}

-- what each flow sent on is a front of the body that was read for it
abbrev pub SendsItsBody : {Mark : Type 0} → Setup Mark → History Mark → Type 0
SendsItsBody setup past = (f : FlowId) → IsFront (sent setup f past) (setup.body f past)

-- the read-disable count of each live flow is the number of its sources that rose above high and haven't drained to low
abbrev pub CountsItsSources : {Mark : Type 0} → Setup Mark → History Mark → Type 0
CountsItsSources setup past = EachLive setup (λ f. count f past ≡ disabled setup f past) past

pub record Headline {Mark : Type 0} (setup : Setup Mark) (history : History Mark) : Type 0 where
  pub sent : AtEachMoment (SendsItsBody setup) history
  -- a buffer with a limit holds at most the limit and one unit, a receive buffer at most the advertised window
  pub bounded : AtEachMoment (IsBounded setup) history
  -- after each dispatch, the last one too
  pub counted : EachFollows (BeforeTurn (CountsItsSources setup)) history
  pub last : CountsItsSources setup history
