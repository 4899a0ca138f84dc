-- Lines that may come, and a tape of their events.
use Rattle.tape_laws.specs.Following.{MayFollowAll}
use Rattle.session_lines.specs.Seen.{Headed, Playing, Seen, Unread, are_limits, seen_events}
use Rattle.std.specs.Prelude.{IsTrue, [], ◌≡◌}
use Rattle.tape_laws.specs.Dispatches.{events_back}
use Rattle.tape_laws.specs.History.{History, NoMark}
use Rattle.tape_laws.specs.PlainTape.{IsPlainWhole}
use Rattle.tape_laws.specs.declared.PlainLimits.{PlainLimits}

abbrev pub IsSeen : Seen → Type 0
IsSeen Unread = Unit {0}
IsSeen (Headed f) = Unit {0}
IsSeen (Playing f l es) = IsTrue (are_limits f l) × MayFollowAll es

-- the limits are those of the limits line; before it the tape is empty, and the limits are any
abbrev pub HasLimits : Seen → PlainLimits → History NoMark → Type 0
HasLimits (Playing f l es) limits history = limits ≡ l
HasLimits seen limits history = history ≡ []

-- a lawful tape of whole dispatches, one for the event of each line
pub record IsTape (seen : Seen) (limits : PlainLimits) (history : History NoMark) : Type 0 where
  pub may : IsSeen seen
  pub limited : HasLimits seen limits history
  pub whole : IsPlainWhole limits history
  pub events : events_back history ≡ seen_events seen
