-- What a lawful tape of a relay shows. It may be cut short in its last dispatch.
use Rattle.relay_laws.specs.Given.{owed}
use Rattle.relay_laws.specs.Pairs.{Tape, feed, goes_to, opposite}
use Rattle.relay_laws.specs.Watermark.{drains, rises}
use Rattle.relay_laws.specs.World.{out}
use Rattle.relay_laws.specs.declared.Feed.{Feed}
use Rattle.std.specs.Prelude.{IfSome, Some, [], length, ℕ, ◌+◌, ◌<◌, ◌≡◌, ◌≤◌}
use Rattle.tape_laws.specs.Dispatches.{turns}
use Rattle.tape_laws.specs.Doomed.{LeavesDoomed}
use Rattle.tape_laws.specs.History.{BeforeOthers, BeforeTurn, EachFollows, Marked, NoMark, Noted, Step}
use Rattle.tape_laws.specs.Pauses.{Heads, count, pauses, resumes}
use Rattle.flow_rules.specs.declared.ids.BufferId.TheVariants as buffer
use Rattle.flow_notes.specs.declared.events.Event.TheVariants as event
use Rattle.flow_notes.specs.declared.notes.Note.TheVariants as note

-- P holds of each connection in a live pair, with what it feeds
abbrev pub EachPaired : (ℕ → Feed → Type 0) → Tape → Type 0
EachPaired P past = (c : ℕ) → IfSome (feed c past) (P c)

-- A start, in, out, doom, gone and close note stands where its dispatch's event gives it, and nowhere else. A pause or a
-- resume names the write buffer that its flow goes to.
abbrev pub StandsWhereGiven : Step NoMark → Tape → Type 0
StandsWhereGiven (Noted (note.Turn k e)) past = (k ≡ turns past + 1) × (owed past ≡ [])
StandsWhereGiven (Noted (note.Pause f (buffer.Write c))) past = goes_to f past ≡ Some c
StandsWhereGiven (Noted (note.Pause f b)) past = ⊥
StandsWhereGiven (Noted (note.Resume f (buffer.Write c))) past = goes_to f past ≡ Some c
StandsWhereGiven (Noted (note.Resume f b)) past = ⊥
StandsWhereGiven (Noted n) past = Heads n (owed past)
StandsWhereGiven (Marked m) past = ⊥

-- octets leave only where they are
abbrev pub TakesWhatIsThere : Step NoMark → Tape → Type 0
TakesWhatIsThere (Noted (note.Out c n)) past = (0 < n) × (n ≤ length (out c past))
TakesWhatIsThere step past = Unit {0}

-- nothing is read from a connection whose flow is paused
abbrev pub BacksOff : Step NoMark → Tape → Type 0
BacksOff (Noted (note.Turn k (event.Read c octets))) past = IfSome (feed c past) (λ f. count f.flow past ≡ 0)
BacksOff step past = Unit {0}

-- The flow to a connection in a live pair was paused as often as its write buffer rose since the pair's start, and resumed
-- at most as often as that drained.
pub record IsPaused (limit : ℕ) (past : Tape) (c : ℕ) (f : Feed) : Type 0 where
  pub pauses : pauses (opposite f.flow) past ≡ rises limit f.flow.exchange c past
  pub resumes : resumes (opposite f.flow) past ≤ drains limit f.flow.exchange c past

abbrev pub ArePaused : ℕ → Tape → Type 0
ArePaused limit past = EachPaired (IsPaused limit past) past

-- and at a dispatch's end just as often
abbrev pub AreResumed : ℕ → Tape → Type 0
AreResumed limit past = EachPaired (λ c f. resumes (opposite f.flow) past ≡ drains limit f.flow.exchange c past) past

pub record IsRelayTape (limit : ℕ) (history : Tape) : Type 0 where
  pub given : EachFollows StandsWhereGiven history
  pub taken : EachFollows TakesWhatIsThere history
  pub backs_off : EachFollows BacksOff history
  -- at each settled moment, and at each end of a dispatch
  pub paused : EachFollows (BeforeOthers (ArePaused limit)) history
  pub resumed : EachFollows (BeforeTurn (AreResumed limit)) history
  -- a doomed pair is untouched until it is gone
  pub doomed : EachFollows LeavesDoomed history

-- a tape of whole dispatches
pub record IsRelayWhole (limit : ℕ) (history : Tape) : Type 0 where
  pub lawful : IsRelayTape limit history
  pub done : owed history ≡ []
  pub paused : ArePaused limit history
  pub resumed : AreResumed limit history
