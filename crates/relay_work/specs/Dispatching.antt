-- One event of a live relay: its line is written, and it is dispatched.
use Rattle.flow_notes.specs.Event.{event_spelling}
use Rattle.flow_notes.specs.Line.{newline}
use Rattle.flow_notes.specs.declared.events.Event.{Event}
use Rattle.relay_laws.specs.Dispatch.{dispatch_notes}
use Rattle.relay_laws.specs.Order.{MayCome}
use Rattle.relay_laws.specs.Pairs.{Tape}
use Rattle.relay_work.specs.declared.turns.RelayEnded.{RelayEnded}
use Rattle.std.specs.Io.KnownBytes.{Appends}
use Rattle.std.specs.Prelude.{Err, List, None, Ok, Option, Result, [], ℕ, ◌++◌, ◌∷◌, ◌≡◌, ◌⊎◌}
use Rattle.tape_laws.specs.Dispatches.{events_back}
use Rattle.tape_laws.specs.History.{onto}
use Rattle.tcp_relay.specs.Interests.{AreKept}
use Rattle.tcp_relay.specs.Rests.{Rests, held_by}
use Rattle.tcp_relay.specs.declared.interests.Interests.{Interests}
use Rattle.tcp_relay.specs.declared.relay.Relay.{Relay}
use Rattle.relay_work.specs.declared.turns.RelayEnded.TheVariants as ended

-- a relay at rest, and an event that may come and doesn't read a paused flow
pub record MayTake (limit : ℕ) (names : List (List ℕ)) (relay : Relay) (e : Event) (h : Tape) : Type 0 where
  pub rests : Rests limit names relay h
  pub may : MayCome names (events_back h) e
  pub free : held_by limit e h ≡ None

pub record CanTake (names : List (List ℕ)) (relay : Relay) (e : Event) : Type 0 where
  pub limit : ℕ
  pub tape : Tape
  pub takes : MayTake limit names relay e tape

abbrev pub line_of : List (List ℕ) → Event → List ℕ
line_of names e = event_spelling names e ++ newline

-- the relay stands for the tape with the event's dispatch
pub record Taken (limit : ℕ) (names : List (List ℕ)) (e : Event) (h : Tape) (new : Relay) : Type 0 where
  pub rests : Rests limit names new (onto (dispatch_notes limit e h) h)
  pub shown : events_back (onto (dispatch_notes limit e h) h) ≡ e ∷ events_back h

-- a front of the line stands in the journal
pub record LineCut (line : List ℕ) (old new : Option (List ℕ)) : Type 0 where
  pub front : List ℕ
  pub rest : List ℕ
  pub is : line ≡ front ++ rest
  pub text : Appends old new front

-- all of it, or nothing
pub record LineOrNone (line : List ℕ) (old new : Option (List ℕ)) : Type 0 where
  pub cut : LineCut line old new
  pub whole : (cut.front ≡ []) ⊎ (cut.rest ≡ [])

-- the line was written, or the journal failed, or there was no memory to spell it
abbrev pub KeepsLine : List ℕ → Option (List ℕ) → Result (Unit {0}) RelayEnded → Option (List ℕ) → Type 0
KeepsLine line old (Ok u) new = Appends old new line
KeepsLine line old (Err ended.JournalFault) new = LineCut line old new
KeepsLine line old (Err ended.Memory) new = new ≡ old
KeepsLine line old (Err other) new = ⊥

abbrev pub Takes : (limit : ℕ) (names : List (List ℕ)) (e : Event) (h : Tape) → Option (List ℕ) → Result Interests RelayEnded → Relay → Option (List ℕ) → Type 0
Takes limit names e h old (Ok answer) new text = Taken limit names e h new × Appends old text (line_of names e) × AreKept answer limit e h
Takes limit names e h old (Err ended.JournalFault) new text = Rests limit names new h × LineCut (line_of names e) old text
Takes limit names e h old (Err ended.Memory) new text = LineOrNone (line_of names e) old text
Takes limit names e h old (Err other) new text = ⊥

pub record TakesFrom (names : List (List ℕ)) (old : Relay) (text_old : Option (List ℕ)) (e : Event) (result : Result Interests RelayEnded) (new : Relay) (text_new : Option (List ℕ)) : Type 0 where
  pub goes : (limit : ℕ) (h : Tape) → MayTake limit names old e h → Takes limit names e h text_old result new text_new
