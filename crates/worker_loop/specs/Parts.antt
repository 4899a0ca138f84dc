-- The parts of what one call of the work promises. N is the list of notes that it handed to a journal that tells.
use Rattle.flow_notes.specs.declared.events.Event.{Event}
use Rattle.flow_notes.specs.declared.events.Event.TheVariants as event
use Rattle.flow_notes.specs.declared.notes.Note.{Note}
use Rattle.flow_notes.specs.declared.notes.Note.TheVariants as note
use Rattle.post_queue.specs.declared.posts.Post.{Post}
use Rattle.session_run.specs.Ends.{AppendsFront}
use Rattle.shared_state.specs.declared.permit_rule.PermitView.{PermitView}
use Rattle.std.specs.Io.KnownBytes.{Appends, append_known}
use Rattle.std.specs.Prelude.{Bool, List, Option, Some, [], false, if◌then◌else◌, length, map, suc, take, true, ℕ, ◌++◌, ◌+◌, ◌<◌, ◌==◌, ◌∷◌, ◌≡◌, ◌≤◌, ◌⊎◌}
use Rattle.tape_laws.specs.Connections.{connections}
use Rattle.tape_laws.specs.Dispatches.{has}
use Rattle.tape_laws.specs.World.{gone}
use Rattle.wire_state.specs.Ways.{WayHistory, WayStep, after, shown, world_setup}
use Rattle.worker_core.specs.Sessions.{CarriesOut, KeepsTo, PromisesAt, StandsAt, WaysAt, version_of}
use Rattle.worker_core.specs.declared.worker.Kind.{Kind}
use Rattle.worker_loop.specs.Carrying.{post_event}
use Rattle.worker_loop.specs.Places.{event_line}
use Rattle.worker_loop.specs.Turns.{Sides}
use Rattle.worker_loop.specs.Works.{AreRising, MayMiss, posts_in, ticks_in, versions_in}
use Rattle.worker_loop.specs.declared.turns.Ended.{Ended}
use Rattle.worker_loop.specs.declared.turns.Ended.TheVariants as ended
use Rattle.worker_ports.specs.Wires.{Seen}
use Rattle.worker_ports.specs.declared.wires.WireStep.{WireStep}
use Rattle.worker_ports.specs.declared.wires.WireStep.TheVariants as step
use Rattle.worker_ports.specs.declared.wires.Wired.TheVariants as wired

-- the events of the turn notes
abbrev pub turn_events : List Note → List Event
turn_events [] = []
turn_events (note.Turn number e ∷ ns) = e ∷ turn_events ns
turn_events (n ∷ ns) = turn_events ns

-- so many notes were handed to a journal that tells
abbrev pub Hands : (old new : Option (List Note)) → List Note → Type 0
Hands old new notes = (before : List Note) × (old ≡ Some before) × (new ≡ Some (before ++ notes))

-- ---- (a) the lines
abbrev pub lines_of : List (List ℕ) → List Event → List ℕ
lines_of names [] = []
lines_of names (e ∷ es) = event_line names e ++ lines_of names es

-- Where the journal failed, a front of one line more may follow, whose event wasn't dispatched; where memory was refused, the line
-- of an event that was cut short.
abbrev pub EndsLines : List (List ℕ) → Ended → List ℕ → (old new : Option (List ℕ)) → Type 0
EndsLines names ended.JournalFault lines old new = (e : Event) × AppendsFront (append_known old lines) new (event_line names e)
EndsLines names ended.Memory lines old new = Appends old new lines ⊎ ((e : Event) × Appends old new (lines ++ event_line names e))
EndsLines names end lines old new = Appends old new lines

-- the lines of the events that were dispatched
pub record Lines (names : List (List ℕ)) (end : Ended) (old_text new_text : Option (List ℕ)) (old_told new_told : Option (List Note)) : Type 0 where
  pub goes : (notes : List Note) → Hands old_told new_told notes → EndsLines names end (lines_of names (turn_events notes)) old_text new_text

-- ---- (b) the tape
-- whole dispatches, one after the other
pub data Whole : Kind → List Note → Kind → Type 0 where
  NoneWhole : (k : Kind) → Whole k [] k
  OneWhole : (k mid new : Kind) (e : Event) (first rest : List Note) → CarriesOut k [] e mid first → Whole mid rest new → Whole k (first ++ rest) new

-- without memory nothing is said of the core
abbrev pub EndsWhole : Ended → Kind → List Note → Kind → Type 0
EndsWhole ended.Memory k notes new = (mid : Kind) × Whole k notes mid
EndsWhole end k notes new = Whole k notes new

pub record Tape (end : Ended) (k new : Kind) (old_told new_told : Option (List Note)) : Type 0 where
  pub goes : (notes : List Note) → Hands old_told new_told notes → EndsWhole end k notes new

-- ---- (c) the connections
-- what the connections gave and took, against the events: an Accept that wasn't dispatched is closed there and then
pub data Matches : List WireStep → List Event → Type 0 where
  NoneMatch : Matches [] []
  Accepted : (c : ℕ) (ss : List WireStep) (es : List Event) → Matches ss es → Matches (step.Gave (wired.Accept c) ∷ ss) (event.Accept c ∷ es)
  TurnedAway : (c : ℕ) (ss : List WireStep) (es : List Event) → Matches ss es → Matches (step.Gave (wired.Accept c) ∷ step.Closed c ∷ ss) es
  Joined : (c cluster : ℕ) (ss : List WireStep) (es : List Event) → Matches ss es → Matches (step.Gave (wired.Join c cluster) ∷ ss) (event.Join c cluster ∷ es)
  Came : (c : ℕ) (octets : List ℕ) (ss : List WireStep) (es : List Event) → Matches ss es → Matches (step.Gave (wired.Read c octets) ∷ ss) (event.Read c octets ∷ es)
  Went : (c : ℕ) (ss : List WireStep) (es : List Event) → Matches ss es → Matches (step.Gave (wired.Lost c) ∷ ss) (event.Gone c ∷ es)
  Idled : (ss : List WireStep) (es : List Event) → Matches ss es → Matches (step.Gave wired.Idle ∷ ss) es
  Stopped : (ss : List WireStep) (es : List Event) → Matches ss es → Matches (step.Gave wired.Stop ∷ ss) es
  TookNothing : (c : ℕ) (piece : List ℕ) (ss : List WireStep) (es : List Event) → Matches ss es → Matches (step.Offered c piece 0 ∷ ss) es
  Took : (c n : ℕ) (piece : List ℕ) (ss : List WireStep) (es : List Event) → suc n ≤ length piece → Matches ss es → Matches (step.Offered c piece (suc n) ∷ ss) (event.Room c (suc n) ∷ es)
  Closed : (c : ℕ) (ss : List WireStep) (es : List Event) → Matches ss es → Matches (step.Closed c ∷ ss) es

-- the events that the connections gave, or of what they took
abbrev pub outside_events : List Event → List Event
outside_events [] = []
outside_events (event.Tick now ∷ es) = outside_events es
outside_events (event.Post poster number job ∷ es) = outside_events es
outside_events (event.Obey version pressures ∷ es) = outside_events es
outside_events (event.Plain happens ∷ es) = outside_events es
outside_events (e ∷ es) = e ∷ outside_events es

-- at most one thing that was given or taken, and closes behind it
abbrev pub AreCloses : List WireStep → Type 0
AreCloses [] = Unit
AreCloses (step.Closed c ∷ ss) = AreCloses ss
AreCloses (s ∷ ss) = ⊥

abbrev pub IsLast : List WireStep → Type 0
IsLast [] = Unit
IsLast (s ∷ ss) = AreCloses ss

-- where the journal failed or memory was refused, the last thing that the connections gave or took may be missing from the notes
abbrev pub MayLack : Ended → List WireStep → Type 0
MayLack ended.JournalFault lost = IsLast lost
MayLack ended.Memory lost = IsLast lost
MayLack end lost = lost ≡ []

pub record AtWires (end : Ended) (old new : Seen) (old_told new_told : Option (List Note)) : Type 0 where
  pub goes : (notes : List Note) (before steps : List WireStep) → Hands old_told new_told notes → old.steps ≡ Some before → new.steps ≡ Some (before ++ steps)
      → (kept : List WireStep) × (lost : List WireStep) × (steps ≡ kept ++ lost) × MayLack end lost × Matches kept (outside_events (turn_events notes))

-- ---- (b) and (c): the octets
-- the connections of the history have numbers up to n
abbrev pub CameUpTo : ℕ → WayHistory → Type 0
CameUpTo n h = (c : ℕ) → has (connections world_setup h) c ≡ true → c ≤ n

-- what a connection took of the pieces that were offered to it
abbrev pub taken_of : ℕ → List WireStep → List ℕ
taken_of c [] = []
taken_of c (step.Offered d piece n ∷ ss) = (if d == c then take n piece else []) ++ taken_of c ss
taken_of c (s ∷ ss) = taken_of c ss

-- the core stands for the history; without memory nothing is said of it, and one stood for the whole dispatches
abbrev pub EndsStanding : Ended → Kind → WayHistory → Type 0
EndsStanding ended.Memory new h = (mid : Kind) × StandsAt mid h
EndsStanding end new h = StandsAt new h

-- of the steps that are told at the connections, what was taken is what left them between these two histories
pub record TakesWhatLeft (end : Ended) (notes : List Note) (h now : WayHistory) (steps : List WireStep) : Type 0 where
  pub kept : List WireStep
  pub lost : List WireStep
  pub are : steps ≡ kept ++ lost
  pub lacks : MayLack end lost
  pub matches : Matches kept (outside_events (turn_events notes))
  pub left : (c : ℕ) → gone world_setup c now ≡ gone world_setup c h ++ taken_of c kept

-- the notes go on with a history for which the core stood, its marks are tied as those before were, and it has all that a tape of whole
-- dispatches promises: no note takes more octets than lie there, and none leave a receive buffer but at count 0
pub record GoesOnIn (end : Ended) (k new : Kind) (old_seen new_seen : Seen) (notes : List Note) (h : WayHistory) : Type 0 where
  pub steps : List WayStep
  pub is : notes ≡ shown steps
  pub stands : EndsStanding end new (after steps h)
  pub ways : WaysAt k h → WaysAt k (after steps h)
  pub promises : PromisesAt k (after steps h)
  pub keeps : KeepsTo k (after steps h)
  pub came : CameUpTo new_seen.greatest (after steps h)
  pub takes : (before told : List WireStep) → old_seen.steps ≡ Some before → new_seen.steps ≡ Some (before ++ told) → TakesWhatLeft end notes h (after steps h) told

-- For each history for which the core stood, and of which each connection had come to these connections, it stands for that
-- history with the notes behind it. What they took of each is what the notes added to what left it.
pub record InWorld (end : Ended) (k new : Kind) (old_seen new_seen : Seen) (old_told new_told : Option (List Note)) : Type 0 where
  pub goes : (notes : List Note) (h : WayHistory) → Hands old_told new_told notes → StandsAt k h → CameUpTo old_seen.greatest h → GoesOnIn end k new old_seen new_seen notes h

-- ---- (d) the turns
-- So many turns were run whole: each has one tick, one drain of the box and one look of the follower, and leaves the core at the
-- version that the follower knows last, unless it had obeyed a newer one before.
pub record WholeTurns (n : ℕ) (old new : Sides) (k k' : Kind) (old_told new_told : Option (List Note)) : Type 0 where
  pub ticks : (notes : List Note) → Hands old_told new_told notes → length (ticks_in (turn_events notes)) ≡ n
  pub drains : new.pass.drains ≡ old.pass.drains + n
  pub looks : new.looks.asks ≡ old.looks.asks + n
  pub obeyed : 0 < n → version_of k ≤ old.kept.version → version_of k' ≡ new.kept.version

-- The moments of the ticks are those that the clock gave, and the posts those that were drained, as far as it came. The versions that
-- were obeyed rise.
pub record InTurns (turns : ℕ) (end : Ended) (old new : Sides) (k k' : Kind) (old_told new_told : Option (List Note)) : Type 0 where
  pub ticks : (notes : List Note) (before after : List ℕ) → Hands old_told new_told notes → old.moments ≡ Some before → new.moments ≡ Some after
      → (rest : List ℕ) × ((rest ≡ []) ⊎ (MayMiss end × (length rest ≤ 1))) × (after ≡ before ++ (ticks_in (turn_events notes) ++ rest))
  pub posts : (notes : List Note) → Hands old_told new_told notes
      → (ran : List Post) × (rest : List Post) × ((rest ≡ []) ⊎ MayMiss end) × (new.pass.ran ≡ old.pass.ran ++ (ran ++ rest)) × (posts_in (turn_events notes) ≡ map post_event ran)
  pub versions : (notes : List Note) → Hands old_told new_told notes → AreRising (version_of k) (versions_in (turn_events notes))
  pub whole : end ≡ ended.Turns → WholeTurns turns old new k k' old_told new_told
  pub stopped : end ≡ ended.Stopped → (n : ℕ) × (0 < n) × (n ≤ turns) × WholeTurns n old new k k' old_told new_told
