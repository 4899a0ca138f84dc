-- An event of a live relay is carried out: dispatched, and the connections are told of it.
use Rattle.flow_notes.specs.declared.events.Event.{Event}
use Rattle.relay_laws.specs.Dispatch.{dispatch_notes}
use Rattle.relay_laws.specs.Order.{named}
use Rattle.relay_laws.specs.Pairs.{Tape, feed, is_open}
use Rattle.relay_work.specs.Belonging.{Belong}
use Rattle.relay_work.specs.Dispatching.{LineCut, LineOrNone, MayTake, line_of}
use Rattle.relay_work.specs.Live.{Live}
use Rattle.relay_work.specs.Settling.{AreCloses, peer_in}
use Rattle.relay_work.specs.Turns.{with_all}
use Rattle.relay_work.specs.declared.turns.RelayEnded.{RelayEnded}
use Rattle.std.specs.Io.KnownBytes.{Appends}
use Rattle.std.specs.List.{AllByRecursion}
use Rattle.std.specs.Prelude.{Err, List, None, Ok, Option, Result, false, length, not, true, ℕ, ◌==◌, ◌∷◌, ◌≡◌, ◌≤◌}
use Rattle.tape_laws.specs.Dispatches.{events_back}
use Rattle.tape_laws.specs.History.{onto}
use Rattle.tcp_relay.specs.Interests.{comes}
use Rattle.tcp_relay.specs.Rests.{Rests, goes_on}
use Rattle.tcp_relay.specs.declared.relay.Relay.{Relay}
use Rattle.worker_ports.specs.Wires.{Seen, is_held, is_live}
use Rattle.worker_ports.specs.declared.wires.WireStep.{WireStep}
use Rattle.flow_notes.specs.declared.events.Event.TheVariants as event
use Rattle.relay_work.specs.declared.turns.RelayEnded.TheVariants as ended

-- the connection of an event is live as the event says
abbrev pub IsOf : Event → ℕ → Seen → Tape → Type 0
IsOf (event.Accept d) c seen h = (d ≡ c) × (is_live c seen ≡ true)
IsOf (event.Join d cluster) c seen h = (d ≡ c) × (is_live c seen ≡ true)
IsOf (event.Read d octets) c seen h = (d ≡ c) × (is_live c seen ≡ is_open c h)
IsOf (event.Room d n) c seen h = (d ≡ c) × (is_live c seen ≡ is_open c h)
IsOf (event.Gone d) c seen h = (d ≡ c) × (is_live c seen ≡ false)
IsOf e c seen h = ⊥

-- the connections have told an event of one of them, and belong to the relay but for that one, where it came or was lost
pub record Ready (limit : ℕ) (names : List (List ℕ)) (relay : Relay) (seen : Seen) (c : ℕ) (e : Event) (h : Tape) : Type 0 where
  pub takes : MayTake limit names relay e h
  pub of : IsOf e c seen h
  pub clusters : seen.clusters ≡ length names
  pub newer : AllByRecursion (λ d. d ≤ seen.greatest) (named (e ∷ events_back h))
  pub live : (d : ℕ) → (c == d) ≡ false → is_live d seen ≡ is_open d h
  pub held : (d : ℕ) → (c == d) ≡ false → is_live d seen ≡ true → is_held d seen ≡ not (goes_on limit (feed d h) h)
  pub still : comes e ≡ false → is_live c seen ≡ true → is_held c seen ≡ not (goes_on limit (feed c h) h)

pub record IsReady (names : List (List ℕ)) (relay : Relay) (seen : Seen) (c : ℕ) (e : Event) : Type 0 where
  pub limit : ℕ
  pub tape : Tape
  pub ready : Ready limit names relay seen c e tape

-- the other connection of the pair of one that is lost
abbrev pub parting_of : Event → Tape → Option ℕ
parting_of (event.Gone c) h = peer_in (feed c h)
parting_of e h = None

pub record PartsFrom (relay : Relay) (e : Event) (answer : Option ℕ) : Type 0 where
  pub goes : (limit : ℕ) (names : List (List ℕ)) (h : Tape) → Rests limit names relay h → answer ≡ parting_of e h

-- the event was dispatched, and they belong together again
pub record Carried (limit : ℕ) (names : List (List ℕ)) (e : Event) (h : Tape) (old new : Live) : Type 0 where
  pub closes : List WireStep
  pub told : new.seen.steps ≡ with_all closes old.seen.steps
  pub over : AreCloses closes (onto (dispatch_notes limit e h) h)
  pub text : Appends old.text new.text (line_of names e)
  pub shown : events_back (onto (dispatch_notes limit e h) h) ≡ e ∷ events_back h
  pub belong : Belong limit names new.relay new.seen (onto (dispatch_notes limit e h) h)

abbrev pub Carries : (limit : ℕ) (names : List (List ℕ)) (e : Event) (h : Tape) → Live → Result (Unit {0}) RelayEnded → Live → Type 0
Carries limit names e h old (Ok u) new = Carried limit names e h old new
Carries limit names e h old (Err ended.JournalFault) new = (new.seen ≡ old.seen) × Rests limit names new.relay h × LineCut (line_of names e) old.text new.text
Carries limit names e h old (Err ended.Memory) new = (new.seen ≡ old.seen) × LineOrNone (line_of names e) old.text new.text
Carries limit names e h old (Err other) new = ⊥

pub record CarriesFrom (names : List (List ℕ)) (c : ℕ) (e : Event) (old : Live) (result : Result (Unit {0}) RelayEnded) (new : Live) : Type 0 where
  pub goes : (limit : ℕ) (h : Tape) → Ready limit names old.relay old.seen c e h → Carries limit names e h old result new
