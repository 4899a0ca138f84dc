-- Any event, as the tape and as the connections show it.
use Rattle.flow_notes.specs.Event.{IsEvent}
use Rattle.flow_notes.specs.declared.events.Event.{Event}
use Rattle.flow_notes.specs.declared.events.Job.{Job}
use Rattle.flow_notes.specs.declared.events.PlainEvent.{PlainEvent}
use Rattle.flow_notes.specs.declared.notes.Note.{Note}
use Rattle.flow_rules.specs.declared.ids.FlowId.{FlowId}
use Rattle.relay_laws.specs.Dispatch.{dispatch_notes}
use Rattle.relay_laws.specs.Order.{may_come}
use Rattle.relay_laws.specs.Pairs.{Tape}
use Rattle.relay_laws.specs.Sound.{IsSound}
use Rattle.std.proofs.Common.{ap, refl, ◌∙◌}
use Rattle.std.specs.Prelude.{Bool, List, None, Option, Some, false, true, ℕ, ◌+◌, ◌++◌, ◌∷◌, ◌≡◌}
use Rattle.tape_laws.specs.Dispatches.{events_back, turns}
use Rattle.tape_laws.specs.History.{Noted, onto}
use Rattle.tcp_relay.proofs.Boards.{board_same}
use Rattle.tcp_relay.proofs.Shapes.{turn_of}
use Rattle.tcp_relay.proofs.TieComes.{tied_accept, tied_join}
use Rattle.tcp_relay.proofs.TieLosses.{tied_gone}
use Rattle.tcp_relay.proofs.TieReads.{tied_read}
use Rattle.tcp_relay.proofs.TieRooms.{tied_room}
use Rattle.tcp_relay.specs.Board.{effect_of}
use Rattle.tcp_relay.specs.Effects.{arrival_of, drained_of, ended_of, notes_of, pause_of, resume_of}
use Rattle.tcp_relay.specs.Stands.{tape_board}
use Rattle.tcp_relay.specs.Ties.{Tied}
use Rattle.tcp_relay.specs.declared.effect.Effect.{Effect}
use Rattle.tcp_relay.specs.declared.effect.Ended.{Ended}
use Rattle.flow_notes.specs.declared.events.Event.TheVariants as event
use Rattle.flow_rules.specs.declared.causes.Cause.TheVariants as cause
use Rattle.flow_notes.specs.declared.notes.CloseCause.TheVariants as closed
use Rattle.flow_notes.specs.declared.notes.Note.TheVariants as note
use Rattle.tcp_relay.specs.declared.effect.Effect.TheVariants as effect

module _ (limit : ℕ) (h : Tape) where
  tied_tick : (now : ℕ) → Tied limit (event.Tick now) h
  tied_tick now = record { notes = refl; board = board_same limit (Noted (turn_of limit h (event.Tick now))) h refl refl (λ d. refl) (λ d. refl) (λ d. refl) }

  tied_post : (p n : ℕ) (job : Job) → Tied limit (event.Post p n job) h
  tied_post p n job = record { notes = refl; board = board_same limit (Noted (turn_of limit h (event.Post p n job))) h refl refl (λ d. refl) (λ d. refl) (λ d. refl) }

  tied_obey : (v : ℕ) (ps : List ℕ) → Tied limit (event.Obey v ps) h
  tied_obey v ps = record { notes = refl; board = board_same limit (Noted (turn_of limit h (event.Obey v ps))) h refl refl (λ d. refl) (λ d. refl) (λ d. refl) }

  tied_plain : (e : PlainEvent) → Tied limit (event.Plain e) h
  tied_plain e = record { notes = refl; board = board_same limit (Noted (turn_of limit h (event.Plain e))) h refl refl (λ d. refl) (λ d. refl) (λ d. refl) }

  pub tied : (names : List (List ℕ)) (e : Event) → IsSound h → may_come (events_back h) e ≡ true → IsEvent names e → Tied limit e h
  tied names (event.Accept c) s new is = tied_accept limit c h s new
  tied names (event.Join c cluster) s new is = tied_join limit c h s new cluster
  tied names (event.Read c octets) s new is = tied_read limit c octets h s is.0
  tied names (event.Gone c) s new is = tied_gone limit c h s
  tied names (event.Room c n) s new is = tied_room limit c n h s
  tied names (event.Tick now) s new is = tied_tick now
  tied names (event.Post p n job) s new is = tied_post p n job
  tied names (event.Obey v ps) s new is = tied_obey v ps
  tied names (event.Plain e) s new is = tied_plain e

-- ---- the notes of an event begin no other dispatch
module _ {A : Type 0} (F : Tape → A) (arrive : (f : FlowId) (octets : List ℕ) (h : Tape) → F (Noted (note.Arrive f octets) ∷ h) ≡ F h) where
  arrivals : (e : Event) (f : FlowId) (ns : List Note) (h : Tape) → ((h : Tape) → F (onto ns h) ≡ F h) → F (onto (arrival_of e f ++ ns) h) ≡ F h
  arrivals (event.Read c octets) f ns h k = k (Noted (note.Arrive f octets) ∷ h) ∙ arrive f octets h
  arrivals (event.Accept c) f ns h k = k h
  arrivals (event.Join c cluster) f ns h k = k h
  arrivals (event.Gone c) f ns h k = k h
  arrivals (event.Room c n) f ns h k = k h
  arrivals (event.Tick now) f ns h k = k h
  arrivals (event.Post p n job) f ns h k = k h
  arrivals (event.Obey v ps) f ns h k = k h
  arrivals (event.Plain e) f ns h k = k h

drained_events : (b : Bool) (c : ℕ) (h : Tape) → events_back (onto (drained_of b c) h) ≡ events_back h
drained_events true c h = refl
drained_events false c h = refl

drained_turns : (b : Bool) (c : ℕ) (h : Tape) → turns (onto (drained_of b c) h) ≡ turns h
drained_turns true c h = refl
drained_turns false c h = refl

paused_events : (b : Bool) (f : FlowId) (c : ℕ) (h : Tape) → events_back (onto (pause_of b f c) h) ≡ events_back h
paused_events true f c h = refl
paused_events false f c h = refl

paused_turns : (b : Bool) (f : FlowId) (c : ℕ) (h : Tape) → turns (onto (pause_of b f c) h) ≡ turns h
paused_turns true f c h = refl
paused_turns false f c h = refl

resumed_events : (o : Option FlowId) (b : Bool) (c d : ℕ) (h : Tape) → events_back (onto (resume_of o c ++ drained_of b d) h) ≡ events_back h
resumed_events None b c d h = drained_events b d h
resumed_events (Some f) true c d h = refl
resumed_events (Some f) false c d h = refl

resumed_turns : (o : Option FlowId) (b : Bool) (c d : ℕ) (h : Tape) → turns (onto (resume_of o c ++ drained_of b d) h) ≡ turns h
resumed_turns None b c d h = drained_turns b d h
resumed_turns (Some f) true c d h = refl
resumed_turns (Some f) false c d h = refl

ended_events : (c : ℕ) (o : Option Ended) (h : Tape) → events_back (onto (ended_of c o) h) ≡ events_back h
ended_events c None h = refl
ended_events c (Some e) h = drained_events e.closed e.other (Noted (note.Gone e.exchange) ∷ Noted (note.Doom e.exchange (cause.ConnLost c)) ∷ h)

ended_turns : (c : ℕ) (o : Option Ended) (h : Tape) → turns (onto (ended_of c o) h) ≡ turns h
ended_turns c None h = refl
ended_turns c (Some e) h = drained_turns e.closed e.other (Noted (note.Gone e.exchange) ∷ Noted (note.Doom e.exchange (cause.ConnLost c)) ∷ h)

effect_events : (e : Event) (f : Effect) (h : Tape) → events_back (onto (notes_of e f) h) ≡ events_back h
effect_events e effect.Nothing h = refl
effect_events e (effect.Paired x c d) h = refl
effect_events e (effect.Refused c) h = refl
effect_events e (effect.Carried f c rose) h = arrivals events_back (λ g octets v. refl) e f (pause_of rose f c) h (λ v. paused_events rose f c v)
effect_events e (effect.Left l) h = resumed_events l.resumed l.closed l.conn l.conn (Noted (note.Out l.conn l.n) ∷ h)
effect_events e (effect.Lost c ended) h = ended_events c ended (Noted (note.Close c 0 closed.Lost) ∷ h)

effect_turns : (e : Event) (f : Effect) (h : Tape) → turns (onto (notes_of e f) h) ≡ turns h
effect_turns e effect.Nothing h = refl
effect_turns e (effect.Paired x c d) h = refl
effect_turns e (effect.Refused c) h = refl
effect_turns e (effect.Carried f c rose) h = arrivals turns (λ g octets v. refl) e f (pause_of rose f c) h (λ v. paused_turns rose f c v)
effect_turns e (effect.Left l) h = resumed_turns l.resumed l.closed l.conn l.conn (Noted (note.Out l.conn l.n) ∷ h)
effect_turns e (effect.Lost c ended) h = ended_turns c ended (Noted (note.Close c 0 closed.Lost) ∷ h)

module _ (limit : ℕ) (e : Event) (h : Tape) (t : Tied limit e h) where
  pub shows : events_back (onto (dispatch_notes limit e h) h) ≡ e ∷ events_back h
  shows = ap (λ (ns : List Note). events_back (onto ns h)) t.notes ∙ effect_events e (effect_of e (tape_board limit h)) (Noted (note.Turn (turns h + 1) e) ∷ h)

  pub counts : turns (onto (dispatch_notes limit e h) h) ≡ turns h + 1
  counts = ap (λ (ns : List Note). turns (onto ns h)) t.notes ∙ effect_turns e (effect_of e (tape_board limit h)) (Noted (note.Turn (turns h + 1) e) ∷ h)
