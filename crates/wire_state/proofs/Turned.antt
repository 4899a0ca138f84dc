-- The turn note of an event, and what a dispatch of the event does behind it.
use Rattle.flow_gate.specs.Board.{times_of_buffer}
use Rattle.flow_rules.specs.declared.ids.BufferId.TheVariants as buffer
use Rattle.flow_rules.specs.declared.ids.FlowId.{FlowId}
use Rattle.flow_laws.proofs.Flags.{flag_now}
use Rattle.flow_notes.specs.declared.events.Event.{Event}
use Rattle.flow_notes.specs.declared.events.Event.TheVariants as event
use Rattle.flow_notes.specs.declared.notes.Note.{Note}
use Rattle.flow_notes.specs.declared.notes.Note.TheVariants as note
use Rattle.proxy_config.specs.declared.config.Config.{Config}
use Rattle.proxy_config.specs.declared.config.LimitKeys.{LimitKeys}
use Rattle.std.proofs.Common.{ap, refl, subst, sym, ◌∙◌}
use Rattle.std.proofs.lemmas.List.{append-nil}
use Rattle.std.proofs.lemmas.List.Folds.{list_any-append}
use Rattle.paged_map.specs.PagedMap.{PagedMap, value_at}
use Rattle.std.specs.Option.{option_map_or}
use Rattle.std.specs.Prelude.{Bool, Err, IfOk, IsOk, List, None, Ok, OnOk, Option, Result, Some, [], false, if◌then◌else◌, is_some, length, not, true, ℕ, ◌&&◌, ◌++◌, ◌==◌, ◌||◌, ◌∷◌, ◌≡◌}
use Rattle.tape_laws.specs.Connections.{connections, was_closed}
use Rattle.tape_laws.specs.Dispatches.{has}
use Rattle.tape_laws.specs.History.{Noted}
use Rattle.tape_laws.specs.Sources.{source_buffers}
use Rattle.tape_laws.specs.Watermark.{above, drains_at}
use Rattle.tape_laws.specs.World.{gone, out}
use Rattle.wire_flows.proofs.Cases.{by_case}
use Rattle.wire_flows.specs.Flows.{Flows}
use Rattle.wire_links.specs.Links.{Links}
use Rattle.wire_state.proofs.Counted.{counts_sources}
use Rattle.wire_state.proofs.Counting.{CountsGo, counts_go}
use Rattle.wire_state.proofs.Held.{is_number, number_same}
use Rattle.wire_state.proofs.Quiets.{idle_go}
use Rattle.wire_state.proofs.Rising.{drained}
use Rattle.wire_state.proofs.Standing.{KeepsFlows, KeepsShut, Writes, conns_same, same_octets, wrote}
use Rattle.wire_state.specs.Counts.{Counts}
use Rattle.wire_state.specs.Marks.{Footing, NoneBegan, NoneYet, footing_of}
use Rattle.wire_state.specs.Tapes.{tape_setup}
use Rattle.wire_state.specs.Ways.{WayHistory, WayStep, world_setup}
use Rattle.wire_state.specs.Worlds.{Comes, Goes, IsFresh, KeepsOk, Rests, Stands, Told, ToldBy, Turns, TurnsTo, eased_by, left_after}
use Rattle.wire_state.specs.declared.conn.Conn.{Conn}
use Rattle.wire_state.specs.declared.wire_core.WireCore.{WireCore}
use Rattle.wm_buffer.specs.Watermark.{above_after}

-- the event loses no connection; no octets leave one by it
abbrev pub LosesNone : Event → Type 0
LosesNone (event.Gone c) = ⊥
LosesNone e = Unit {0}

abbrev pub TakesNone : Event → Type 0
TakesNone (event.Room c n) = ⊥
TakesNone e = Unit {0}

left_same : (e : Event) → TakesNone e → (conns : PagedMap Conn) (g : ℕ → List ℕ) → left_after e conns g ≡ g
left_same (event.Accept c) t conns g = refl
left_same (event.Join c cluster) t conns g = refl
left_same (event.Read c octets) t conns g = refl
left_same (event.Gone c) t conns g = refl
left_same (event.Room c n) t conns g = absurd t
left_same (event.Tick now) t conns g = refl
left_same (event.Post poster number job) t conns g = refl
left_same (event.Obey version pressures) t conns g = refl
left_same (event.Plain e) t conns g = refl

turn_flows : (k : ℕ) (e : Event) (h : WayHistory) → KeepsFlows (Noted (note.Turn k e)) h
turn_flows k e h = record { places = λ f p. refl; stages = λ f. refl; stream = λ f. refl; came = λ f. refl; went = λ f. refl; began = refl; opened = λ x. refl }

first_false : (a b : Bool) → (a || b) ≡ false → a ≡ false
first_false true b e = cc
first_false false b e = refl

second_true : (a b : Bool) → b ≡ true → (a || b) ≡ true
second_true true b e = refl
second_true false b e = e

has_more : (xs : List ℕ) (x y : ℕ) → has (xs ++ x ∷ []) y ≡ (has xs y || (x == y))
has_more xs x y = list_any-append (λ z. z == y) xs (x ∷ []) ∙ ap (λ b. has xs y || b) (or_false (x == y))
  where
    or_false : (b : Bool) → (b || false) ≡ b
    or_false true = refl
    or_false false = refl

less : (xs : List ℕ) (x y : ℕ) → has (xs ++ x ∷ []) y ≡ false → has xs y ≡ false
less xs x y e = first_false (has xs y) (x == y) (sym (has_more xs x y) ∙ e)

came_last : (xs : List ℕ) (x : ℕ) → has (xs ++ x ∷ []) x ≡ true
came_last xs x = has_more xs x x ∙ second_true (has xs x) (x == x) (number_same x)

turn_shut : (k : ℕ) (e : Event) (h : WayHistory) → KeepsShut (Noted (note.Turn k e)) h
turn_shut k (event.Accept c) h = record { closed = λ d. refl; come = λ d e. less (connections world_setup h) c d e }
turn_shut k (event.Join c cluster) h = record { closed = λ d. refl; come = λ d e. less (connections world_setup h) c d e }
turn_shut k (event.Read c octets) h = record { closed = λ d. refl; come = λ d e. e }
turn_shut k (event.Gone c) h = record { closed = λ d. refl; come = λ d e. e }
turn_shut k (event.Room c n) h = record { closed = λ d. refl; come = λ d e. e }
turn_shut k (event.Tick now) h = record { closed = λ d. refl; come = λ d e. e }
turn_shut k (event.Post poster number job) h = record { closed = λ d. refl; come = λ d e. e }
turn_shut k (event.Obey version pressures) h = record { closed = λ d. refl; come = λ d e. e }
turn_shut k (event.Plain e) h = record { closed = λ d. refl; come = λ d e. e }

turn_writes : (k : ℕ) (e : Event) → LosesNone e → (h : WayHistory) → Writes same_octets (Noted (note.Turn k e)) h
turn_writes k (event.Accept c) l h = record { outs = λ d. refl; taken = tt }
turn_writes k (event.Join c cluster) l h = record { outs = λ d. refl; taken = tt }
turn_writes k (event.Read c octets) l h = record { outs = λ d. refl; taken = tt }
turn_writes k (event.Gone c) l h = absurd l
turn_writes k (event.Room c n) l h = record { outs = λ d. refl; taken = tt }
turn_writes k (event.Tick now) l h = record { outs = λ d. refl; taken = tt }
turn_writes k (event.Post poster number job) l h = record { outs = λ d. refl; taken = tt }
turn_writes k (event.Obey version pressures) l h = record { outs = λ d. refl; taken = tt }
turn_writes k (event.Plain e) l h = record { outs = λ d. refl; taken = tt }

-- the loss of a connection that wasn't closed
lost_writes : (k c : ℕ) (h : WayHistory) → was_closed c h ≡ false → Writes same_octets (Noted (note.Turn k (event.Gone c))) h
lost_writes k c h e = record {
  outs = λ d. by_case (c == d)
      (λ same. ap (λ b. if b then [] else out world_setup d h) (ap (λ b. b && was_closed d h) same ∙ (ap (λ v. was_closed v h) (sym (is_number c d same)) ∙ e)))
      (λ other. ap (λ b. if b && was_closed d h then [] else out world_setup d h) other);
  taken = tt;
}

-- ---- counts
-- by which events no write buffer drains at once
turn_drained : (l : LimitKeys) (f : FlowId) (k : ℕ) (e : Event) → LosesNone e → (h : WayHistory) → drained l f (Noted (note.Turn k e)) h ≡ 0
turn_drained l f k (event.Accept c) m h = refl
turn_drained l f k (event.Join c cluster) m h = refl
turn_drained l f k (event.Read c octets) m h = refl
turn_drained l f k (event.Gone c) m h = absurd m
turn_drained l f k (event.Room c n) m h = refl
turn_drained l f k (event.Tick now) m h = refl
turn_drained l f k (event.Post poster number job) m h = refl
turn_drained l f k (event.Obey version pressures) m h = refl
turn_drained l f k (event.Plain e) m h = refl

-- nor by the loss of a connection that wasn't closed
lost_drained : (l : LimitKeys) (f : FlowId) (k c : ℕ) (h : WayHistory) → was_closed c h ≡ false → drained l f (Noted (note.Turn k (event.Gone c))) h ≡ 0
lost_drained l f k c h e = ap (λ b. if b then times_of_buffer (buffer.Write c) (source_buffers (tape_setup l) f h) else 0) never
  where
    step : WayStep
    step = Noted (note.Turn k (event.Gone c))

    none : (b : Bool) → (b && false) ≡ false
    none true = refl
    none false = refl

    kept : out (tape_setup l) c (step ∷ h) ≡ out (tape_setup l) c h
    kept = ap (λ (b : Bool). if (c == c) && b then [] else out (tape_setup l) c h) e ∙ ap (λ (b : Bool). if b then [] else out (tape_setup l) c h) (none (c == c))

    same : above (tape_setup l) (buffer.Write c) (step ∷ h) ≡ above (tape_setup l) (buffer.Write c) h
    same = ap (λ (xs : List ℕ). above_after l.write_buffer (above (tape_setup l) (buffer.Write c) h) (length xs)) kept ∙ flag_now (tape_setup l) (buffer.Write c) h

    but_not : (a : Bool) → (a && not a) ≡ false
    but_not true = refl
    but_not false = refl

    never : drains_at (tape_setup l) (buffer.Write c) step h ≡ false
    never = ap (λ (b : Bool). above (tape_setup l) (buffer.Write c) h && not b) same ∙ but_not (above (tape_setup l) (buffer.Write c) h)

-- nothing else changes
pub turn_go : {l : LimitKeys} → (conns : PagedMap Conn) (flows : Flows) (k : ℕ) (e : Event) (h : WayHistory) → ((f : FlowId) → drained l f (Noted (note.Turn k e)) h ≡ 0) → Counts l None None conns flows h
    → CountsGo l None None None None conns conns flows flows (Noted (note.Turn k e)) [] h
turn_go {l} conns flows k e h none c = idle_go conns flows (Noted (note.Turn k e)) h c (λ f there. record { stages = refl; conn = refl; spared = refl }) refl (counts_sources l conns flows h c) (λ f. (refl, refl)) (λ f. refl) none

module _ (conns : PagedMap Conn) (flows : Flows) (links : Links) (h : WayHistory) (g : ℕ → List ℕ) (left : (c : ℕ) → gone world_setup c h ≡ g c) where
  -- nothing is noted behind the notes before
  pub told_none : {l : Footing} → NoneYet l flows → (before : List Note) → Rests l.config.limits conns flows links h → ToldBy l.config l None None h g before conns flows links before
  told_none none before r = record { steps = []; is = sym (append-nil before); stands = r.stands; counts = r.counts; left = left; under = refl; ways = λ w. w; rows = none.0; since = none.1 ∙ r.stands.marks.numbers }

  turned : {l : LimitKeys} → (k : ℕ) (e : Event) → Writes same_octets (Noted (note.Turn k e)) h → Stands l conns flows links h → Stands l conns flows links (Noted (note.Turn k e) ∷ h)
  turned k e w s = wrote same_octets (Noted (note.Turn k e)) h conns conns flows links w (turn_flows k e h) (turn_shut k e h) (conns_same conns) (λ c fit. fit) s

  turned_counts : {l : LimitKeys} → (k : ℕ) (e : Event) → Writes same_octets (Noted (note.Turn k e)) h → ((f : FlowId) → drained l f (Noted (note.Turn k e)) h ≡ 0) → Rests l conns flows links h → Counts l None None conns flows (Noted (note.Turn k e) ∷ h)
  turned_counts {l} k e w none r = counts_go l None None None None conns conns flows flows (Noted (note.Turn k e)) [] h links links (turn_go conns flows k e h none r.counts) r.stands (turned k e w r.stands) r.counts

  -- with the turn note of an event
  pub turn_rests : {l : Footing} → NoneYet l flows → (k : ℕ) (e : Event) → LosesNone e → (before noted : List Note) → noted ≡ before ++ note.Turn k e ∷ [] → Rests l.config.limits conns flows links h → ToldBy l.config l None None h g before conns flows links noted
  turn_rests {l} none k e m before noted is r = record {
    steps = Noted (note.Turn k e) ∷ [];
    is = is;
    stands = turned k e (turn_writes k e m h) r.stands;
    counts = turned_counts k e (turn_writes k e m h) (λ f. turn_drained l.config.limits f k e m h) r;
    left = left;
    under = refl;
    ways = λ w. w;
    rows = none.0;
    since = none.1 ∙ r.stands.marks.numbers;
  }

  pub lost_told : {l : Footing} → NoneYet l flows → (k c : ℕ) → option_map_or (λ conn. conn.open) (value_at c conns) false ≡ true → (before noted : List Note) → noted ≡ before ++ note.Turn k (event.Gone c) ∷ []
      → Rests l.config.limits conns flows links h → ToldBy l.config l None None h g before conns flows links noted
  lost_told {l} none k c opened before noted is r = record {
    steps = Noted (note.Turn k (event.Gone c)) ∷ [];
    is = is;
    stands = turned k (event.Gone c) (lost_writes k c h fresh) r.stands;
    counts = turned_counts k (event.Gone c) (lost_writes k c h fresh) (λ f. lost_drained l.config.limits f k c h fresh) r;
    left = left;
    under = refl;
    ways = λ w. w;
    rows = none.0;
    since = none.1 ∙ r.stands.marks.numbers;
  }
    where
      there : (o : Option Conn) → option_map_or (λ conn. conn.open) o false ≡ true → is_some o ≡ true
      there None e = cc
      there (Some v) e = refl

      not_shut : (o : Option Conn) → option_map_or (λ conn. conn.open) o false ≡ true → option_map_or (λ conn. not conn.open) o false ≡ false
      not_shut None e = cc
      not_shut (Some v) e = ap not e

      fresh : was_closed c h ≡ false
      fresh = r.stands.closed c (there (value_at c conns) opened) ∙ not_shut (value_at c conns) opened

-- ---- what a call does from before the turn note on
-- what left each connection's write buffer is as before, and none is eased
left_is : (e f : Event) → e ≡ f → TakesNone f → (conns : PagedMap Conn) (g : ℕ → List ℕ) → left_after e conns g ≡ g
left_is e f is m conns g = ap (λ (v : Event). left_after v conns g) is ∙ left_same f m conns g

eases_none : (f : Event) → LosesNone f → TakesNone f → eased_by f ≡ None
eases_none (event.Accept c) m t = refl
eases_none (event.Join c cluster) m t = refl
eases_none (event.Read c octets) m t = refl
eases_none (event.Gone c) m t = absurd m
eases_none (event.Room c n) m t = absurd t
eases_none (event.Tick now) m t = refl
eases_none (event.Post poster number job) m t = refl
eases_none (event.Obey version pressures) m t = refl
eases_none (event.Plain e) m t = refl

after_turn : (e f : Event) → e ≡ f → LosesNone f → (old : WireCore) (h : WayHistory) (g : ℕ → List ℕ) (before noted : List Note) (k : ℕ) → noted ≡ before ++ note.Turn k e ∷ []
    → Rests old.config.limits old.conns old.flows old.links h → ((c : ℕ) → gone world_setup c h ≡ g c) → NoneBegan old → Told old.config None None h g before old noted
after_turn e f is l old h g before noted k n r left none = turn_rests old.conns old.flows old.links h g left {l = footing_of old} none k f l before noted (n ∙ ap (λ (v : Event). before ++ note.Turn k v ∷ []) is) r

module _ {A E : Type 0} (r : Result A E) (e f : Event) (is : e ≡ f) (l : LosesNone f) (m : TakesNone f) (old new : WireCore) where
  as_after : (h : WayHistory) (g : ℕ → List ℕ) (before now : List Note) → OnOk r (Told old.config None None h g before new now) → OnOk r (Told old.config (eased_by e) None h (left_after e old.conns g) before new now)
  as_after h g before now t =
      subst (λ (o : Option ℕ). OnOk r (Told old.config o None h (left_after e old.conns g) before new now)) (sym (ap eased_by is ∙ eases_none f l m))
      (subst (λ (left : ℕ → List ℕ). OnOk r (Told old.config None None h left before new now)) (sym (left_is e f is m old.conns g)) t)

  pub turns_of : (noted now : List Note) → Goes r old noted new now → Turns r e old noted new now
  turns_of noted now goes = record { goes = λ h g before k n s left fresh none. as_after h g before now (goes.goes h g before (after_turn e f is l old h g before noted k n s left none)) }

  -- it writes no note
  pub turns_kept : (noted : List Note) → KeepsOk r old new → Turns r e old noted new noted
  turns_kept noted keeps = record { goes = λ h g before k n s left fresh none. as_after h g before noted (keeps.goes h g before noted (after_turn e f is l old h g before noted k n s left none)) }

-- it does nothing
pub turns_same : {A E : Type 0} (a : A) (e f : Event) → e ≡ f → LosesNone f → TakesNone f → (core : WireCore) (noted : List Note) → Turns {A = A} {E = E} (Ok a) e core noted core noted
turns_same {A = A} {E = E} a e f is l m core noted = turns_kept {A = A} {E = E} (Ok a) e f is l m core core noted (record { goes = λ h g start notes t. t })

-- nobody is to be told of a drain
pub turns_none : {A E F : Type 0} (r : Result A E) (q : Result (Option ℕ) F) (e : Event) (old new : WireCore) (noted now : List Note) → Turns r e old noted new now → eased_by e ≡ None → OnOk q (IsOk r) → IfOk q (λ conn. conn ≡ None) → TurnsTo q e old noted new now
turns_none r (Err x) e old new noted now turns none ok is = record { goes = λ h g before k n s left fresh began. tt }
turns_none (Err x) (Ok conn) e old new noted now turns none ok is = absurd (cc ok)
turns_none (Ok a) (Ok conn) e old new noted now turns none ok is = record {
  goes = λ h g before k n s left fresh began.
      subst (λ (o : Option ℕ). Told old.config o None h (left_after e old.conns g) before new now) (none ∙ sym is) (turns.goes h g before k n s left fresh began);
}

-- those of this connection may be
pub turns_some : {A E F : Type 0} (a : A) (c : ℕ) (e : Event) (old new : WireCore) (noted now : List Note) → Turns {A = A} {E = E} (Ok a) e old noted new now → eased_by e ≡ Some c → TurnsTo {E = F} (Ok (Some c)) e old noted new now
turns_some a c e old new noted now turns some = record {
  goes = λ h g before k n s left fresh began.
      subst (λ (o : Option ℕ). Told old.config o None h (left_after e old.conns g) before new now) some (turns.goes h g before k n s left fresh began);
}

-- from a core that has the same configuration, connections, flows and links
pub turns_from : {E : Type 0} (r : Result (Option ℕ) E) (e : Event) (old mid new : WireCore) (noted now : List Note) → mid.config ≡ old.config → mid.conns ≡ old.conns → mid.flows ≡ old.flows → mid.links ≡ old.links → NoneBegan mid → TurnsTo r e mid noted new now
    → (h : WayHistory) (g : ℕ → List ℕ) (before : List Note) (k : ℕ) → noted ≡ before ++ note.Turn k e ∷ [] → Rests old.config.limits old.conns old.flows old.links h → ((c : ℕ) → gone world_setup c h ≡ g c)
    → IsFresh e h → IfOk r (λ conn. Told old.config conn None h (left_after e old.conns g) before new now)
turns_from r e old mid new noted now same c f l none turns h g before k n s left fresh =
    subst (λ (v : Config). IfOk r (λ conn. Told v conn None h (left_after e old.conns g) before new now)) same
    (subst (λ (v : PagedMap Conn). IfOk r (λ conn. Told mid.config conn None h (left_after e v g) before new now)) c
    (turns.goes h g before k n
    (subst (λ (v : Config). Rests v.limits mid.conns mid.flows mid.links h) (sym same)
    (subst (λ (v : PagedMap Conn). Rests old.config.limits v mid.flows mid.links h) (sym c)
    (subst (λ (v : Flows). Rests old.config.limits old.conns v mid.links h) (sym f)
    (subst (λ (v : Links). Rests old.config.limits old.conns old.flows v h) (sym l) s)))) left fresh none))

-- a connection comes
pub turns_joined : {A E : Type 0} (r : Result A E) (c cluster : ℕ) (old new : WireCore) (noted : List Note) → Comes r c old new → Turns r (event.Join c cluster) old noted new noted
unfolding turn_rests
turns_joined r c cluster old new noted comes = record {
  goes = λ h g before k is s left fresh none.
      comes.goes h g before noted (turn_rests old.conns old.flows old.links h g left {l = footing_of old} none k (event.Join c cluster) tt before noted is s)
      (came_last (connections world_setup h) c) (s.stands.come c fresh).1;
}

pub turns_accepted : {A B E : Type 0} (a : A) (r : Result B E) (c : ℕ) (old mid new : WireCore) (noted now : List Note) → Comes {A = A} {E = E} (Ok a) c old mid → Goes r mid noted new now
    → Turns r (event.Accept c) old noted new now
unfolding turn_rests
turns_accepted a r c old mid new noted now comes goes = record {
  goes = λ h g before k is s left fresh none. goes.goes h g before
      (comes.goes h g before noted (turn_rests old.conns old.flows old.links h g left {l = footing_of old} none k (event.Accept c) tt before noted is s)
      (came_last (connections world_setup h) c) (s.stands.come c fresh).1);
}
