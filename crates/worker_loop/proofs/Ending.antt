-- The parts of the promise, by how the work ended.
use Rattle.flow_notes.specs.declared.events.Event.{Event}
use Rattle.flow_notes.specs.declared.notes.Note.{Note}
use Rattle.session_run.specs.Ends.{AppendsFront}
use Rattle.std.proofs.Common.{ap, arith, inl, inr, refl, subst, sym, ◌∙◌, ◌⊎◌}
use Rattle.std.proofs.lemmas.List.{append-nil, append_cancel_left}
use Rattle.std.specs.Io.KnownBytes.{Appends, append_known}
use Rattle.std.specs.Option.{option_map}
use Rattle.std.specs.Prelude.{Bool, List, None, Option, Some, [], false, length, map, suc, true, ℕ, ◌++◌, ◌+◌, ◌<◌, ◌∷◌, ◌≡◌, ◌≤◌}
use Rattle.worker_core.specs.Sessions.{RestsWire, version_of}
use Rattle.worker_core.specs.declared.worker.Kind.{Kind}
use Rattle.worker_loop.proofs.Matching.{Closes, Grows, MatchesTo, close_as, close_none, ended_closes, grows_more, grows_none, runs_match}
use Rattle.worker_loop.proofs.Obeying.{runs_versions}
use Rattle.worker_loop.proofs.Parted.{Shows, appends_more, handed_are, lines_done, runs_show, told_done}
use Rattle.worker_loop.proofs.Working.{Ends, EndsAt, Ran, stopped_ran, turns_ran}
use Rattle.worker_loop.specs.Cutting.{AtWires, Begun, Cuts, CutsOne, CutsShort, GaveOne, LetIn, LostOne, Midway, NoneBegun, TookSome}
use Rattle.worker_loop.specs.Did.{Did, Dispatched, Ended, events_of, notes_of}
use Rattle.worker_loop.specs.Parts.{AreCloses, EndsLines, EndsWhole, Hands, InTurns, IsLast, Lines, Matches, MayLack, Tape, Whole, WholeTurns, lines_of, outside_events, turn_events}
use Rattle.worker_loop.specs.Parts.{AtWires as StandsAtWires}
use Rattle.worker_loop.specs.Places.{Becomes, Place, event_line}
use Rattle.worker_loop.specs.Turns.{AreTurns, IsTurn, More, Sides}
use Rattle.worker_loop.specs.Works.{AreRising, BreaksTurn, Works, posts_in, ticks_in, versions_in}
use Rattle.worker_loop.specs.declared.turns.Ended.{Ended as End}
use Rattle.worker_loop.specs.declared.turns.Ended.TheVariants as ended
use Rattle.worker_parts.specs.Journals.{with_notes}
use Rattle.worker_ports.specs.Told.{with_last}
use Rattle.worker_ports.specs.Wires.{Seen}
use Rattle.worker_ports.specs.declared.wires.WireStep.{WireStep}
use Rattle.worker_ports.specs.declared.wires.WireStep.TheVariants as step
use Rattle.worker_ports.specs.declared.wires.Wired.TheVariants as wired

-- ---- what broke off wrote no notes
ended_no_notes : (cs : List ℕ) → notes_of (map Ended cs) ≡ []
ended_no_notes [] = refl
ended_no_notes (c ∷ cs) = ended_no_notes cs

ended_no_events : (cs : List ℕ) → events_of (map Ended cs) ≡ []
ended_no_events [] = refl
ended_no_events (c ∷ cs) = ended_no_events cs

begun_notes : {ds : List Did} → Begun ds → notes_of ds ≡ []
begun_notes NoneBegun = refl
begun_notes (GaveOne given) = refl
begun_notes (LetIn c) = refl
begun_notes (LostOne c) = refl
begun_notes (TookSome c n piece) = refl

begun_events : {ds : List Did} → Begun ds → events_of ds ≡ []
begun_events NoneBegun = refl
begun_events (GaveOne given) = refl
begun_events (LetIn c) = refl
begun_events (LostOne c) = refl
begun_events (TookSome c n piece) = refl

short_notes : (ds : List Did) → (ds ≡ []) ⊎ ((e : Event) × (cs : List ℕ) × (ds ≡ Dispatched e ∷ map Ended cs)) → notes_of ds ≡ []
short_notes ds (inl none) = ap notes_of none
short_notes ds (inr one) = ap notes_of one.2 ∙ ended_no_notes one.1

none_handed : (t : Option (List Note)) → with_notes [] t ≡ t
none_handed None = refl
none_handed (Some xs) = ap (λ (ys : List Note). Some ys) (append-nil xs)

no_notes : (names : List (List ℕ)) (ds : List Did) (v w : Place) → notes_of ds ≡ [] → Becomes names v ds w → w.told ≡ v.told
no_notes names ds v w none b = told_done names ds v w b ∙ ap (λ (ns : List Note). with_notes ns v.told) none ∙ none_handed v.told

one_told : (names : List (List ℕ)) (end : End) (k k' : Kind) (v w : Place) → CutsOne names end k v k' w → w.told ≡ v.told
one_told names ended.Turns k k' v w cut = absurd cut
one_told names ended.Stopped k k' v w cut = absurd cut
one_told names ended.WiresFault k k' v w cut = absurd cut
one_told names ended.JournalFault k k' v w cut = ap (λ (p : Place). p.told) cut.1.rest
one_told names ended.Memory k k' v w cut = no_notes names cut.did v w (short_notes cut.did cut.is) cut.becomes

cuts_told : {end : End} {k' : Kind} {w : Place} (names : List (List ℕ)) (k : Kind) (v : Place) → Cuts names k v end k' w → w.told ≡ v.told
cuts_told names k v AtWires = refl
cuts_told names k v (Midway end head mid new w begun b cut) = one_told names end k new mid w cut ∙ no_notes names head v mid (begun_notes begun) b

ends_told : (names : List (List ℕ)) (end : End) (k k' : Kind) (v w : Place) → EndsAt names end k v k' w → w.told ≡ v.told
ends_told names ended.Turns k k' v w e = ap (λ (p : Place). p.told) e.1
ends_told names ended.Stopped k k' v w e = ap (λ (p : Place). p.told) e.1
ends_told names ended.WiresFault k k' v w e = cuts_told names k v e
ends_told names ended.JournalFault k k' v w e = cuts_told names k v e
ends_told names ended.Memory k k' v w e = cuts_told names k v e

-- ---- (a) the lines
none_written : (a b c : Option (List ℕ)) (xs : List ℕ) → Appends a b xs → Appends b c [] → Appends a c xs
none_written a b c xs one two = subst (λ (ys : List ℕ). Appends a c ys) (append-nil xs) (appends_more a b c xs [] one two)

begun_text : (names : List (List ℕ)) (ds : List Did) (v w : Place) → Begun ds → Becomes names v ds w → Appends v.text w.text []
begun_text names ds v w begun b = subst (λ (es : List Event). Appends v.text w.text (lines_of names es)) (begun_events begun) (lines_done names ds v w b)

known_front : (a b c : Option (List ℕ)) (xs ys : List ℕ) → Appends a b xs → Appends b c ys → Appends (append_known a xs) c ys
known_front None b c xs ys one two = tt
known_front (Some us) None c xs ys one two = absurd one
known_front (Some us) (Some vs) None xs ys one two = absurd two
known_front (Some us) (Some vs) (Some ws) xs ys one two = two ∙ ap (λ (zs : List ℕ). zs ++ ys) one

short_lines : (names : List (List ℕ)) (lines : List ℕ) (v u w : Place) (ds : List Did) → (ds ≡ []) ⊎ ((e : Event) × (cs : List ℕ) × (ds ≡ Dispatched e ∷ map Ended cs)) → Appends v.text u.text lines → Becomes names u ds w
    → Appends v.text w.text lines ⊎ ((e : Event) × Appends v.text w.text (lines ++ event_line names e))
short_lines names lines v u w ds (inl none) one b =
    inl (none_written v.text u.text w.text lines one (subst (λ (xs : List Did). Appends u.text w.text (lines_of names (events_of xs))) none (lines_done names ds u w b)))
short_lines names lines v u w ds (inr cut) one b =
    let more : Appends u.text w.text (lines_of names (events_of ds)) = lines_done names ds u w b in
    let events : events_of ds ≡ cut.0 ∷ [] = ap events_of cut.2 ∙ ap (λ (es : List Event). cut.0 ∷ es) (ended_no_events cut.1) in
    let line : Appends u.text w.text (event_line names cut.0) = subst (λ (xs : List ℕ). Appends u.text w.text xs) (ap (lines_of names) events ∙ append-nil (event_line names cut.0)) more in
    inr (cut.0, appends_more v.text u.text w.text lines (event_line names cut.0) one line)

one_lines : (names : List (List ℕ)) (lines : List ℕ) (end : End) (k k' : Kind) (v u w : Place) → Appends v.text u.text lines → CutsOne names end k u k' w → EndsLines names end lines v.text w.text
one_lines names lines ended.Turns k k' v u w one cut = absurd cut
one_lines names lines ended.Stopped k k' v u w one cut = absurd cut
one_lines names lines ended.WiresFault k k' v u w one cut = absurd cut
one_lines names lines ended.JournalFault k k' v u w one cut =
    let f = cut.1.front in
    (cut.1.happens, record { front = f.front; rest = f.rest; is = f.is; appends = known_front v.text u.text w.text lines f.front one f.appends })
one_lines names lines ended.Memory k k' v u w one cut = short_lines names lines v u w cut.did cut.is one cut.becomes

cuts_lines : {end : End} {k' : Kind} {w : Place} (names : List (List ℕ)) (lines : List ℕ) (k : Kind) (v u : Place) → Appends v.text u.text lines → Cuts names k u end k' w → EndsLines names end lines v.text w.text
cuts_lines names lines k v u one AtWires = one
cuts_lines names lines k v u one (Midway end head mid new w begun b cut) =
    one_lines names lines end k new v mid w (none_written v.text u.text mid.text lines one (begun_text names head u mid begun b)) cut

ends_lines : (names : List (List ℕ)) (lines : List ℕ) (end : End) (k k' : Kind) (v u w : Place) → Appends v.text u.text lines → EndsAt names end k u k' w → EndsLines names end lines v.text w.text
ends_lines names lines ended.Turns k k' v u w one e = subst (λ (p : Place). Appends v.text p.text lines) (sym e.1) one
ends_lines names lines ended.Stopped k k' v u w one e = subst (λ (p : Place). Appends v.text p.text lines) (sym e.1) one
ends_lines names lines ended.WiresFault k k' v u w one e = cuts_lines names lines k v u one e
ends_lines names lines ended.JournalFault k k' v u w one e = cuts_lines names lines k v u one e
ends_lines names lines ended.Memory k k' v u w one e = cuts_lines names lines k v u one e

-- ---- (b) the core
one_core : (names : List (List ℕ)) (end : End) (k0 k k' : Kind) (v w : Place) (notes : List Note) → Whole k0 notes k → CutsOne names end k v k' w → EndsWhole end k0 notes k'
one_core names ended.Turns k0 k k' v w notes whole cut = absurd cut
one_core names ended.Stopped k0 k k' v w notes whole cut = absurd cut
one_core names ended.WiresFault k0 k k' v w notes whole cut = absurd cut
one_core names ended.JournalFault k0 k k' v w notes whole cut = subst (λ (j : Kind). Whole k0 notes j) (sym cut.0) whole
one_core names ended.Memory k0 k k' v w notes whole cut = (k, whole)

cuts_core : {end : End} {k' : Kind} {w : Place} (names : List (List ℕ)) (k0 k : Kind) (v : Place) (notes : List Note) → Whole k0 notes k → Cuts names k v end k' w → EndsWhole end k0 notes k'
cuts_core names k0 k v notes whole AtWires = whole
cuts_core names k0 k v notes whole (Midway end head mid new w begun b cut) = one_core names end k0 k new mid w notes whole cut

ends_core : (names : List (List ℕ)) (end : End) (k0 k k' : Kind) (v w : Place) (notes : List Note) → Whole k0 notes k → EndsAt names end k v k' w → EndsWhole end k0 notes k'
ends_core names ended.Turns k0 k k' v w notes whole e = subst (λ (j : Kind). Whole k0 notes j) (sym e.0) whole
ends_core names ended.Stopped k0 k k' v w notes whole e = subst (λ (j : Kind). Whole k0 notes j) (sym e.0) whole
ends_core names ended.WiresFault k0 k k' v w notes whole e = cuts_core names k0 k v notes whole e
ends_core names ended.JournalFault k0 k k' v w notes whole e = cuts_core names k0 k v notes whole e
ends_core names ended.Memory k0 k k' v w notes whole e = cuts_core names k0 k v notes whole e

one_rests : (names : List (List ℕ)) (end : End) (k k' : Kind) (v w : Place) → RestsWire k → (end ≡ ended.Memory → ⊥) → CutsOne names end k v k' w → RestsWire k'
one_rests names ended.Turns k k' v w rests isnt cut = absurd cut
one_rests names ended.Stopped k k' v w rests isnt cut = absurd cut
one_rests names ended.WiresFault k k' v w rests isnt cut = absurd cut
one_rests names ended.JournalFault k k' v w rests isnt cut = subst (λ (j : Kind). RestsWire j) (sym cut.0) rests
one_rests names ended.Memory k k' v w rests isnt cut = absurd (isnt refl)

cuts_rest : {end : End} {k' : Kind} {w : Place} (names : List (List ℕ)) (k : Kind) (v : Place) → RestsWire k → (end ≡ ended.Memory → ⊥) → Cuts names k v end k' w → RestsWire k'
cuts_rest names k v rests isnt AtWires = rests
cuts_rest names k v rests isnt (Midway end head mid new w begun b cut) = one_rests names end k new mid w rests isnt cut

ends_rest : (names : List (List ℕ)) (end : End) (k k' : Kind) (v w : Place) → RestsWire k → (end ≡ ended.Memory → ⊥) → EndsAt names end k v k' w → RestsWire k'
ends_rest names ended.Turns k k' v w rests isnt e = subst (λ (j : Kind). RestsWire j) (sym e.0) rests
ends_rest names ended.Stopped k k' v w rests isnt e = subst (λ (j : Kind). RestsWire j) (sym e.0) rests
ends_rest names ended.WiresFault k k' v w rests isnt e = cuts_rest names k v rests isnt e
ends_rest names ended.JournalFault k k' v w rests isnt e = cuts_rest names k v rests isnt e
ends_rest names ended.Memory k k' v w rests isnt e = absurd (isnt refl)

-- ---- the parts
module _ (names : List (List ℕ)) (end : End) (old new : Sides) (k0 k' : Kind) (v0 w : Place) (e : Ends names end old k0 v0 new k' w) (rests : RestsWire k0) where
  pub handed : (notes : List Note) → Hands v0.told w.told notes → notes ≡ notes_of e.did
  handed notes hands = handed_are v0.told w.told notes (notes_of e.did) hands (ends_told names end e.kind k' e.mid w e.ends ∙ told_done names e.did v0 e.mid e.becomes)

  shows : Shows k0 e.did e.kind
  shows = runs_show rests e.runs

  pub turn_is : (notes : List Note) → Hands v0.told w.told notes → turn_events notes ≡ events_of e.did
  turn_is notes hands = ap turn_events (handed notes hands) ∙ shows.shown

  pub part_lines : Lines names end v0.text w.text v0.told w.told
  part_lines = record {
    goes = λ notes hands.
        subst (λ (es : List Event). EndsLines names end (lines_of names es) v0.text w.text) (sym (turn_is notes hands))
        (ends_lines names (lines_of names (events_of e.did)) end e.kind k' v0 e.mid w (lines_done names e.did v0 e.mid e.becomes) e.ends);
  }

  pub part_tape : Tape end k0 k' v0.told w.told
  part_tape = record {
    goes = λ notes hands.
        subst (λ (ns : List Note). EndsWhole end k0 ns k') (sym (handed notes hands)) (ends_core names end k0 e.kind k' e.mid w (notes_of e.did) shows.whole e.ends);
  }

  pub part_core : (end ≡ ended.Memory → ⊥) → RestsWire k'
  part_core isnt = ends_rest names end e.kind k' e.mid w shows.rests isnt e.ends

-- ---- (c) the connections
closes_last : (cs : List WireStep) → AreCloses cs → IsLast cs
closes_last [] over = tt
closes_last (step.Closed c ∷ cs) over = over
closes_last (step.Gave g ∷ cs) over = absurd over
closes_last (step.Offered c piece n ∷ cs) over = absurd over

-- what was given or taken last
record LastOf (old new : Seen) : Type 0 where
  steps : List WireStep
  grows : Grows old steps new
  last : (cs : List WireStep) → AreCloses cs → IsLast (steps ++ cs)

none_last : (old new : Seen) → new ≡ old → LastOf old new
none_last old new e = record { steps = []; grows = ap (λ (s : Seen). s.steps) e ∙ grows_none old; last = λ cs over. closes_last cs over }

one_last : (s : WireStep) (old new : Seen) → new.steps ≡ with_last s old.steps → LastOf old new
one_last s old new e = record { steps = s ∷ []; grows = e; last = λ cs over. over }

begun_last : {ds : List Did} (names : List (List ℕ)) (v w : Place) → Begun ds → Becomes names v ds w → LastOf v.seen w.seen
begun_last names v w NoneBegun b = none_last v.seen w.seen (ap (λ (p : Place). p.seen) b)
begun_last names v w (GaveOne given) b = one_last (step.Gave given) v.seen w.seen (ap (λ (p : Place). p.seen.steps) b.2 ∙ ap (λ (s : Seen). s.steps) b.1.1.is)
begun_last names v w (LetIn c) b =
    one_last (step.Gave (wired.Accept c)) v.seen w.seen (ap (λ (p : Place). p.seen.steps) b.2.2 ∙ ap (λ (p : Place). p.seen.steps) b.2.1.0 ∙ ap (λ (s : Seen). s.steps) b.1.1.is)
begun_last names v w (LostOne c) b =
    one_last (step.Gave (wired.Lost c)) v.seen w.seen (ap (λ (p : Place). p.seen.steps) b.2.2 ∙ ap (λ (p : Place). p.seen.steps) b.2.1 ∙ ap (λ (s : Seen). s.steps) b.1.1.is)
begun_last names v w (TookSome c n piece) b = one_last (step.Offered c piece n) v.seen w.seen (ap (λ (p : Place). p.seen.steps) b.2 ∙ ap (λ (p : Place). p.seen.steps) b.1)

same_closes : (names : List (List ℕ)) (ds : List Did) (v w : Place) → ds ≡ [] → Becomes names v ds w → Closes v.seen w.seen
same_closes names ds v w e b = let is : w ≡ v = subst (λ (xs : List Did). Becomes names v xs w) e b in subst (λ (s : Seen). Closes v.seen s) (sym (ap (λ (p : Place). p.seen) is)) (close_none v.seen)

short_closes : (names : List (List ℕ)) (ds : List Did) (v w : Place) → (ds ≡ []) ⊎ ((e : Event) × (cs : List ℕ) × (ds ≡ Dispatched e ∷ map Ended cs)) → Becomes names v ds w → Closes v.seen w.seen
short_closes names ds v w (inl none) b = same_closes names ds v w none b
short_closes names ds v w (inr cut) b =
    let r : Becomes names v (Dispatched cut.0 ∷ map Ended cut.1) w = subst (λ (xs : List Did). Becomes names v xs w) cut.2 b in
    close_as v.seen r.0.seen w.seen (ap (λ (p : Place). p.seen) r.1.0)
    (ended_closes names cut.1 [] r.0 w (λ u q. same_closes names [] u w refl q) (subst (λ (xs : List Did). Becomes names r.0 xs w) (sym (append-nil (map Ended cut.1))) r.2))

-- what may be missing from the notes
pub record LacksOf (end : End) (old new : Seen) : Type 0 where
  pub lost : List WireStep
  pub grows : Grows old lost new
  pub may : MayLack end lost

lacks_none : (old new : Seen) (end : End) → MayLack end [] → new ≡ old → LacksOf end old new
lacks_none old new end may e = record { lost = []; grows = ap (λ (s : Seen). s.steps) e ∙ grows_none old; may = may }

one_lacks : (names : List (List ℕ)) (end : End) (k k' : Kind) (v u w : Place) → LastOf v.seen u.seen → CutsOne names end k u k' w → LacksOf end v.seen w.seen
one_lacks names ended.Turns k k' v u w l cut = absurd cut
one_lacks names ended.Stopped k k' v u w l cut = absurd cut
one_lacks names ended.WiresFault k k' v u w l cut = absurd cut
one_lacks names ended.JournalFault k k' v u w l cut = record {
  lost = l.steps;
  grows = ap (λ (p : Place). p.seen.steps) cut.1.rest ∙ l.grows;
  may = subst (λ (ss : List WireStep). IsLast ss) (append-nil l.steps) (l.last [] tt);
}
one_lacks names ended.Memory k k' v u w l cut =
    let c = short_closes names cut.did u w cut.is cut.becomes in
    record { lost = l.steps ++ c.steps; grows = grows_more v.seen u.seen w.seen l.steps c.steps l.grows c.grows; may = l.last c.steps c.over }

cuts_lack : {end : End} {k' : Kind} {w : Place} (names : List (List ℕ)) (k : Kind) (v : Place) → Cuts names k v end k' w → LacksOf end v.seen w.seen
cuts_lack names k v AtWires = lacks_none v.seen v.seen ended.WiresFault refl refl
cuts_lack names k v (Midway end head mid new w begun b cut) = one_lacks names end k new v mid w (begun_last names v mid begun b) cut

pub ends_lack : (names : List (List ℕ)) (end : End) (k k' : Kind) (v w : Place) → EndsAt names end k v k' w → LacksOf end v.seen w.seen
ends_lack names ended.Turns k k' v w e = lacks_none v.seen w.seen ended.Turns refl (ap (λ (p : Place). p.seen) e.1)
ends_lack names ended.Stopped k k' v w e = lacks_none v.seen w.seen ended.Stopped refl (ap (λ (p : Place). p.seen) e.1)
ends_lack names ended.WiresFault k k' v w e = cuts_lack names k v e
ends_lack names ended.JournalFault k k' v w e = cuts_lack names k v e
ends_lack names ended.Memory k k' v w e = cuts_lack names k v e

pub steps_same : (xs ys : List WireStep) → ◌≡◌ {A = Option (List WireStep)} (Some xs) (Some ys) → xs ≡ ys
steps_same xs ys e = cc

-- so many whole turns
pub record Wholes (turns : ℕ) (end : End) (old new : Sides) (k k' : Kind) (old_told new_told : Option (List Note)) : Type 0 where
  pub whole : end ≡ ended.Turns → WholeTurns turns old new k k' old_told new_told
  pub stopped : end ≡ ended.Stopped → (n : ℕ) × (0 < n) × (n ≤ turns) × WholeTurns n old new k k' old_told new_told

ran_whole : (names : List (List ℕ)) (n : ℕ) (old new : Sides) (k0 k' : Kind) (v0 w : Place) → RestsWire k0 → Ran n names old k0 v0 new k' w → WholeTurns n old new k0 k' v0.told w.told
ran_whole names n old new k0 k' v0 w rests r = record {
  ticks = λ notes hands.
      let is : notes ≡ notes_of r.did = handed_are v0.told w.told notes (notes_of r.did) hands (told_done names r.did v0 w r.becomes) in
      ap length (ap ticks_in (ap turn_events is ∙ (runs_show rests r.runs).shown)) ∙ r.count;
  drains = r.drains;
  looks = r.asks;
  obeyed = λ less most. (r.obeyed rests most).1 less;
}

pub works_whole : (names : List (List ℕ)) (turns : ℕ) (old new : Sides) (k0 k' : Kind) (v0 w : Place) (end : End) → Works names turns old k0 v0 end new k' w → RestsWire k0 → Wholes turns end old new k0 k' v0.told w.told
works_whole names turns old new k0 k' v0 w ended.Turns t rests =
    record { whole = λ is. ran_whole names turns old new k0 k' v0 w rests (turns_ran names old k0 v0 t); stopped = λ is. absurd (cc is) }
works_whole names turns old new k0 k' v0 w ended.Stopped t rests = record {
  whole = λ is. absurd (cc is);
  stopped = λ is. (t.0 + 1, omega arith, omega (arith, t.1), ran_whole names (t.0 + 1) old new k0 k' v0 w rests (stopped_ran names old new k0 k' v0 w t.0 t.2));
}
works_whole names turns old new k0 k' v0 w ended.WiresFault t rests = record { whole = λ is. absurd (cc is); stopped = λ is. absurd (cc is) }
works_whole names turns old new k0 k' v0 w ended.JournalFault t rests = record { whole = λ is. absurd (cc is); stopped = λ is. absurd (cc is) }
works_whole names turns old new k0 k' v0 w ended.Memory t rests = record { whole = λ is. absurd (cc is); stopped = λ is. absurd (cc is) }

module _ (names : List (List ℕ)) (end : End) (old new : Sides) (k0 k' : Kind) (v0 w : Place) (e : Ends names end old k0 v0 new k' w) (rests : RestsWire k0) where
  pub part_wires : StandsAtWires end v0.seen w.seen v0.told w.told
  part_wires = record {
    goes = λ notes before steps hands at_old at_new.
        let m : MatchesTo v0.seen e.mid.seen (events_of e.did) = runs_match names v0 e.mid e.runs e.becomes in
        let l : LacksOf end e.mid.seen w.seen = ends_lack names end e.kind k' e.mid w e.ends in
        let all : Grows v0.seen (m.steps ++ l.lost) w.seen = grows_more v0.seen e.mid.seen w.seen m.steps l.lost m.grows l.grows in
        let is : steps ≡ m.steps ++ l.lost
        = append_cancel_left before steps (m.steps ++ l.lost) (steps_same (before ++ steps) (before ++ (m.steps ++ l.lost)) (sym at_new ∙ all ∙ ap (option_map (λ (b : List WireStep). b ++ (m.steps ++ l.lost))) at_old)) in
        (m.steps, l.lost, is, l.may, subst (λ (es : List Event). Matches m.steps (outside_events es)) (sym (turn_is names end old new k0 k' v0 w e rests notes hands)) m.matches);
  }

  -- ---- (d) the turns
  pub part_turns : (turns : ℕ) → (RestsWire k0 → Wholes turns end old new k0 k' v0.told w.told) → InTurns turns end old new k0 k' v0.told w.told
  part_turns turns wholes = record {
    ticks = λ notes before after hands at_old at_new.
        let t = e.ticks.goes before after at_old at_new in
        (t.0, t.1, t.2 ∙ ap (λ (es : List Event). before ++ (ticks_in es ++ t.0)) (sym (turn_is names end old new k0 k' v0 w e rests notes hands)));
    posts = λ notes hands. (e.ran, e.rest, e.missed, e.drained, ap posts_in (turn_is names end old new k0 k' v0 w e rests notes hands) ∙ e.posts);
    versions = λ notes hands.
        subst (λ (es : List Event). AreRising (version_of k0) (versions_in es)) (sym (turn_is names end old new k0 k' v0 w e rests notes hands)) (runs_versions rests e.runs).rises;
    whole = (wholes rests).whole;
    stopped = (wholes rests).stopped;
  }

-- ---- the work
pub turns_at : {names : List (List ℕ)} {old new : Sides} {k k' : Kind} {v w : Place} (n m : ℕ) → n ≡ m → AreTurns names old k v n new k' w → AreTurns names old k v m new k' w
turns_at {names} {old} {new} {k} {k'} {v} {w} n m e are = subst (λ (x : ℕ). AreTurns names old k v x new k' w) e are

pub turns_as : (names : List (List ℕ)) (old new : Sides) (k k' : Kind) (v w : Place) (stops b : Bool) → stops ≡ b → IsTurn names old k v new k' w stops → IsTurn names old k v new k' w b
turns_as names old new k k' v w stops b e turn = subst (λ (x : Bool). IsTurn names old k v new k' w x) e turn

one_never : (names : List (List ℕ)) (end : End) (k k' : Kind) (v w : Place) → CutsOne names end k v k' w → (end ≡ ended.Turns) ⊎ (end ≡ ended.Stopped) → ⊥
one_never names ended.Turns k k' v w cut is = cut
one_never names ended.Stopped k k' v w cut is = cut
one_never names ended.WiresFault k k' v w cut is = cut
one_never names ended.JournalFault k k' v w cut (inl is) = cc
one_never names ended.JournalFault k k' v w cut (inr is) = cc
one_never names ended.Memory k k' v w cut (inl is) = cc
one_never names ended.Memory k k' v w cut (inr is) = cc

never : {end : End} {k' : Kind} {w : Place} (names : List (List ℕ)) (k : Kind) (v : Place) → Cuts names k v end k' w → (end ≡ ended.Turns) ⊎ (end ≡ ended.Stopped) → ⊥
never names k v AtWires (inl is) = cc
never names k v AtWires (inr is) = cc
never names k v (Midway end head mid new w begun b cut) is = one_never names end k new mid w cut is

pub works_cut : (names : List (List ℕ)) (n turns : ℕ) (old mid new : Sides) (k0 k k' : Kind) (v0 v w : Place) (end : End) → n < turns → AreTurns names old k0 v0 n mid k v → BreaksTurn names end mid k v new k' w → Works names turns old k0 v0 end new k' w
works_cut names n turns old mid new k0 k k' v0 v w ended.Turns less are b = absurd (never names b.kind b.mid b.cuts (inl refl))
works_cut names n turns old mid new k0 k k' v0 v w ended.Stopped less are b = absurd (never names b.kind b.mid b.cuts (inr refl))
works_cut names n turns old mid new k0 k k' v0 v w ended.WiresFault less are b = (n, less, record { mid = mid; kind = k; place = v; turns = are; broke = b })
works_cut names n turns old mid new k0 k k' v0 v w ended.JournalFault less are b = (n, less, record { mid = mid; kind = k; place = v; turns = are; broke = b })
works_cut names n turns old mid new k0 k k' v0 v w ended.Memory less are b = (n, less, record { mid = mid; kind = k; place = v; turns = are; broke = b })

pub works_stopped : (names : List (List ℕ)) (n turns : ℕ) (old mid new : Sides) (k0 k k' : Kind) (v0 v w : Place) → n < turns → AreTurns names old k0 v0 n mid k v → IsTurn names mid k v new k' w true → Works names turns old k0 v0 ended.Stopped new k' w
works_stopped names n turns old mid new k0 k k' v0 v w less are last = (n, less, record { mid = mid; kind = k; place = v; turns = are; last = last })

pub more_turns : (names : List (List ℕ)) (n : ℕ) (old mid new : Sides) (k0 k k' : Kind) (v0 v w : Place) → AreTurns names old k0 v0 n mid k v → IsTurn names mid k v new k' w false → AreTurns names old k0 v0 (n + 1) new k' w
more_turns names n old mid new k0 k k' v0 v w are turn = let next : suc n ≡ n + 1 = omega arith in subst (λ (m : ℕ). AreTurns names old k0 v0 m new k' w) next (More n mid new k k' v w are turn)
