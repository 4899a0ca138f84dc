-- One builder for each kind of step: from what a core knows there, what it owes to every law of what may follow.
use Rattle.flow_rules.specs.declared.ids.BufferId.{BufferId}
use Rattle.flow_rules.specs.declared.ids.FlowId.{FlowId}
use Rattle.flow_laws.proofs.Ends.{ends_empty}
use Rattle.flow_laws.proofs.Lists.{both, by_case}
use Rattle.flow_laws.proofs.Lives.{is_live_is, is_of, lives}
use Rattle.flow_laws.proofs.Paused.{due_live, fresh_due, next_lives, told_lives}
use Rattle.flow_laws.proofs.Quiets.{rest_is_quiet}
use Rattle.flow_laws.proofs.Sound.{each_map, goes_on, paced_of}
use Rattle.flow_laws.proofs.Units.{IsBody, body_is, next_is}
use Rattle.flow_laws.specs.Balance.{LeavesClosed}
use Rattle.flow_laws.specs.Endings.{EndsInTime, HeadInTime}
use Rattle.flow_laws.specs.Facts.{ArrivesNow, ComesNow, CreditsNow, DoomsNow, FiresNow, FramesNow, GoesNow, MovesNow, PausesNow, PicksNow, ResumesNow, StartsNow, TurnsNow, WritesNow}
use Rattle.flow_laws.specs.Fitting.{FitsIn}
use Rattle.flow_laws.specs.Laws.{GoesOnSoundly}
use Rattle.flow_laws.specs.Octets.{ReadsBody}
use Rattle.flow_laws.specs.Suits.{IsSound, Suits}
use Rattle.flow_laws.specs.Ways.{HasLimits, HasWays}
use Rattle.flow_notes.specs.declared.events.Event.{Event}
use Rattle.flow_rules.specs.declared.causes.Cause.{Cause}
use Rattle.flow_notes.specs.declared.notes.CloseCause.{CloseCause}
use Rattle.flow_rules.specs.declared.causes.FireKind.{FireKind}
use Rattle.std.proofs.Common.{ap, arith, subst, sym, ◌∙◌}
use Rattle.std.specs.Prelude.{Bool, IfSome, List, None, Option, Some, [], false, length, min, suc, true, ℕ, ◌+◌, ◌<◌, ◌∷◌, ◌≡◌}
use Rattle.tape_laws.specs.Demands.{Answers, MeetsFirst, OnlyAsked, obligations}
use Rattle.tape_laws.specs.Dispatches.{has, live}
use Rattle.tape_laws.specs.Doomed.{LeavesDoomed, SweepsLast}
use Rattle.tape_laws.specs.Ends.{end_framed}
use Rattle.tape_laws.specs.Framing.{KeepsEnds, MayPick}
use Rattle.tape_laws.specs.History.{BeforeTurn, History, Marked, Noted, Step}
use Rattle.tape_laws.specs.Order.{InTurn, PickedInTurn}
use Rattle.tape_laws.specs.Pauses.{Heads, PausesInOrder, due_pauses}
use Rattle.tape_laws.specs.Quiet.{EachPlace, IsQuiet}
use Rattle.tape_laws.specs.Release.{MayStand}
use Rattle.tape_laws.specs.Setup.{Session, Setup}
use Rattle.tape_laws.specs.Sources.{is_live}
use Rattle.tape_laws.specs.State.{state_of}
use Rattle.tape_laws.specs.Units.{Pick, WantsOut}
use Rattle.tape_laws.specs.World.{last_place, place}
use Rattle.flow_notes.specs.declared.notes.Note.TheVariants as note
use Rattle.flow_rules.specs.declared.unit.Unit.TheVariants as unit

module _ {Mark : Type 0} (session : Session Mark) (ways : HasWays session.setup) (limited : HasLimits session.setup) (h : History Mark) (s : IsSound session h) where
  abbrev setup : Setup Mark
  setup = session.setup

  abbrev Now : Step Mark → Type 0
  Now step = ComesNow session step h

  -- a flow that is live is of a live exchange
  alive : (f : FlowId) → is_live setup f h ≡ true → has (live h) f.exchange ≡ true
  alive f a = (both (has (live h) f.exchange) (is_of setup ways f) (sym (is_live_is setup ways f h (lives h s.lawful.doomed)) ∙ a)).0

  -- nothing is owed, so any step but a pause meets it
  meets_none : (step : Step Mark) → MeetsFirst setup [] step → obligations session h ≡ [] → Answers session step h
  meets_none step m e = subst (λ ds. MeetsFirst setup ds step) (sym e) m

  -- a step that comes now, with what its kind owes besides
  stands : (step : Step Mark) → Now step → PausesInOrder setup step h → SweepsLast step h → MayStand setup step h → KeepsEnds setup step h → InTurn setup step h → LeavesDoomed step h
      → OnlyAsked session step h → BeforeTurn (IsQuiet session) step h → FitsIn setup step h → BeforeTurn (LeavesClosed setup) step h → ReadsBody setup step h → EndsInTime setup step h
      → IsSound session (step ∷ h)
  stands step now paused swept allowed ends in_turn doomed only quiet fits closed reads in_time = goes_on session ways limited step h s (record {
    allowed = allowed;
    paused = paused;
    ends = ends;
    in_turn = in_turn;
    doomed = doomed;
    swept = swept;
    answered = now.answered;
    only = only;
    licensed = now.licensed;
    may = now.may;
    quiet = quiet;
    suits = record { fits = fits; closed = closed; goes_on = now.goes_on; reads = reads; in_time = in_time };
  })

  turns : (k : ℕ) (e : Event) → TurnsNow session k e h → IsSound session (Noted (note.Turn k e) ∷ h)
  turns k e t = goes_on session ways limited (Noted (note.Turn k e)) h s (record {
    allowed = t.next;
    paused = t.rests.paused;
    ends = tt;
    in_turn = tt;
    doomed = t.rests.gone;
    swept = tt;
    answered = meets_none (Noted (note.Turn k e)) tt t.rests.asked;
    only = tt;
    licensed = t.licensed;
    may = t.may;
    quiet = rest_is_quiet session h ways (paced_of session h s) t.rests;
    suits = record { fits = tt; closed = t.closed; goes_on = t.goes_on; reads = tt; in_time = tt };
  })

  arrives : (f : FlowId) (octets : List ℕ) → ArrivesNow session f octets h → IsSound session (Noted (note.Arrive f octets) ∷ h)
  arrives f octets a =
      stands (Noted (note.Arrive f octets)) a.now a.now.paused a.now.fresh (a.lives, a.some) tt tt (alive f a.lives) tt tt a.fits tt a.reads a.unended

  moves : (f : FlowId) (p n : ℕ) → MovesNow session f p n h → IsSound session (Noted (note.Move f p n) ∷ h)
  moves f p n m = stands (Noted (note.Move f p n)) m.now m.now.paused m.now.fresh m.moves tt tt (alive f m.moves.live) tt tt m.fits tt tt tt

  -- the end of a flow that has a body unit wasn't framed
  unended : (f : FlowId) (n : ℕ) (last : Bool) → is_live setup f h ≡ true → IsBody (state_of setup f h) n last → end_framed setup f h ≡ false
  unended f n last a b =
      by_case (end_framed setup f h) (λ t. absurd (some n (length (place setup f (last_place setup f h) h)) setup.quantum (setup.carries f h) (b.again t) b.all (ap length (last_empty f t)))) (λ d. d)
    where
      some : (n l q r : ℕ) → 0 < n → n ≡ min (min q r) l → l ≡ 0 → ⊥
      some n l q r i e z = omega (arith, i, e, z)

      last_of : (P : ℕ → Type 0) (n : ℕ) → EachPlace P (n + 1) → P (n + 1)
      last_of P n e = subst P (next n) (at (subst (λ v. EachPlace P v) (sym (next n)) e))
        where
          next : (n : ℕ) → suc n ≡ n + 1
          next n = omega arith

          at : EachPlace P (suc n) → P (suc n)
          at e = e.0

      last_empty : (g : FlowId) → end_framed setup f h ≡ true → place setup f (last_place setup f h) h ≡ []
      last_empty g t = last_of (λ p. place setup f p h ≡ []) (length (setup.stages f h))
          (ends_empty setup ways f h s.lawful.allowed s.lawful.doomed s.lawful.ends (each_map (Suits setup) (EndsInTime setup) (λ v k a. a.in_time) h s.suited) t a)

  frames : (c : ℕ) (f : FlowId) (n : ℕ) (last : Bool) → FramesNow session c f n last h → IsSound session (Noted (note.Frame c f n last) ∷ h)
  frames c f n last m =
      let next = next_is setup h c f (unit.Body n last) m.next in
      let body = body_is (state_of setup f h) n last next.own in
      stands (Noted (note.Frame c f n last)) m.now m.now.paused m.now.fresh
      (record { live = next.live; to = next.to; write = m.write; all = body.all; some = body.some })
      (record { exactly = body.exactly; once = unended f n last next.live body; after_head = body.after_head }) m.next (alive f next.live) tt tt tt tt tt tt

  credits : (c t n : ℕ) → CreditsNow session c t n h → IsSound session (Noted (note.Credit c t n) ∷ h)
  credits c t n m = stands (Noted (note.Credit c t n)) m.now m.now.paused m.now.fresh m.write tt m.next tt tt tt tt tt tt tt

  some_at : (P : Pick → Type 0) (o : Option Pick) (p : Pick) → o ≡ Some p → P p → IfSome o P
  some_at P o p e x = subst (λ v. IfSome v P) (sym e) x

  none_at : (P : Pick → Type 0) (o : Option Pick) → o ≡ None → IfSome o P
  none_at P o e = subst (λ v. IfSome v P) (sym e) tt

  picks : (m : Mark) (p : Pick) → PicksNow session m p h → IsSound session (Marked m ∷ h)
  picks m p k =
      stands (Marked m) k.now k.now.paused k.now.fresh tt (some_at (λ v. MayPick setup v.unit h) (setup.picks m) p k.picks k.ends)
      (some_at (λ v. PickedInTurn setup v.conn v.unit h) (setup.picks m) p k.picks k.next) tt tt tt tt tt tt (some_at (λ v. HeadInTime setup v.unit h) (setup.picks m) p k.picks k.in_time)

  marks : (m : Mark) → setup.picks m ≡ None → Now (Marked m) → IsSound session (Marked m ∷ h)
  marks m e k =
      stands (Marked m) k k.paused k.fresh tt (none_at (λ v. MayPick setup v.unit h) (setup.picks m) e) (none_at (λ v. PickedInTurn setup v.conn v.unit h) (setup.picks m) e)
      tt tt tt tt tt tt (none_at (λ v. HeadInTime setup v.unit h) (setup.picks m) e)

  heads : (c t : ℕ) (octets : List ℕ) → WritesNow session (Noted (note.Head c t octets)) c (length octets) h → IsSound session (Noted (note.Head c t octets) ∷ h)
  heads c t octets m = stands (Noted (note.Head c t octets)) m.now m.now.paused m.now.fresh m.write tt tt tt tt tt m.fits tt tt tt

  answers : (c : ℕ) (octets : List ℕ) → WritesNow session (Noted (note.Answer c octets)) c (length octets) h → IsSound session (Noted (note.Answer c octets) ∷ h)
  answers c octets m = stands (Noted (note.Answer c octets)) m.now m.now.paused m.now.fresh m.write tt tt tt tt tt m.fits tt tt tt

  outs : (c n : ℕ) → Now (Noted (note.Out c n)) → Heads (WantsOut c n) (obligations session h) → IsSound session (Noted (note.Out c n) ∷ h)
  outs c n m asked = stands (Noted (note.Out c n)) m m.paused m.fresh tt tt tt tt asked tt tt tt tt tt

  pauses : (f : FlowId) (b : BufferId) → PausesNow session f b h → IsSound session (Noted (note.Pause f b) ∷ h)
  pauses f b m = goes_on session ways limited (Noted (note.Pause f b)) h s (record {
    allowed = tt;
    paused = m.next;
    ends = tt;
    in_turn = tt;
    doomed = next_lives setup ways f b (live h) (due_pauses setup h) (due_live setup ways h) m.next;
    swept = fresh_due setup (record { flow = f; buffer = b }) h m.next;
    answered = tt;
    only = tt;
    licensed = m.licensed;
    may = m.may;
    quiet = tt;
    suits = record { fits = tt; closed = tt; goes_on = m.goes_on; reads = tt; in_time = tt };
  })

  resumes : (f : FlowId) (b : BufferId) → ResumesNow session f b h → IsSound session (Noted (note.Resume f b) ∷ h)
  resumes f b m =
      stands (Noted (note.Resume f b)) m.now (m.now.paused, m.next, m.open_) m.now.fresh tt tt tt (told_lives setup ways f b h s.lawful.doomed m.next) tt tt tt tt tt tt

  wastes : (c t n : ℕ) → Now (Noted (note.Waste c t n)) → IsSound session (Noted (note.Waste c t n) ∷ h)
  wastes c t n m = stands (Noted (note.Waste c t n)) m m.paused m.fresh tt tt tt tt tt tt tt tt tt tt

  starts : (x c t d : ℕ) → StartsNow session x c t d h → IsSound session (Noted (note.Start x c t d) ∷ h)
  starts x c t d m = stands (Noted (note.Start x c t d)) m.now m.now.paused m.now.fresh tt tt tt m.new m.asked tt tt tt tt tt

  dooms : (x : ℕ) (why : Cause) → DoomsNow session x why h → IsSound session (Noted (note.Doom x why) ∷ h)
  dooms x why m = stands (Noted (note.Doom x why)) m.now m.now.paused m.now.fresh tt tt tt m.lives m.asked tt tt tt tt tt

  goes : (x : ℕ) → GoesNow session x h → IsSound session (Noted (note.Gone x) ∷ h)
  goes x m = goes_on session ways limited (Noted (note.Gone x)) h s (record {
    allowed = tt;
    paused = m.paused;
    ends = tt;
    in_turn = tt;
    doomed = m.next;
    swept = tt;
    answered = meets_none (Noted (note.Gone x)) tt m.asked;
    only = tt;
    licensed = m.licensed;
    may = m.may;
    quiet = tt;
    suits = record { fits = tt; closed = tt; goes_on = m.goes_on; reads = tt; in_time = tt };
  })

  closes : (c code : ℕ) (why : CloseCause) → Now (Noted (note.Close c code why)) → IsSound session (Noted (note.Close c code why) ∷ h)
  closes c code why m = stands (Noted (note.Close c code why)) m m.paused m.fresh tt tt tt tt tt tt tt tt tt tt

  fires : (k : FireKind) (x : ℕ) → FiresNow session k x h → IsSound session (Noted (note.Fire k x) ∷ h)
  fires k x m = stands (Noted (note.Fire k x)) m.now m.now.paused m.now.fresh tt tt tt m.lives tt tt tt tt tt tt

  pub steps_are_sound : GoesOnSoundly session h
  steps_are_sound = record {
    turns = turns;
    arrives = arrives;
    moves = moves;
    frames = frames;
    credits = credits;
    picks = picks;
    marks = marks;
    heads = heads;
    answers = answers;
    outs = outs;
    pauses = pauses;
    resumes = resumes;
    wastes = wastes;
    starts = starts;
    dooms = dooms;
    goes = goes;
    closes = closes;
    fires = fires;
  }
