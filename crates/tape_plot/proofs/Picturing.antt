-- The picture of a tape shows what was read of it.
use Rattle.flow_rules.specs.declared.ids.FlowId.{FlowId}
use Rattle.session_run.specs.Newlines.{has_newline}
use Rattle.session_run.specs.declared.status.Status.{Status}
use Rattle.std.proofs.Common.{ap, inl, inr, refl, subst, sym, ◌∙◌}
use Rattle.std.proofs.lemmas.List.Elements.{All-contains_itself, All-weaker}
use Rattle.std.specs.Io.KnownBytes.{IsAtEnd}
use Rattle.std.specs.List.{Contains}
use Rattle.std.specs.Option.{option_or}
use Rattle.std.specs.Prelude.{List, None, Option, Some, false, if◌then◌else◌, length, min, ℕ, ◌+◌, ◌<◌, ◌==◌, ◌≡◌}
use Rattle.tape_laws.specs.Dispatches.{turns}
use Rattle.tape_laws.specs.History.{History, NoMark}
use Rattle.tape_plot.proofs.Mosts.{most_is}
use Rattle.tape_plot.specs.Ending.{EndsRight, IsNone, IsRefused, Writes, ended}
use Rattle.tape_plot.specs.Highest.{ArePicked, against, height_in, held_in, limit_named, limit_of, most_from, place_limit}
use Rattle.tape_plot.specs.Kept.{until}
use Rattle.tape_plot.specs.Lanes.{Drawn, LaneIs}
use Rattle.tape_plot.specs.Levels.{places}
use Rattle.tape_plot.specs.Limits.{LimitsAre, known, limit_at, place_limit_at}
use Rattle.tape_plot.specs.Picks.{IsPicked, buffers_of, height_kept, lane_of, limit_kept, top_in}
use Rattle.tape_plot.specs.Pictures.{DrawsAs, Pictures, WritesAs, WritesText}
use Rattle.tape_plot.specs.Reads.{EndsHow, Reads, ReadsTape}
use Rattle.tape_plot.specs.Said.{Said, told}
use Rattle.tape_plot.specs.Sheets.{LaneDrawn, TextDrawn}
use Rattle.tape_plot.specs.Shown.{AsksFor, IsDrawn, Shows, ShowsBuffers, WasFilled, Within}
use Rattle.tape_plot.specs.Standing.{LanesStand}
use Rattle.tape_plot.specs.declared.highest.Buffer.{Buffer}
use Rattle.tape_plot.specs.declared.choice.Choice.{Choice}
use Rattle.tape_plot.specs.declared.choice.Lanes.{Lanes}
use Rattle.tape_plot.specs.declared.levels.Levels.{Levels}
use Rattle.tape_plot.specs.declared.limits.Limits.{Limits}
use Rattle.tape_plot.specs.declared.report.Outcome.{Outcome}
use Rattle.tape_plot.specs.declared.report.Refusal.{Refusal}
use Rattle.tape_plot.specs.declared.tape.Tape.{Tape}
use Rattle.flow_rules.specs.declared.ids.BufferId.TheVariants as ids
use Rattle.session_run.specs.declared.status.Status.TheVariants as status
use Rattle.tape_plot.specs.declared.highest.Buffer.TheVariants as buffer

-- ---- what is drawn of the lanes

lane_stands : (b : Buffer) (levels : Levels) (first : ℕ) (h : History NoMark) → LanesStand levels first h → LaneIs (lane_of b levels) (held_in b) first h
lane_stands (buffer.Place f p) levels first h s = s.placed f p
lane_stands (buffer.Write c) levels first h s = s.wrote c

place_told : (limits : Limits) (f : FlowId) (count p : ℕ) (said : List Said) → LimitsAre limits said → place_limit_at limits f count p ≡ place_limit f count p said
place_told limits f count p said are =
    ap (λ (v : Option ℕ). if p == 0 then v else option_or (limit_at limits (ids.Stage f p)) (if p + 1 == count then limit_at limits (ids.Send f) else None)) (are.each (ids.Recv f))
    ∙ ap (λ (v : Option ℕ). if p == 0 then limit_named (ids.Recv f) said else option_or v (if p + 1 == count then limit_at limits (ids.Send f) else None)) (are.each (ids.Stage f p))
    ∙ ap (λ (v : Option ℕ). if p == 0 then limit_named (ids.Recv f) said else option_or (limit_named (ids.Stage f p) said) (if p + 1 == count then v else None)) (are.each (ids.Send f))

-- the limit that is kept is the one that the summary tells
limit_stands : (b : Buffer) (levels : Levels) (limits : Limits) (first : ℕ) (h : History NoMark) (said : List Said) → LanesStand levels first h → LimitsAre limits said → known (limit_kept b levels limits) ≡ limit_of b h said
limit_stands (buffer.Place f p) levels limits first h said s are = ap (λ (n : ℕ). known (place_limit_at limits f n p)) (s.many f) ∙ ap known (place_told limits f (length (places f h)) p said are)
limit_stands (buffer.Write c) levels limits first h said s are = ap known (are.each (ids.Write c))

shows_lane : (text : List ℕ) (b : Buffer) (first end limit : ℕ) (h : History NoMark) (said : List Said) (d : Drawn) → end ≡ turns h → limit ≡ limit_of b h said → LaneDrawn (Within text) first end limit d → LaneIs d (held_in b) first h
    → Shows text b first h said
shows_lane text b first end limit h said d e el l is = record {
  lane = l.fitted;
  stands = l.fits.goes (held_in b) first h is;
  drawn = subst (λ (v : ℕ). IsDrawn (Within text) first (turns h) v l.fitted) el (subst (λ (v : ℕ). IsDrawn (Within text) first v limit l.fitted) e l.drawn);
}

-- what is picked of the lanes is picked of the buffers
picked_stands : (levels : Levels) (limits : Limits) (first : ℕ) (h : History NoMark) (said : List Said) (picked : List Buffer) → LanesStand levels first h → LimitsAre limits said
    → ArePicked (height_kept levels limits) (λ b. 0 < top_in b levels) picked → ArePicked (λ b. height_in b first h said) (WasFilled first h) picked
picked_stands levels limits first h said picked s are k =
    subst (λ (t : Buffer → ℕ). ArePicked (λ b. against (limit_of b h said) (t b)) (λ b. 0 < t b) picked) tops
    (subst (λ (l : Buffer → ℕ). ArePicked (λ b. against (l b) (top_in b levels)) (λ b. 0 < top_in b levels) picked) its_limits k)
  where
    its_limits : ◌≡◌ {A = Buffer → ℕ} (λ b. known (limit_kept b levels limits)) (λ b. limit_of b h said)
    its_limits = λ i b. limit_stands b levels limits first h said s are i

    tops : ◌≡◌ {A = Buffer → ℕ} (λ b. top_in b levels) (λ b. most_from (held_in b) first h)
    tops = λ i b. most_is (lane_of b levels) (held_in b) first h (lane_stands b levels first h s) i

shows_buffers : (text : List ℕ) (lanes : Lanes) (limits : Limits) (levels : Levels) (first end : ℕ) (h : History NoMark) (said : List Said) → end ≡ turns h → TextDrawn text first end limits lanes levels → LanesStand levels first h
    → LimitsAre limits said → ShowsBuffers text lanes first h said
shows_buffers text lanes limits levels first end h said e d s are = record {
  asked = λ b asks. shown b (inl (subst (λ (v : Lanes). AsksFor v b) (sym d.by) asks));
  highest = λ is. record {
    picked = buffers_of d.pick;
    are = picked_stands levels limits first h said (buffers_of d.pick) s are (d.ranked (d.by ∙ is));
    shown =
        All-weaker (Contains (buffers_of d.pick)) (λ b. Shows text b first h said) (λ b there. shown b (inr (d.by ∙ is, there))) (buffers_of d.pick) (All-contains_itself (buffers_of d.pick));
  };
}
  where
    shown : (b : Buffer) → IsPicked d.pick b → Shows text b first h said
    shown b is =
        shows_lane text b first end (known (limit_kept b levels limits)) h said (lane_of b levels) e (limit_stands b levels limits first h said s are) (d.drawn.lanes b is) (lane_stands b levels first h s)

pub pictured : (left_old left_new : Option (List ℕ)) (choice : Choice) (tape : Tape) (text : List ℕ) → ReadsTape left_old left_new choice.first choice.last tape
    → TextDrawn text tape.plot.clock.first (min tape.plot.clock.turn tape.plot.clock.last) tape.plot.limits choice.lanes tape.plot.levels → Pictures left_old left_new choice text
pictured left_old left_new choice tape text r d = record {
  read = r.read;
  said = r.said;
  rest = r.rest;
  consumes = r.consumes;
  tells = r.tells;
  reads = r.reads;
  cut = r.cut;
  end = r.end;
  shows = shows_buffers text choice.lanes tape.plot.limits tape.plot.levels choice.first (min tape.plot.clock.turn tape.plot.clock.last) (until choice.last (told r.said)) r.said r.ends
      (subst (λ (v : ℕ). TextDrawn text v (min tape.plot.clock.turn tape.plot.clock.last) tape.plot.limits choice.lanes tape.plot.levels) r.starts d) r.lanes r.limits;
}

-- memory ran out behind the reading
pub reads_undrawn : (left_old left_new : Option (List ℕ)) (first last : ℕ) (tape : Tape) (o : Outcome) → ReadsTape left_old left_new first last tape → o ≡ ended status.Memory → Reads left_old left_new o
reads_undrawn left_old left_new first last tape o r e =
    subst (Reads left_old left_new) (sym e) (record { read = r.read; said = r.said; rest = r.rest; consumes = r.consumes; tells = r.tells; reads = r.reads; ends = tt })

-- ---- a picture is written

pub writes_same : (of_sink : Type 0) (old new : Option (List ℕ)) (slice text : List ℕ) (o : Outcome) → slice ≡ text → WritesText of_sink old new slice o → WritesText of_sink old new text o
writes_same of_sink old new slice text o e w = subst (λ (v : List ℕ). WritesText of_sink old new v o) e w

ends_how : (of_sink : Type 0) (old new : Option (List ℕ)) (text : List ℕ) (s : Status) (line : ℕ) (said : List Said) (rest : List ℕ) (left : Option (List ℕ)) → WritesAs of_sink old new text s → has_newline rest ≡ false → IsAtEnd left → EndsHow s line said rest left
ends_how of_sink old new text status.Done line said rest left w cut end = (cut, end)
ends_how of_sink old new text status.WriteFault line said rest left w cut end = tt
ends_how of_sink old new text other line said rest left w cut end = absurd w

pub reads_drawn : (of_sink : Type 0) (left_old left_new old new : Option (List ℕ)) (choice : Choice) (text : List ℕ) (o : Outcome) → Pictures left_old left_new choice text → WritesText of_sink old new text o → Reads left_old left_new o
reads_drawn of_sink left_old left_new old new choice text o p w =
    record { read = p.read; said = p.said; rest = p.rest; consumes = p.consumes; tells = p.tells; reads = p.reads; ends = ends_how of_sink old new text o.status o.line p.said p.rest left_new w.writes p.cut p.end }

written_as : (of_source of_sink : Type 0) (old new : Option (List ℕ)) (text : List ℕ) (s : Status) → WritesAs of_sink old new text s → Writes of_source of_sink old new s None
written_as of_source of_sink old new text status.Done w = (text, w)
written_as of_source of_sink old new text status.WriteFault w = (w.0, (text, w.1))
written_as of_source of_sink old new text other w = absurd w

pub ends_written : (of_source of_sink : Type 0) (old new : Option (List ℕ)) (text : List ℕ) (o : Outcome) → WritesText of_sink old new text o → EndsRight of_source of_sink old new o
ends_written of_source of_sink old new text o w = subst (λ (r : Option Refusal). Writes of_source of_sink old new o.status r) (sym w.whole) (written_as of_source of_sink old new text o.status w.writes)

draws_as : (of_sink : Type 0) (left_old left_new old new : Option (List ℕ)) (choice : Choice) (text : List ℕ) (s : Status) → Pictures left_old left_new choice text → WritesAs of_sink old new text s → DrawsAs left_old left_new old new choice s
draws_as of_sink left_old left_new old new choice text status.Done p w = (text, w, p)
draws_as of_sink left_old left_new old new choice text other p w = tt

pub draws_written : (of_sink : Type 0) (left_old left_new old new : Option (List ℕ)) (choice : Choice) (text : List ℕ) (o : Outcome) → Pictures left_old left_new choice text → WritesText of_sink old new text o → DrawsAs left_old left_new old new choice o.status
draws_written of_sink left_old left_new old new choice text o p w = draws_as of_sink left_old left_new old new choice text o.status p w.writes

-- ---- there is no picture

none_as : (of_source of_sink : Type 0) (old : Option (List ℕ)) (s : Status) (r : Option Refusal) → IsNone of_source s r → Writes of_source of_sink old old s r
none_as of_source of_sink old status.Done None n = absurd n
none_as of_source of_sink old status.Done (Some w) n = absurd n
none_as of_source of_sink old status.WriteFault None n = absurd n
none_as of_source of_sink old status.WriteFault (Some w) n = absurd n
none_as of_source of_sink old other r n = (n, refl)

pub ends_refused : (of_source of_sink : Type 0) (old : Option (List ℕ)) (o : Outcome) → IsRefused of_source o → EndsRight of_source of_sink old old o
ends_refused of_source of_sink old o n = none_as of_source of_sink old o.status o.refusal n

undrawn : (of_source : Type 0) (left_old left_new old new : Option (List ℕ)) (choice : Choice) (s : Status) (r : Option Refusal) → IsNone of_source s r → DrawsAs left_old left_new old new choice s
undrawn of_source left_old left_new old new choice status.Done None n = absurd n
undrawn of_source left_old left_new old new choice status.Done (Some w) n = absurd n
undrawn of_source left_old left_new old new choice other r n = tt

pub draws_refused : (of_source : Type 0) (left_old left_new old new : Option (List ℕ)) (choice : Choice) (o : Outcome) → IsRefused of_source o → DrawsAs left_old left_new old new choice o.status
draws_refused of_source left_old left_new old new choice o n = undrawn of_source left_old left_new old new choice o.status o.refusal n
