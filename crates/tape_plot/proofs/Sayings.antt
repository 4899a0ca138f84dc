-- Lines of a tape, as they are taken up.
use Rattle.flow_gate.specs.Ids.{same_buffer}
use Rattle.flow_rules.specs.declared.ids.BufferId.{BufferId}
use Rattle.flow_notes.specs.Fields.{FitsNote}
use Rattle.flow_notes.specs.Line.{newline}
use Rattle.flow_notes.specs.Note.{IsNote, note_spelling}
use Rattle.flow_notes.specs.declared.notes.Note.{Note}
use Rattle.session_run.specs.Held.{held_of}
use Rattle.session_run.specs.Newlines.{BeginsWithLine}
use Rattle.session_run.specs.declared.status.Status.{Status}
use Rattle.session_run.specs.declared.status.Status.TheVariants as status
use Rattle.std.proofs.Common.{ap, append_assoc, arith, length-append, refl, subst, sym, ◌∙◌}
use Rattle.std.proofs.lemmas.List.{append-nil, length-take-le}
use Rattle.std.specs.Io.KnownBytes.{Consumes}
use Rattle.std.specs.Prelude.{Err, IfOk, List, None, Ok, OnOk, Option, Result, Some, [], drop, if◌then◌else◌, length, min, suc, take, zero, ℕ, ◌++◌, ◌+◌, ◌-◌, ◌^◌, ◌∷◌, ◌≡◌}
use Rattle.tape_plot.specs.Ending.{ended}
use Rattle.tape_plot.proofs.Stands.{stands}
use Rattle.tape_plot.proofs.Writing.{until_end}
use Rattle.tape_plot.specs.Goes.{PlotGoes, PlotStays}
use Rattle.tape_plot.specs.Highest.{limit_named}
use Rattle.tape_plot.specs.Kept.{until}
use Rattle.tape_plot.specs.Limits.{LimitsAre, TellsLine, limit_at}
use Rattle.tape_plot.specs.Reading.{Fails, ReadsNote, SpellsNote}
use Rattle.tape_plot.specs.Reads.{EndsHow, Follows, Goes, Reads, ReadsTape, TakesLine, TapeIs, WentAs}
use Rattle.tape_plot.specs.Lines.{line_text}
use Rattle.tape_plot.specs.Said.{MayFollow, Said, Sums, Tells, part_with, said_text, tape_text, told}
use Rattle.tape_plot.specs.declared.limits.Limits.{Limits}
use Rattle.tape_plot.specs.declared.report.Outcome.{Outcome}
use Rattle.tape_plot.specs.declared.report.Refusal.{Refusal}
use Rattle.tape_plot.specs.declared.plot.Plot.{Plot}
use Rattle.tape_plot.specs.declared.report.Line.{Line}
use Rattle.tape_plot.specs.declared.tape.Part.{Part}
use Rattle.tape_plot.specs.declared.tape.Stop.{Stop}
use Rattle.tape_plot.specs.declared.tape.Tape.{Tape}
use Rattle.tape_plot.specs.declared.report.Line.TheVariants as line
use Rattle.tape_plot.specs.declared.tape.Part.TheVariants as part
use Rattle.tape_plot.specs.declared.tape.Stop.TheVariants as stop

-- ---- octets

dropped : (a : List ℕ) (x : ℕ) (rest : List ℕ) (n : ℕ) → length a ≡ n → drop (suc n) (a ++ x ∷ rest) ≡ rest
dropped [] x rest zero e = refl
dropped [] x rest (suc n) e = absurd (omega (arith, e))
dropped (y ∷ a) x rest zero e = absurd (omega (arith, e))
dropped (y ∷ a) x rest (suc n) e = dropped a x rest n (omega (arith, e))

-- what is held is its first line and what stands behind it
pub parted : (held : List ℕ) (n : ℕ) → BeginsWithLine held n → held ≡ (take n held ++ newline) ++ drop (n + 1) held
parted held n b =
    b.is
    ∙ sym (append_assoc (take n held) newline b.rest)
    ∙ ap (λ (v : List ℕ). (take n held ++ newline) ++ v) (sym behind)
  where
    one : n + 1 ≡ suc n
    one = omega arith

    long : length (take n held) ≡ n
    long = length-take-le n held (omega (arith, b.within))

    behind : drop (n + 1) held ≡ b.rest
    behind = ap (λ (v : ℕ). drop v held) one ∙ ap (drop (suc n)) b.is ∙ dropped (take n held) 10 b.rest n long

consumes_more : (a b c : Option (List ℕ)) (x y : List ℕ) → Consumes a b x → Consumes b c y → Consumes a c (x ++ y)
consumes_more None b c x y p q = tt
consumes_more (Some a) None c x y p q = absurd p
consumes_more (Some a) (Some b) None x y p q = absurd q
consumes_more (Some a) (Some b) (Some c) x y p q = p ∙ ap (λ (v : List ℕ). x ++ v) q ∙ sym (append_assoc x y c)

pub consumes_none : (a : Option (List ℕ)) → Consumes a a []
consumes_none None = tt
consumes_none (Some a) = refl

-- ---- a line

pub line_on : (old new : Tape) (n : ℕ) → BeginsWithLine (held_of old.lines) n → Follows (take n (held_of old.lines)) old.plot new.plot old.part new.part
    → held_of new.lines ≡ drop (n + 1) (held_of old.lines) → new.read ≡ old.read + (n + 1) → new.number ≡ old.number + 1 → TakesLine old new (Ok tt)
line_on old new n b f held er en = record { goes = λ first last said read left k. (f.says ∷ said, taken first last said read k) }
  where
    taken : (first last : ℕ) (said : List Said) (read : List ℕ) → TapeIs old first last said read → TapeIs new first last (f.says ∷ said) read
    taken first last said read k = record {
      tells = (f.is, subst (MayFollow f.says) k.part f.may, k.tells);
      part = f.part;
      reads =
          k.reads
          ∙ ap (λ (v : List ℕ). tape_text said ++ v) (parted (held_of old.lines) n b ∙ ap (λ (v : List ℕ). (take n (held_of old.lines) ++ newline) ++ v) (sym held))
          ∙ ap (λ (v : List ℕ). tape_text said ++ (v ++ held_of new.lines)) f.text
          ∙ sym (append_assoc (tape_text said) (said_text f.says) (held_of new.lines));
      count = er ∙ long said k.count;
      number = en ∙ ap (λ (v : ℕ). v + 1) k.number ∙ one_more said;
      plot = f.plot.goes first last said k.plot;
      limits = f.plot.limits said k.limits;
    }
      where
        one_more : (said : List Said) → length said + 1 ≡ suc (length said)
        one_more said = omega arith

        long : (said : List Said) → old.read ≡ length (tape_text said) → old.read + (n + 1) ≡ length (tape_text said ++ said_text f.says)
        long said c =
            let l = length-append (tape_text said) (said_text f.says) in
            let t : length (said_text f.says) ≡ n + 1 = sym (ap length f.text) ∙ length-append (take n (held_of old.lines)) newline ∙ ap (λ (v : ℕ). v + 1) (length-take-le n (held_of old.lines) (omega (arith, b.within))) in
            omega (arith, l, t, c)

-- the limits that are kept are the same, or one more is told
same_limits : (b : BufferId) (old new : Limits) (said : List Said) → new ≡ old → LimitsAre old said → limit_at new b ≡ limit_named b said
same_limits b old new said e are = ap (λ (v : Limits). limit_at v b) e ∙ are.each b

sum_limits : (l : Line) (old new : Limits) (said : List Said) → TellsLine old l new → LimitsAre old said → LimitsAre new (Sums l ∷ said)
sum_limits (line.Peak b limit most) old new said t are = record {
  each = λ c. t.each c ∙ ap (λ (v : Option ℕ). if same_buffer c b then Some limit else v) (are.each c);
}
sum_limits l old new said e are = record { each = λ c. same_limits c old new said e are }

-- a line tells a note before the summary, or it is one of the summary
pub note_follows : (line : List ℕ) (before after : Plot) (old : Part) (r : Result Part Stop) (read : Option Note) (n : Note) → ReadsNote line read → read ≡ Some n → IfOk r (λ _. old ≡ part.Notes)
    → IfOk r (λ next. next ≡ part.Notes) → OnOk r (PlotGoes before n after) → OnOk r (after.limits ≡ before.limits) → IfOk r (Follows line before after old)
note_follows line before after old (Ok next) read n k e b f g s = record {
  says = Tells k.names n;
  is = (k.are, spells.1, spells.2);
  may = subst (MayFollow (Tells k.names n)) (sym b) tt;
  text = ap (λ (v : List ℕ). v ++ newline) spells.0;
  part = f;
  plot = record {
    goes = λ first last said is. g.goes first last (told said) is;
    limits = λ said are. record { each = λ c. same_limits c before.limits after.limits said s are };
  };
}
  where
    spells : (line ≡ note_spelling k.names n) × IsNote k.names n × FitsNote n
    spells = subst (SpellsNote k.names line) e k.spells
note_follows line before after old (Err w) read n k e b f g s = tt

may_sum : (l : Line) (before : Part) → ((m : Line) → before ≡ part.Ended m → ⊥) → MayFollow (Sums l) before
may_sum l part.Notes goes = tt
may_sum l part.Summary goes = tt
may_sum l (part.Ended m) goes = absurd (goes m refl)

pub sum_follows : (line : List ℕ) (before after : Plot) (old : Part) (r : Result Part Stop) → ((m : Line) → old ≡ part.Ended m → ⊥)
    → IfOk r (λ next. (l : Line) × (line ++ newline ≡ line_text l) × (next ≡ part_with (Sums l)) × TellsLine before.limits l after.limits) → OnOk r (PlotStays before after) → IfOk r (Follows line before after old)
sum_follows line before after old (Ok next) goes s g = record {
  says = Sums s.0;
  is = tt;
  may = may_sum s.0 old goes;
  text = s.1;
  part = s.2;
  plot = record {
    goes = λ first last said is. g.goes first last (told said) is;
    limits = λ said are. sum_limits s.0 before.limits after.limits said s.3 are;
  };
}
sum_follows line before after old (Err s) goes e g = tt

-- ---- reading

pub line_goes : (old new : Tape) (left : Option (List ℕ)) (r : Result (Unit {0}) Stop) → TakesLine old new r → Goes old new left left r
line_goes old new left r t = record {
  got = [];
  consumes = consumes_none left;
  goes = λ first last said read k. subst (λ (v : List ℕ). WentAs new first last v left r) (sym (append-nil read)) (t.goes first last said read left k);
}

pub goes_more : (a b c : Tape) (one two three : Option (List ℕ)) (r : Result (Unit {0}) Stop) → Goes a b one two (Ok tt) → Goes b c two three r → Goes a c one three r
goes_more a b c one two three r f g = record {
  got = f.got ++ g.got;
  consumes = consumes_more one two three f.got g.got f.consumes g.consumes;
  goes = λ first last said read k.
      let m = f.goes first last said read k in
      subst (λ (v : List ℕ). WentAs c first last v three r) (append_assoc read f.got g.got) (g.goes first last m.0 (read ++ f.got) m.1);
}

-- ---- how it ends

pub reads_tape : (left_old left_new : Option (List ℕ)) (begun tape : Tape) (first last : ℕ) → TapeIs begun first last [] [] → Goes begun tape left_old left_new (Err stop.End) → ReadsTape left_old left_new first last tape
reads_tape left_old left_new begun tape first last k g =
    let l = g.goes first last [] [] k in
    record {
      read = g.got;
      said = l.said;
      rest = l.rest;
      consumes = g.consumes;
      tells = l.tells;
      reads = l.reads;
      cut = l.ends.cut;
      end = l.ends.end;
      part = l.ends.part;
      starts = l.ends.plot.starts;
      ends = until_end tape.plot.clock.turn last tape.plot.clock.last (told l.said) l.ends.plot.turn l.ends.plot.ends;
      lanes = stands tape.plot.levels first (until last (told l.said)) l.ends.plot.levels;
      limits = l.ends.limits;
    }

pub reads_refused : (left_old left_new : Option (List ℕ)) (begun tape : Tape) (first last : ℕ) (why : Refusal) (line : ℕ) → TapeIs begun first last [] [] → Goes begun tape left_old left_new (Err (stop.Refused why))
    → line ≡ min (tape.number + 1) (2 ^ 64 - 1) → Reads left_old left_new (record { status = status.Session; line = line; refusal = Some why })
reads_refused left_old left_new begun tape first last why line k g e =
    let l = g.goes first last [] [] k in
    record { read = g.got; said = l.said; rest = l.rest; consumes = g.consumes; tells = l.tells; reads = l.reads; ends = e ∙ ap (λ (v : ℕ). min (v + 1) (2 ^ 64 - 1)) l.ends }

-- where reading fails, nothing is said of what stands behind the lines
fails_how : (of : Type 0) (how : Status) (line : ℕ) (said : List Said) (rest : List ℕ) (left : Option (List ℕ)) → Fails of how → EndsHow how line said rest left
fails_how of status.Done line said rest left f = absurd f
fails_how of status.Session line said rest left f = absurd f
fails_how of other line said rest left f = tt

pub reads_failed : (of : Type 0) (left_old left_new : Option (List ℕ)) (begun tape : Tape) (first last : ℕ) (how : Status) (o : Outcome) → TapeIs begun first last [] [] → Goes begun tape left_old left_new (Err (stop.Failed how)) → Fails of how
    → o ≡ ended how → Reads left_old left_new o
reads_failed of left_old left_new begun tape first last how o k g f e =
    let l = g.goes first last [] [] k in
    subst (Reads left_old left_new) (sym e)
    (record { read = g.got; said = l.said; rest = l.rest; consumes = g.consumes; tells = l.tells; reads = l.reads; ends = fails_how of how 0 l.said l.rest left_new f })

pub reads_nothing : (left : Option (List ℕ)) (o : Outcome) → o ≡ ended status.Memory → Reads left left o
reads_nothing left o e =
    subst (Reads left left) (sym e) (record { read = []; said = []; rest = []; consumes = consumes_none left; tells = tt; reads = refl; ends = tt })
