-- Events that are played behind those of a tape, and the line between them.
use Rattle.flow_notes.specs.Event.{IsEvent}
use Rattle.flow_notes.specs.Extends.{Extends}
use Rattle.flow_notes.specs.declared.events.Event.{Event}
use Rattle.flow_notes.specs.declared.notes.Note.{Note}
use Rattle.io_ports.specs.declared.octets.NoMemory.{NoMemory}
use Rattle.proxy_config.specs.declared.config.Config.{Config}
use Rattle.session_config.specs.ClusterNames.{names_in, resources_in}
use Rattle.session_lines.specs.WireLines.{Behind}
use Rattle.session_lines.specs.WireOrder.{MayFollowWireAll}
use Rattle.session_run.specs.declared.player.Went.{Went}
use Rattle.shed_points.specs.declared.verdict.Verdict.{Verdict}
use Rattle.shed_run.proofs.Listing.{elsewhere}
use Rattle.shed_run.proofs.Texts.{dispatch_text, line_text, turns_are}
use Rattle.shed_run.specs.Parts.{Lands, MayPlay, Plays, PlaysAs, StandsAt, with_line}
use Rattle.shed_run.specs.ShedLines.{Placed, conn_of, line_told}
use Rattle.shed_run.specs.ShedText.{text_with}
use Rattle.std.proofs.Common.{ap, append-nil, append_assoc, arith, length-append, refl, subst, sym, ◌∙◌}
use Rattle.std.proofs.lemmas.List.{append_cancel_left, length-reverse, reverse-append}
use Rattle.std.specs.Prelude.{Err, List, Ok, OnErr, Result, length, reverse, [], ℕ, ◌++◌, ◌+◌, ◌∷◌, ◌≡◌}
use Rattle.tape_laws.specs.Dispatches.{turns}
use Rattle.tape_laws.specs.History.{History, NoMark, onto}
use Rattle.tape_laws.specs.Text.{tape_text}
use Rattle.tape_summary.specs.NotesText.{notes_text}
use Rattle.wire_run.proofs.Noting.{dispatch_adds, onto_text}
use Rattle.wire_run.proofs.Standing.{new_to}
use Rattle.wire_run.specs.Played.{Dispatched, DispatchedAs, PlaysEvent}
use Rattle.wire_run.specs.declared.play.WirePlay.{WirePlay}
use Rattle.session_run.specs.declared.player.Went.TheVariants as went
use Rattle.shed_points.specs.declared.verdict.Verdict.TheVariants as verdict

-- ---- one event

module _ (old new : WirePlay) (e : Event) (config : Config) (fs : List Event) (lines : List Placed) (h : History NoMark) (text_old text_new : List ℕ) (s : StandsAt old config fs lines h)
    (may : MayFollowWireAll (names_in config) (resources_in config) (e ∷ fs)) (d : Dispatched old e new config h text_old text_new) where
  turned : turns d.history ≡ turns h + 1
  turned = ap (λ (v : History NoMark). turns v) d.behind ∙ (dispatch_adds (turns h + 1) e d.notes h d.tells).turned

  added_is : notes_text (names_in config) d.notes ≡ d.added
  added_is = append_cancel_left (tape_text (names_in config) h) (notes_text (names_in config) d.notes) d.added (sym (onto_text (names_in config) d.notes h) ∙ sym (ap (λ (v : History NoMark). tape_text (names_in config) v) d.behind) ∙ d.told)

  dispatched_text : text_with (names_in config) lines (onto d.notes h) ≡ text_with (names_in config) lines h ++ notes_text (names_in config) d.notes
  dispatched_text =
      let P : List Note → Type 0 = λ v. text_with (names_in config) lines (onto v h) ≡ text_with (names_in config) lines h ++ notes_text (names_in config) v in
      subst P (sym d.tells.is) (dispatch_text (names_in config) lines (turns h + 1) e d.tells.added h d.tells.steps (ap (λ (v : List Note). turns (onto v h)) (sym d.tells.is) ∙ (dispatch_adds (turns h + 1) e d.notes h d.tells).turned) (s.none (turns h + 1) (omega arith)))

  told : text_with (names_in config) lines d.history ≡ text_with (names_in config) lines h ++ d.added
  told = ap (λ (v : History NoMark). text_with (names_in config) lines v) d.behind ∙ dispatched_text ∙ ap (λ (v : List ℕ). text_with (names_in config) lines h ++ v) added_is

  pub lands : Lands config lines h old new (e ∷ fs) lines text_old text_new
  lands = record {
    history = d.history;
    added = d.added;
    stands = record { rests = d.rests; tape = d.tape (Behind fs) (Behind (e ∷ fs)) s.tape refl may; none = λ n less. s.none n (let t = turned in omega (arith, t, less)) };
    told = told;
    text = d.text;
    lines_stay = d.lines;
  }

pub one_played : (old new : WirePlay) (e : Event) (w : Went) (text_old text_new : List ℕ) → PlaysEvent old e text_old new text_new (Ok w) → Plays old (e ∷ []) text_old new text_new
one_played old new e w text_old text_new p = record {
  goes = λ config fs lines h named s may.
      by config fs lines h s may w (p.goes config h named (new_to (resources_in config) e fs h may.0.2 s.tape.shown) s.rests);
}
  where
    by : (config : Config) (fs : List Event) (lines : List Placed) (h : History NoMark) → StandsAt old config fs lines h → MayFollowWireAll (names_in config) (resources_in config) (e ∷ fs)
        → (w : Went) → DispatchedAs old e new config h text_old text_new (Ok w) → Lands config lines h old new (e ∷ fs) lines text_old text_new
    by config fs lines h s may went.On d = lands old new e config fs lines h text_old text_new s may d
    by config fs lines h s may went.Refused d = absurd d

pub none_played : (old : WirePlay) (text : List ℕ) → Plays old [] text old text
none_played old text = record {
  goes = λ config fs lines h named s may. record { history = h; added = []; stands = s; told = sym (append-nil (text_with (names_in config) lines h)); text = sym (append-nil text); lines_stay = refl };
}

-- what stands behind a text that stands behind another
pub further : (a b c : List ℕ) → Extends a b → Extends b c → Extends a c
further a b c p q = record { added = p.added ++ q.added; is = q.is ∙ ap (λ (v : List ℕ). v ++ q.added) p.is ∙ append_assoc a p.added q.added }

-- nothing more was written
pub still : (a b c : List ℕ) → Extends a b → c ≡ b → Extends a c
still a b c p same = let P : List ℕ → Type 0 = λ v. Extends a v in subst P (sym same) p

pub on_err : {A E P : Type 0} (r : Result A E) → P → OnErr r P
on_err (Ok x) p = tt
on_err (Err x) p = p

-- nothing of it was played where memory was refused
pub none_told : (old new : WirePlay) (e : Event) (text_old text_new : List ℕ) (x : NoMemory) → MayPlay old (e ∷ []) → PlaysEvent old e text_old new text_new (Err x) → text_new ≡ text_old
none_told old new e text_old text_new x m p = p.goes m.config m.history m.named (new_to (resources_in m.config) e m.fs m.history m.may.0.2 m.stands.tape.shown) m.stands.rests

-- what was played stands behind the text
pub plays_extend : (old new : WirePlay) (es : List Event) (text_old text_new : List ℕ) → MayPlay old es → Plays old es text_old new text_new → Extends text_old text_new
plays_extend old new es text_old text_new m p = let a = p.goes m.config m.fs [] m.history m.named m.stands m.may in record { added = a.added; is = a.text }

-- with the line of an event behind it
pub line_extends : (old mid : WirePlay) (es : List Event) (text_old text_mid text_line line : List ℕ) → MayPlay old es → Plays old es text_old mid text_mid → text_line ≡ text_mid ++ line → Extends text_old text_line
line_extends old mid es text_old text_mid text_line line m p is = further text_old text_mid text_line (plays_extend old mid es text_old text_mid m p) (record { added = line; is = is })

-- the event is in its range
pub in_range : (play : WirePlay) (e : Event) → MayPlay play (e ∷ []) → IsEvent play.lines.names e
in_range play e m = let P : List (List ℕ) → Type 0 = λ v. IsEvent v e in subst P (sym m.named) m.may.0.0

-- ---- what comes before, the line, and what stands behind

reversed : (before behind fs : List Event) → reverse behind ++ (reverse before ++ fs) ≡ reverse (before ++ behind) ++ fs
reversed before behind fs = sym (append_assoc (reverse behind) (reverse before) fs) ∙ ap (λ (v : List Event). v ++ fs) (sym (reverse-append before behind))

rest_may : (names : List (List ℕ)) (resources : ℕ) (es fs : List Event) → MayFollowWireAll names resources (es ++ fs) → MayFollowWireAll names resources fs
rest_may names resources [] fs may = may
rest_may names resources (e ∷ es) fs may = rest_may names resources es fs may.1

split_may : (names : List (List ℕ)) (resources : ℕ) (before behind fs : List Event) → MayFollowWireAll names resources (reverse (before ++ behind) ++ fs) → MayFollowWireAll names resources (reverse behind ++ (reverse before ++ fs))
split_may names resources before behind fs may = let P : List Event → Type 0 = λ v. MayFollowWireAll names resources v in subst P (sym (reversed before behind fs)) may

-- those before may be played
pub first_may : (play : WirePlay) (before behind : List Event) → MayPlay play (before ++ behind) → MayPlay play before
first_may play before behind m = record {
  config = m.config;
  fs = m.fs;
  history = m.history;
  named = m.named;
  stands = m.stands;
  may = rest_may (names_in m.config) (resources_in m.config) (reverse behind) (reverse before ++ m.fs) (split_may (names_in m.config) (resources_in m.config) before behind m.fs m.may);
}

-- and then those behind
pub then_may : (old mid : WirePlay) (before behind : List Event) (text_old text_mid : List ℕ) → MayPlay old (before ++ behind) → Plays old before text_old mid text_mid → MayPlay mid behind
then_may old mid before behind text_old text_mid m p =
    let split = split_may (names_in m.config) (resources_in m.config) before behind m.fs m.may in
    let a = p.goes m.config m.fs [] m.history m.named m.stands (rest_may (names_in m.config) (resources_in m.config) (reverse behind) (reverse before ++ m.fs) split) in
    record { config = m.config; fs = reverse before ++ m.fs; history = a.history; named = ap (λ v. v.names) a.lines_stay ∙ m.named; stands = a.stands; may = split }

-- so many dispatches more
turns_more : (play new : WirePlay) (config : Config) (fs es : List Event) (lines after : List Placed) (h k : History NoMark) → StandsAt play config fs lines h → StandsAt new config (reverse es ++ fs) after k → turns k ≡ turns h + length es
turns_more play new config fs es lines after h k s t =
    let a = turns_are h ∙ ap (λ (v : List Event). length v) s.tape.shown in
    let b = turns_are k ∙ ap (λ (v : List Event). length v) t.tape.shown in
    let c = length-append (reverse es) fs in
    let d = length-reverse es in
    omega (arith, a, b, c, d)

line_stands : (play : WirePlay) (config : Config) (fs : List Event) (lines : List Placed) (h : History NoMark) (e : Event) (v : Verdict) (number behind : ℕ) → turns h ≡ behind → StandsAt play config fs lines h → StandsAt play config fs (with_line e v number behind lines) h
line_stands play config fs lines h e verdict.Pass number behind is s = s
line_stands play config fs lines h e verdict.Silent number behind is s = s
line_stands play config fs lines h e (verdict.Shed p x) number behind is s =
    record { rests = s.rests; tape = s.tape; none = λ n less. elsewhere behind n (record { number = number; point = p; conn = conn_of e; state = x }) lines (omega (arith, is, less)) (s.none n less) }

line_put : (names : List (List ℕ)) (lines : List Placed) (h : History NoMark) (e : Event) (v : Verdict) (number behind : ℕ) → turns h ≡ behind → text_with names (with_line e v number behind lines) h ≡ text_with names lines h ++ line_told e v number
line_put names lines h e verdict.Pass number behind is = sym (append-nil (text_with names lines h))
line_put names lines h e verdict.Silent number behind is = sym (append-nil (text_with names lines h))
line_put names lines h e (verdict.Shed p x) number behind is =
    ap (λ n. text_with names (with_line e (verdict.Shed p x) number n lines) h) (sym is) ∙ line_text names (record { number = number; point = p; conn = conn_of e; state = x }) lines h

module _ (old mid new : WirePlay) (e : Event) (v : Verdict) (number : ℕ) (before behind : List Event) (text_old text_mid text_line text_new : List ℕ)
    (p : Plays old before text_old mid text_mid) (line : text_line ≡ text_mid ++ line_told e v number) (q : Plays mid behind text_line new text_new) where
  module _ (config : Config) (fs : List Event) (lines : List Placed) (h : History NoMark) (named : old.lines.names ≡ names_in config) (s : StandsAt old config fs lines h)
      (may : MayFollowWireAll (names_in config) (resources_in config) (reverse (before ++ behind) ++ fs)) where
    split : MayFollowWireAll (names_in config) (resources_in config) (reverse behind ++ (reverse before ++ fs))
    split = split_may (names_in config) (resources_in config) before behind fs may

    a : Lands config lines h old mid (reverse before ++ fs) lines text_old text_mid
    a = p.goes config fs lines h named s (rest_may (names_in config) (resources_in config) (reverse behind) (reverse before ++ fs) split)

    abbrev with_it : List Placed
    with_it = with_line e v number (turns h + length before) lines

    turned_more : turns (a.history) ≡ turns h + length before
    turned_more = turns_more old mid config fs before lines lines h a.history s a.stands

    b : Lands config with_it a.history mid new (reverse behind ++ (reverse before ++ fs)) with_it text_line text_new
    b = q.goes config (reverse before ++ fs) with_it a.history (ap (λ l. l.names) a.lines_stay ∙ named) (line_stands mid config (reverse before ++ fs) lines a.history e v number (turns h + length before) turned_more a.stands) split

    parts : (x y z w : List ℕ) → (((x ++ y) ++ z) ++ w) ≡ x ++ (y ++ (z ++ w))
    parts x y z w = append_assoc (x ++ y) z w ∙ append_assoc x y (z ++ w)

    told_whole : text_with (names_in config) with_it b.history ≡ text_with (names_in config) lines h ++ (a.added ++ (line_told e v number ++ b.added))
    told_whole =
        b.told
        ∙ ap (λ (t : List ℕ). t ++ b.added) (line_put (names_in config) lines a.history e v number (turns h + length before) turned_more ∙ ap (λ (t : List ℕ). t ++ line_told e v number) a.told)
        ∙ parts (text_with (names_in config) lines h) a.added (line_told e v number) b.added

    pub whole_lands : Lands config lines h old new (reverse (before ++ behind) ++ fs) with_it text_old text_new
    whole_lands = record {
      history = b.history;
      added = a.added ++ (line_told e v number ++ b.added);
      stands = (let P : List Event → Type 0 = λ l. StandsAt new config l with_it b.history in subst P (reversed before behind fs) b.stands);
      told = told_whole;
      text = b.text ∙ ap (λ (t : List ℕ). t ++ b.added) (line ∙ ap (λ (t : List ℕ). t ++ line_told e v number) a.text) ∙ parts text_old a.added (line_told e v number) b.added;
      lines_stay = b.lines_stay ∙ a.lines_stay;
    }

  pub whole_played : PlaysAs old e v number before behind text_old new text_new
  whole_played = record { goes = λ config fs lines h named s may. whole_lands config fs lines h named s may }
