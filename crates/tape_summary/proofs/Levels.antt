-- The levels of a plain session's buffers, note by note.
use Rattle.h2_frames.specs.Head.{data_head}
use Rattle.flow_rules.specs.declared.ids.BufferId.{BufferId}
use Rattle.flow_rules.specs.declared.ids.FlowId.{FlowId}
use Rattle.flow_notes.specs.declared.notes.Note.{Note}
use Rattle.io_ports.specs.declared.octets.NoMemory.{NoMemory}
use Rattle.tape_summary.proofs.Spots.{flow_is}
use Rattle.tape_summary.specs.Levels.{WriteGoes, emptied, fallen, level_of, on_first, risen}
use Rattle.tape_summary.specs.declared.level.Level.{Level}
use Rattle.std.proofs.Common.{ap, arith, length-append, length-drop, refl, subst, sym, ◌∙◌}
use Rattle.std.proofs.lemmas.List.{length-take-le}
use Rattle.std.specs.List.{list_any}
use Rattle.std.specs.Prelude.{Bool, Err, IfOk, IsTrue, List, Ok, Result, [], false, flat_map, if◌then◌else◌, length, take, true, ℕ, ◌&&◌, ◌++◌, ◌+◌, ◌-◌, ◌==◌, ◌||◌, ◌∷◌, ◌≡◌, ◌≤◌}
use Rattle.tape_laws.specs.Causes.{HasCause}
use Rattle.tape_laws.specs.Connections.{was_closed}
use Rattle.tape_laws.specs.Dispatches.{live}
use Rattle.tape_laws.specs.Flows.{request, same_flow}
use Rattle.tape_laws.specs.History.{EachFollows, History, Marked, NoMark, Noted, Step, onto}
use Rattle.tape_laws.specs.Plain.{plain_setup}
use Rattle.tape_laws.specs.PlainTape.{IsPlainLawful}
use Rattle.tape_laws.specs.Sources.{is_live}
use Rattle.tape_laws.specs.Summary.{peak}
use Rattle.tape_laws.specs.World.{len, out, send}
use Rattle.tape_laws.specs.declared.PlainLimits.{PlainLimits}
use Rattle.flow_rules.specs.declared.ids.BufferId.TheVariants as buffer
use Rattle.flow_notes.specs.declared.events.Event.TheVariants as event
use Rattle.flow_notes.specs.declared.notes.Note.TheVariants as note

-- ---- lengths and levels

len_none : (limits : PlainLimits) (b : BufferId) → len {Mark = NoMark} (plain_setup limits) b [] ≡ 0
len_none limits (buffer.Recv f) = refl
len_none limits (buffer.Stage f i) = refl
len_none limits (buffer.Send f) = refl
len_none limits (buffer.Write c) = refl

-- a buffer holds at most what it ever held
held_most : (limits : PlainLimits) (b : BufferId) (h : History NoMark) → len (plain_setup limits) b h ≤ peak (plain_setup limits) b h
held_most limits b [] = omega (arith, len_none limits b)
held_most limits b (step ∷ past) = omega arith

level_is : (a b c d : ℕ) → a ≡ c → b ≡ d → (let l : Level = record { held = a; most = b } in l) ≡ record { held = c; most = d }
level_is a b c d p q =
    ap (λ (v : ℕ). let l : Level = record { held = v; most = b } in l) p ∙ ap (λ (v : ℕ). let l : Level = record { held = c; most = v } in l) q

pub level_same : (limits : PlainLimits) (b : BufferId) (step : Step NoMark) (h : History NoMark) → len (plain_setup limits) b (step ∷ h) ≡ len (plain_setup limits) b h
    → level_of limits b h ≡ level_of limits b (step ∷ h)
level_same limits b step h e = level_is _ _ _ _ (sym e) (let m = held_most limits b h in omega (arith, e, m))

pub level_risen : (limits : PlainLimits) (b : BufferId) (step : Step NoMark) (h : History NoMark) (n : ℕ) → len (plain_setup limits) b (step ∷ h) ≡ len (plain_setup limits) b h + n
    → risen (level_of limits b h) n ≡ level_of limits b (step ∷ h)
level_risen limits b step h n e = level_is _ _ _ _ (sym e) (omega (arith, e))

pub level_fallen : (limits : PlainLimits) (b : BufferId) (step : Step NoMark) (h : History NoMark) (n : ℕ) → len (plain_setup limits) b (step ∷ h) ≡ len (plain_setup limits) b h - n
    → fallen (level_of limits b h) n ≡ level_of limits b (step ∷ h)
level_fallen limits b step h n e = level_is _ _ _ _ (sym e) (let m = held_most limits b h in omega (arith, e, m))

pub level_emptied : (limits : PlainLimits) (b : BufferId) (step : Step NoMark) (h : History NoMark) → len (plain_setup limits) b (step ∷ h) ≡ 0
    → emptied (level_of limits b h) ≡ level_of limits b (step ∷ h)
level_emptied limits b step h e = level_is _ _ _ _ (sym e) (omega (arith, e))

-- ---- what a lawful note is

-- what stood before is lawful
lawful_before : (limits : PlainLimits) (step : Step NoMark) (h : History NoMark) → IsPlainLawful limits (step ∷ h) → IsPlainLawful limits h
lawful_before limits step h l = record {
  allowed = l.allowed.1;
  paused = l.paused.1;
  counted = l.counted.1;
  bounded = l.bounded.1;
  tied = l.tied.1;
  ends = l.ends.1;
  in_turn = l.in_turn.1;
  doomed = l.doomed.1;
  swept = l.swept.1;
  answered = l.answered.1;
  only = l.only.1;
  licensed = l.licensed.1;
  may = l.may.1;
  quiet = l.quiet.1;
}

pub lawful_back : (limits : PlainLimits) (ns : List Note) (h : History NoMark) → IsPlainLawful limits (onto ns h) → IsPlainLawful limits h
lawful_back limits [] h l = l
lawful_back limits (n ∷ ns) h l = lawful_before limits (Noted n) h (lawful_back limits ns (Noted n ∷ h) l)

-- each flow is the request of its stream
request_in : (f : FlowId) (xs : List ℕ) → list_any (same_flow f) (flat_map (λ x. request x ∷ []) xs) ≡ true → f ≡ request f.exchange
request_in f [] e = cc
request_in f (x ∷ xs) e = by (same_flow f (request x)) refl e (request_in f xs)
  where
    by : (b : Bool) → same_flow f (request x) ≡ b → (b || list_any (same_flow f) (flat_map (λ y. request y ∷ []) xs)) ≡ true
        → (list_any (same_flow f) (flat_map (λ y. request y ∷ []) xs) ≡ true → f ≡ request f.exchange) → f ≡ request f.exchange
    by true s e later = let i : f ≡ request x = flow_is f (request x) s in i ∙ ap (λ (g : FlowId). request g.exchange) (sym i)
    by false s e later = later e

pub live_request : (limits : PlainLimits) (f : FlowId) (past : History NoMark) → IsTrue (is_live (plain_setup limits) f past) → f ≡ request f.exchange
live_request limits f past e = request_in f (live past) e

-- no connection is closed
unclosed : (limits : PlainLimits) (h : History NoMark) → EachFollows (HasCause (plain_setup limits)) h → was_closed 0 h ≡ false
unclosed limits [] c = refl
unclosed limits (Noted (note.Close d code why) ∷ past) c = absurd c.0
unclosed limits (Noted (note.Turn k e) ∷ past) c = unclosed limits past c.1
unclosed limits (Noted (note.Arrive f o) ∷ past) c = unclosed limits past c.1
unclosed limits (Noted (note.Move f p n) ∷ past) c = unclosed limits past c.1
unclosed limits (Noted (note.Frame d f n last) ∷ past) c = unclosed limits past c.1
unclosed limits (Noted (note.Out d n) ∷ past) c = unclosed limits past c.1
unclosed limits (Noted (note.Pause f b) ∷ past) c = unclosed limits past c.1
unclosed limits (Noted (note.Resume f b) ∷ past) c = unclosed limits past c.1
unclosed limits (Noted (note.Credit d s n) ∷ past) c = unclosed limits past c.1
unclosed limits (Noted (note.Head d s o) ∷ past) c = unclosed limits past c.1
unclosed limits (Noted (note.Answer d o) ∷ past) c = unclosed limits past c.1
unclosed limits (Noted (note.Waste d s n) ∷ past) c = unclosed limits past c.1
unclosed limits (Noted (note.Start x d s e) ∷ past) c = unclosed limits past c.1
unclosed limits (Noted (note.Doom x why) ∷ past) c = unclosed limits past c.1
unclosed limits (Noted (note.Gone x) ∷ past) c = unclosed limits past c.1
unclosed limits (Noted (note.Fire kind id) ∷ past) c = unclosed limits past c.1
unclosed limits (Marked m ∷ past) c = unclosed limits past c.1

-- ---- the write buffer

-- octets that are added where a test holds, or dropped
longer_if : (xs ys : List ℕ) (b : Bool) (n : ℕ) → length ys ≡ n → length (xs ++ (if b then ys else [])) ≡ length xs + (if b then n else 0)
longer_if xs ys true n e = length-append xs ys ∙ ap (λ m. length xs + m) e
longer_if xs ys false n e = length-append xs []

frame_length : (stream n : ℕ) (last : Bool) (held : List ℕ) → n ≤ length held → length (data_head stream n last ++ take n held) ≡ 9 + n
frame_length stream n last held le =
    let t : length (take n held) ≡ n = length-take-le n held le in
    length-append (data_head stream n last) (take n held) ∙ ap (λ m. 9 + m) t

pub frame_written : (write : Level) (limits : PlainLimits) (c : ℕ) (f : FlowId) (n : ℕ) (last : Bool) (h : History NoMark) → IsPlainLawful limits (Noted (note.Frame c f n last) ∷ h)
    → write ≡ level_of limits (buffer.Write 0) h → risen write (on_first c (9 + n)) ≡ level_of limits (buffer.Write 0) (Noted (note.Frame c f n last) ∷ h)
frame_written write limits c f n last h l e =
    let there : n ≤ length (send (plain_setup limits) f h) = (let all = l.allowed.0.all in omega (arith, all)) in
    ap (λ (v : Level). risen v (on_first c (9 + n))) e
    ∙ level_risen limits (buffer.Write 0) (Noted (note.Frame c f n last)) h (on_first c (9 + n))
    (longer_if (out (plain_setup limits) 0 h) (data_head f.exchange n last ++ take n (send (plain_setup limits) f h)) (c == 0) (9 + n) (frame_length f.exchange n last (send (plain_setup limits) f h) there))

pub left_written : (write : Level) (limits : PlainLimits) (c n : ℕ) (h : History NoMark)
    → write ≡ level_of limits (buffer.Write 0) h → fallen write (on_first c n) ≡ level_of limits (buffer.Write 0) (Noted (note.Out c n) ∷ h)
left_written write limits c n h e =
    ap (λ (v : Level). fallen v (on_first c n)) e
    ∙ level_fallen limits (buffer.Write 0) (Noted (note.Out c n)) h (on_first c n) (length-drop (on_first c n) (out (plain_setup limits) 0 h))

-- the notes that leave it as it was
same_write : (write : Level) (limits : PlainLimits) (step : Step NoMark) (h : History NoMark) → len (plain_setup limits) (buffer.Write 0) (step ∷ h) ≡ len (plain_setup limits) (buffer.Write 0) h
    → write ≡ level_of limits (buffer.Write 0) h → write ≡ level_of limits (buffer.Write 0) (step ∷ h)
same_write write limits step h s e = e ∙ level_same limits (buffer.Write 0) step h s

and_false : (b c : Bool) (xs : List ℕ) → c ≡ false → length (if b && c then [] else xs) ≡ length xs
and_false true true xs e = cc
and_false true false xs e = refl
and_false false c xs e = refl

pub unwritten_goes : (write : Level) (n : Note) → ((c : ℕ) (f : FlowId) (k : ℕ) (last : Bool) → n ≡ note.Frame c f k last → ⊥) → ((c k : ℕ) → n ≡ note.Out c k → ⊥) → WriteGoes write n write
unwritten_goes write (note.Frame c f k last) nf nt = absurd (nf c f k last refl)
unwritten_goes write (note.Head c s o) nf nt = record { goes = λ limits h l e. absurd l.licensed.0 }
unwritten_goes write (note.Answer c o) nf nt = record { goes = λ limits h l e. absurd l.licensed.0 }
unwritten_goes write (note.Credit c s k) nf nt = record { goes = λ limits h l e. absurd l.licensed.0 }
unwritten_goes write (note.Out c k) nf nt = absurd (nt c k refl)
unwritten_goes write (note.Turn k (event.Gone d)) nf nt =
    record { goes = λ limits h l e. same_write write limits (Noted (note.Turn k (event.Gone d))) h (and_false (d == 0) (was_closed 0 h) (out (plain_setup limits) 0 h) (unclosed limits h l.licensed.1)) e }
unwritten_goes write (note.Turn k (event.Accept c)) nf nt = record { goes = λ limits h l e. same_write write limits (Noted (note.Turn k (event.Accept c))) h refl e }
unwritten_goes write (note.Turn k (event.Join c cluster)) nf nt = record { goes = λ limits h l e. same_write write limits (Noted (note.Turn k (event.Join c cluster))) h refl e }
unwritten_goes write (note.Turn k (event.Read c octets)) nf nt = record { goes = λ limits h l e. same_write write limits (Noted (note.Turn k (event.Read c octets))) h refl e }
unwritten_goes write (note.Turn k (event.Room c n)) nf nt = record { goes = λ limits h l e. same_write write limits (Noted (note.Turn k (event.Room c n))) h refl e }
unwritten_goes write (note.Turn k (event.Tick now)) nf nt = record { goes = λ limits h l e. same_write write limits (Noted (note.Turn k (event.Tick now))) h refl e }
unwritten_goes write (note.Turn k (event.Post poster number job)) nf nt = record { goes = λ limits h l e. same_write write limits (Noted (note.Turn k (event.Post poster number job))) h refl e }
unwritten_goes write (note.Turn k (event.Obey version pressures)) nf nt = record { goes = λ limits h l e. same_write write limits (Noted (note.Turn k (event.Obey version pressures))) h refl e }
unwritten_goes write (note.Turn k (event.Plain p)) nf nt = record { goes = λ limits h l e. same_write write limits (Noted (note.Turn k (event.Plain p))) h refl e }
unwritten_goes write (note.Arrive f o) nf nt = record { goes = λ limits h l e. same_write write limits (Noted (note.Arrive f o)) h refl e }
unwritten_goes write (note.Move f p n) nf nt = record { goes = λ limits h l e. same_write write limits (Noted (note.Move f p n)) h refl e }
unwritten_goes write (note.Pause f b) nf nt = record { goes = λ limits h l e. same_write write limits (Noted (note.Pause f b)) h refl e }
unwritten_goes write (note.Resume f b) nf nt = record { goes = λ limits h l e. same_write write limits (Noted (note.Resume f b)) h refl e }
unwritten_goes write (note.Waste c s n) nf nt = record { goes = λ limits h l e. absurd l.licensed.0 }
unwritten_goes write (note.Start x c s d) nf nt = record { goes = λ limits h l e. same_write write limits (Noted (note.Start x c s d)) h refl e }
unwritten_goes write (note.Doom x why) nf nt = record { goes = λ limits h l e. same_write write limits (Noted (note.Doom x why)) h refl e }
unwritten_goes write (note.Gone x) nf nt = record { goes = λ limits h l e. same_write write limits (Noted (note.Gone x)) h refl e }
unwritten_goes write (note.Close c code why) nf nt = record { goes = λ limits h l e. absurd l.licensed.0 }
unwritten_goes write (note.Fire kind id) nf nt = record { goes = λ limits h l e. absurd l.licensed.0 }

-- ---- by how the note was taken up

goes_as : (write : Level) (m n : Note) (r : Result Level NoMemory) → m ≡ n → IfOk r (WriteGoes write n) → IfOk r (WriteGoes write m)
goes_as write m n r e g = let P : Note → Type 0 = λ v. IfOk r (WriteGoes write v) in subst P (sym e) g

pub frame_ends : (write : Level) (m : Note) (c : ℕ) (f : FlowId) (n : ℕ) (last : Bool) (v k : ℕ) (r : Result Level NoMemory) → m ≡ note.Frame c f n last → v ≡ n → k ≡ on_first c (9 + v)
    → IfOk r (λ l. l ≡ risen write k) → IfOk r (WriteGoes write m)
frame_ends write m c f n last v k r e ev ek g = goes_as write m (note.Frame c f n last) r e (by r g)
  where
    by : (r : Result Level NoMemory) → IfOk r (λ l. l ≡ risen write k) → IfOk r (WriteGoes write (note.Frame c f n last))
    by (Ok l) g = record { goes = λ limits h law was. g ∙ ap (risen write) (ek ∙ ap (λ (x : ℕ). on_first c (9 + x)) ev) ∙ frame_written write limits c f n last h law was }
    by (Err x) g = tt

pub out_ends : (write l : Level) (m : Note) (c n v k : ℕ) → m ≡ note.Out c n → v ≡ n → k ≡ on_first c v → l ≡ fallen write k → WriteGoes write m l
out_ends write l m c n v k e ev ek g =
    let P : Note → Type 0 = λ w. WriteGoes write w l in
    subst P (sym e) (record { goes = λ limits h law was. g ∙ ap (fallen write) (ek ∙ ap (on_first c) ev) ∙ left_written write limits c n h was })
