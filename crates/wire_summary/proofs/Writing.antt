-- The levels of write buffers, note by note.
use Rattle.flow_rules.specs.declared.ids.FlowId.{FlowId}
use Rattle.flow_notes.specs.declared.events.Event.{Event}
use Rattle.flow_notes.specs.declared.notes.CloseCause.{CloseCause}
use Rattle.flow_notes.specs.declared.notes.Note.{Note}
use Rattle.h2_frames.specs.Head.{data_head}
use Rattle.std.proofs.Common.{ap, arith, length-append, length-drop, refl, subst, sym, ◌∙◌}
use Rattle.std.proofs.lemmas.Bool.Decides.{nat_tests}
use Rattle.std.proofs.lemmas.List.{length-take}
use Rattle.std.specs.BTreeMap.{get}
use Rattle.std.specs.Ordering.{is_eq, nat_cmp}
use Rattle.std.specs.Prelude.{Bool, List, None, Option, Some, [], drop, false, if◌then◌else◌, length, min, take, true, ℕ, ◌&&◌, ◌++◌, ◌+◌, ◌-◌, ◌==◌, ◌||◌, ◌∷◌, ◌≡◌, ◌≤◌}
use Rattle.tape_laws.specs.Connections.{was_closed}
use Rattle.tape_laws.specs.History.{History, NoMark, Noted, Step}
use Rattle.tape_laws.specs.Summary.{peak}
use Rattle.tape_laws.specs.Units.{StageKind}
use Rattle.tape_laws.specs.World.{data_frame, len, out, place, send, window_update}
use Rattle.tape_summary.proofs.Spots.{equal_is, number_is, numbers_equal}
use Rattle.tape_summary.specs.Levels.{emptied, fallen, risen}
use Rattle.tape_summary.specs.declared.level.Level.{Level}
use Rattle.wire_summary.proofs.Siding.{held_from}
use Rattle.wire_summary.specs.Levels.{SetsWrite, SideIs, is_lost, kept_write, place_level, shaped, write_in, write_level, written}
use Rattle.wire_summary.specs.Places.{Side, framed, last_of}
use Rattle.wire_summary.specs.declared.levels.BufferLimits.{BufferLimits}
use Rattle.wire_summary.specs.declared.levels.Levels.{Levels}
use Rattle.wire_summary.specs.declared.levels.WriteChange.{WriteChange}
use Rattle.wire_summary.specs.declared.levels.WriteLevel.{WriteLevel}
use Rattle.flow_rules.specs.declared.ids.BufferId.TheVariants as buffer
use Rattle.flow_notes.specs.declared.events.Event.TheVariants as event
use Rattle.flow_notes.specs.declared.notes.CloseCause.TheVariants as closed
use Rattle.flow_notes.specs.declared.notes.Note.TheVariants as note
use Rattle.wire_summary.specs.declared.levels.WriteChange.TheVariants as put
use Rattle.wire_summary.specs.declared.places.Change.TheVariants as change

module _ (limits : BufferLimits) (stages : FlowId → List StageKind) where
  out_most : (c : ℕ) (h : History NoMark) → len (shaped limits stages) (buffer.Write c) h ≤ peak (shaped limits stages) (buffer.Write c) h
  out_most c [] = omega arith
  out_most c (step ∷ past) = omega arith

  write_is : (a b c d : ℕ) (p q : Bool) → a ≡ c → b ≡ d → p ≡ q
      → (let w : WriteLevel = record { level = record { held = a; most = b }; closed = p } in w) ≡ record { level = record { held = c; most = d }; closed = q }
  write_is a b c d p q e f g =
      ap (λ (v : ℕ). let w : WriteLevel = record { level = record { held = v; most = b }; closed = p } in w) e
      ∙ ap (λ (v : ℕ). let w : WriteLevel = record { level = record { held = c; most = v }; closed = p } in w) f
      ∙ ap (λ (v : Bool). let w : WriteLevel = record { level = record { held = c; most = d }; closed = v } in w) g

  pub write_same : (c : ℕ) (step : Step NoMark) (h : History NoMark) → length (out (shaped limits stages) c (step ∷ h)) ≡ length (out (shaped limits stages) c h) → was_closed c (step ∷ h) ≡ was_closed c h
      → write_level (shaped limits stages) c h ≡ write_level (shaped limits stages) c (step ∷ h)
  write_same c step h e k = write_is _ _ _ _ _ _ (sym e) (let m = out_most c h in omega (arith, e, m)) (sym k)

  write_risen : (c n : ℕ) (step : Step NoMark) (h : History NoMark) → length (out (shaped limits stages) c (step ∷ h)) ≡ length (out (shaped limits stages) c h) + n → was_closed c (step ∷ h) ≡ was_closed c h
      → written (put.Put n) (write_level (shaped limits stages) c h) ≡ write_level (shaped limits stages) c (step ∷ h)
  write_risen c n step h e k = write_is _ _ _ _ _ _ (sym e) (omega (arith, e)) (sym k)

  write_fallen : (c n : ℕ) (step : Step NoMark) (h : History NoMark) → length (out (shaped limits stages) c (step ∷ h)) ≡ length (out (shaped limits stages) c h) - n → was_closed c (step ∷ h) ≡ was_closed c h
      → written (put.Take n) (write_level (shaped limits stages) c h) ≡ write_level (shaped limits stages) c (step ∷ h)
  write_fallen c n step h e k = write_is _ _ _ _ _ _ (sym e) (let m = out_most c h in omega (arith, e, m)) (sym k)

  -- what a step does to the level of one connection
  pub record StepsWrite (step : Step NoMark) (h : History NoMark) (c : ℕ) (F : WriteLevel → WriteLevel) : Type 0 where
    pub same : (d : ℕ) → (c == d) ≡ false → write_level (shaped limits stages) d h ≡ write_level (shaped limits stages) d (step ∷ h)
    pub here : F (write_level (shaped limits stages) c h) ≡ write_level (shaped limits stages) c (step ∷ h)

  pub step_write : (step : Step NoMark) (h : History NoMark) (old new : Levels) (c : ℕ) (F : WriteLevel → WriteLevel) → StepsWrite step h c F → SetsWrite old c (F (write_in old c)) new
      → ((d : ℕ) → write_in old d ≡ write_level (shaped limits stages) d h) → (d : ℕ) → write_in new d ≡ write_level (shaped limits stages) d (step ∷ h)
  step_write step h old new c F t s was d = by (c == d) refl
    where
      here : write_in new c ≡ write_level (shaped limits stages) c (step ∷ h)
      here =
          let i : is_eq (nat_cmp c c) ≡ true = numbers_equal c c ∙ equal_is c c refl in
          ap kept_write (s.writes.0 c ∙ ap (λ v. if v then Some (F (write_in old c)) else get nat_cmp old.writes c) i) ∙ ap F (was c) ∙ t.here

      by : (b : Bool) → (c == d) ≡ b → write_in new d ≡ write_level (shaped limits stages) d (step ∷ h)
      by true e = let P : ℕ → Type 0 = λ v. write_in new v ≡ write_level (shaped limits stages) v (step ∷ h) in subst P (number_is c d e) here
      by false e =
          let i : is_eq (nat_cmp c d) ≡ false = numbers_equal c d ∙ e in
          ap kept_write (s.writes.0 d ∙ ap (λ v. if v then Some (F (write_in old c)) else get nat_cmp old.writes d) i) ∙ was d ∙ t.same d e

  -- ---- octets come

  longer : (b : Bool) (xs o : List ℕ) → length (xs ++ (if b then o else [])) ≡ length xs + (if b then length o else 0)
  longer true xs o = length-append xs o
  longer false xs o = length-append xs []

  puts : (n : Note) (h : History NoMark) (c k : ℕ) (o : List ℕ) → ((d : ℕ) → out (shaped limits stages) d (Noted n ∷ h) ≡ out (shaped limits stages) d h ++ (if c == d then o else []))
      → ((d : ℕ) → was_closed d (Noted n ∷ h) ≡ was_closed d h) → length o ≡ k → StepsWrite (Noted n) h c (written (put.Put k))
  puts n h c k o is un long = record {
    same = λ d e.
        let l = longer (c == d) (out (shaped limits stages) d h) o in
        let z : (if c == d then length o else 0) ≡ 0 = ap (λ (b : Bool). if b then length o else 0) e in
        write_same d (Noted n) h (ap length (is d) ∙ l ∙ (omega (arith, z))) (un d);
    here =
        let l = longer (c == c) (out (shaped limits stages) c h) o in
        let z : (if c == c then length o else 0) ≡ length o = ap (λ (b : Bool). if b then length o else 0) (equal_is c c refl) in
        write_risen c k (Noted n) h (ap length (is c) ∙ l ∙ ap (λ v. length (out (shaped limits stages) c h) + v) (z ∙ long)) (un c);
  }

  pub head_writes : (c s : ℕ) (o : List ℕ) (h : History NoMark) → StepsWrite (Noted (note.Head c s o)) h c (written (put.Put (length o)))
  head_writes c s o h = puts (note.Head c s o) h c (length o) o (λ d. refl) (λ d. refl) refl

  pub answer_writes : (c : ℕ) (o : List ℕ) (h : History NoMark) → StepsWrite (Noted (note.Answer c o)) h c (written (put.Put (length o)))
  answer_writes c o h = puts (note.Answer c o) h c (length o) o (λ d. refl) (λ d. refl) refl

  pub credit_writes : (c s n : ℕ) (h : History NoMark) → StepsWrite (Noted (note.Credit c s n)) h c (written (put.Put 13))
  credit_writes c s n h = puts (note.Credit c s n) h c 13 (window_update s n) (λ d. refl) (λ d. refl) refl

  -- the octets that a frame takes out of the send buffer
  pub framed_is : (f : FlowId) (h : History NoMark) (side : Side) (n : ℕ) → SideIs limits stages f h side → framed (change.Frame n) side.levels ≡ min n (length (send (shaped limits stages) f h))
  framed_is f h side n k =
      let long = k.long in
      let z : last_of side.levels ≡ length (stages f) + 1 = omega (arith, long) in
      ap (min n) (held_from (place_level (shaped limits stages) f h) 0 (length (stages f) + 1) (last_of side.levels) side.levels (omega (arith, z)) (omega (arith, long)) k.levels_are)

  pub frame_writes : (c : ℕ) (f : FlowId) (n : ℕ) (last : Bool) (h : History NoMark) (m : ℕ) → m ≡ min n (length (send (shaped limits stages) f h)) → StepsWrite (Noted (note.Frame c f n last)) h c (written (put.Put (m + 9)))
  frame_writes c f n last h m e =
      let held = send (shaped limits stages) f h in
      let t = length-take n held in
      puts (note.Frame c f n last) h c (m + 9) (data_frame (shaped limits stages) f n last h) (λ d. refl) (λ d. refl)
      (length-append (data_head ((shaped limits stages).stream f h) n last) (take n held) ∙ (let l : 9 + length (take n held) ≡ m + 9 = omega (arith, t, e) in l))

  -- ---- octets leave

  shorter : (b : Bool) (xs : List ℕ) (n : ℕ) → length (drop (if b then n else 0) xs) ≡ length xs - (if b then n else 0)
  shorter b xs n = length-drop (if b then n else 0) xs

  pub out_writes : (c n : ℕ) (h : History NoMark) → StepsWrite (Noted (note.Out c n)) h c (written (put.Take n))
  out_writes c n h = record {
    same = λ d e.
        let l = shorter (c == d) (out (shaped limits stages) d h) n in
        let z : (if c == d then n else 0) ≡ 0 = ap (λ (b : Bool). if b then n else 0) e in
        write_same d (Noted (note.Out c n)) h (omega (arith, l, z)) refl;
    here =
        let l = shorter (c == c) (out (shaped limits stages) c h) n in
        let z : (if c == c then n else 0) ≡ n = ap (λ (b : Bool). if b then n else 0) (equal_is c c refl) in
        write_fallen c n (Noted (note.Out c n)) h (l ∙ ap (λ v. length (out (shaped limits stages) c h) - v) z) refl;
  }

  -- ---- a connection is closed or lost

  closed_here : (c : ℕ) (b : Bool) → (c == c || b) ≡ true
  closed_here c b = ap (λ v. v || b) (equal_is c c refl)

  closed_there : (c d : ℕ) (b : Bool) → (c == d) ≡ false → (c == d || b) ≡ b
  closed_there c d b e = ap (λ v. v || b) e

  -- a close that leaves the octets where they are
  keeps_octets : (c code : ℕ) (why : CloseCause) (h : History NoMark) → ((d : ℕ) → out (shaped limits stages) d (Noted (note.Close c code why) ∷ h) ≡ out (shaped limits stages) d h)
      → StepsWrite (Noted (note.Close c code why)) h c (written (put.Close false))
  keeps_octets c code why h is = record {
    same = λ d e. write_same d (Noted (note.Close c code why)) h (ap length (is d)) (closed_there c d (was_closed d h) e);
    here = write_is _ _ _ _ _ _ (ap length (sym (is c))) (let m = out_most c h in let l = ap length (is c) in omega (arith, m, l)) (sym (closed_here c (was_closed c h)));
  }

  pub close_writes : (c code : ℕ) (why : CloseCause) (h : History NoMark) → StepsWrite (Noted (note.Close c code why)) h c (written (put.Close (is_lost why)))
  close_writes c code closed.Protocol h = keeps_octets c code closed.Protocol h (λ d. refl)
  close_writes c code closed.Drained h = keeps_octets c code closed.Drained h (λ d. refl)
  close_writes c code closed.Idle h = keeps_octets c code closed.Idle h (λ d. refl)
  close_writes c code closed.Overload h = keeps_octets c code closed.Overload h (λ d. refl)
  close_writes c code closed.Flood h = keeps_octets c code closed.Flood h (λ d. refl)
  close_writes c code closed.Lost h = record {
    same = λ d e. write_same d (Noted (note.Close c code closed.Lost)) h (ap (λ (b : Bool). length (if b then [] else out (shaped limits stages) d h)) e) (closed_there c d (was_closed d h) e);
    here =
        let l : length (out (shaped limits stages) c (Noted (note.Close c code closed.Lost) ∷ h)) ≡ 0 = ap (λ (b : Bool). length (if b then [] else out (shaped limits stages) c h)) (equal_is c c refl) in
        write_is _ _ _ _ _ _ (sym l) (omega (arith, l)) (sym (closed_here c (was_closed c h)));
  }

  pub gone_writes : (k c : ℕ) (h : History NoMark) → StepsWrite (Noted (note.Turn k (event.Gone c))) h c (written put.Lose)
  gone_writes k c h = record {
    same = λ d e. write_same d (Noted (note.Turn k (event.Gone c))) h (ap (λ (b : Bool). length (if b && was_closed d h then [] else out (shaped limits stages) d h)) e) refl;
    here = by (was_closed c h) refl;
  }
    where
      left : (b : Bool) → was_closed c h ≡ b → length (out (shaped limits stages) c (Noted (note.Turn k (event.Gone c)) ∷ h)) ≡ length (if b then [] else out (shaped limits stages) c h)
      left b e =
          ap (λ (v : Bool). length (if v && was_closed c h then [] else out (shaped limits stages) c h)) (equal_is c c refl)
          ∙ ap (λ (v : Bool). length (if true && v then [] else out (shaped limits stages) c h)) e

      by : (b : Bool) → was_closed c h ≡ b → written put.Lose (write_level (shaped limits stages) c h) ≡ write_level (shaped limits stages) c (Noted (note.Turn k (event.Gone c)) ∷ h)
      by true e =
          let l = left true e in
          ap (λ (v : Bool). let w : WriteLevel = record { level = if v then emptied (write_level (shaped limits stages) c h).level else (write_level (shaped limits stages) c h).level; closed = was_closed c h } in w) e
          ∙ write_is _ _ _ _ _ _ (sym l) (omega (arith, l)) refl
      by false e =
          let l = left false e in
          ap (λ (v : Bool). let w : WriteLevel = record { level = if v then emptied (write_level (shaped limits stages) c h).level else (write_level (shaped limits stages) c h).level; closed = was_closed c h } in w) e
          ∙ write_is _ _ _ _ _ _ (sym l) (let m = out_most c h in omega (arith, l, m)) refl
