-- What each kind of step does to the length of a place of a flow, and of a write buffer.
use Rattle.flow_rules.specs.declared.ids.FlowId.{FlowId}
use Rattle.flow_laws.proofs.Lists.{flow_is, number_is}
use Rattle.flow_laws.specs.Steps.{eased_by, fed_by}
use Rattle.flow_notes.specs.declared.events.Event.{Event}
use Rattle.flow_rules.specs.declared.causes.Cause.{Cause}
use Rattle.flow_notes.specs.declared.notes.CloseCause.{CloseCause}
use Rattle.std.proofs.Common.{ap, arith, inl, inr, length-append, length-drop, refl, sym, ◌∙◌}
use Rattle.std.specs.Prelude.{Bool, List, Some, [], drop, false, if◌then◌else◌, length, take, true, ℕ, ◌&&◌, ◌++◌, ◌+◌, ◌==◌, ◌∷◌, ◌≡◌, ◌≤◌, ◌⊎◌}
use Rattle.tape_laws.specs.Connections.{was_closed}
use Rattle.tape_laws.specs.Flows.{same_flow}
use Rattle.tape_laws.specs.History.{BeforeTurn, History, Noted, Step}
use Rattle.tape_laws.specs.Setup.{Setup}
use Rattle.tape_laws.specs.World.{data_frame, last_place, out, place, window_update}
use Rattle.flow_rules.specs.declared.ids.BufferId.TheVariants as buffer
use Rattle.flow_notes.specs.declared.events.Event.TheVariants as event
use Rattle.flow_notes.specs.declared.notes.CloseCause.TheVariants as closed
use Rattle.flow_notes.specs.declared.notes.Note.TheVariants as note

-- the place of the flow is fed by an arrival or by a move to it, or it gets no longer
pub data Feeding {Mark : Type 0} (setup : Setup Mark) (f : FlowId) (p : ℕ) (step : Step Mark) (h : History Mark) : Type 0 where
  Arrives : (octets : List ℕ) → step ≡ Noted (note.Arrive f octets) → p ≡ 0 → Feeding setup f p step h
  Comes : (q n : ℕ) → step ≡ Noted (note.Move f q n) → p ≡ q + 1 → Feeding setup f p step h
  NotFed : length (place setup f p (step ∷ h)) ≤ length (place setup f p h) → Feeding setup f p step h

-- it is eased by a move out of it, by a frame or by its exchange's doom, or it gets no shorter
pub data Easing {Mark : Type 0} (setup : Setup Mark) (f : FlowId) (p : ℕ) (step : Step Mark) (h : History Mark) : Type 0 where
  Leaves : (n : ℕ) → step ≡ Noted (note.Move f p n) → Easing setup f p step h
  Framed : (c n : ℕ) (last : Bool) → step ≡ Noted (note.Frame c f n last) → p ≡ last_place setup f h → Easing setup f p step h
  Doomed : (why : Cause) → step ≡ Noted (note.Doom f.exchange why) → Easing setup f p step h
  NotEased : length (place setup f p h) ≤ length (place setup f p (step ∷ h)) → Easing setup f p step h

same_len : (n : ℕ) → n ≤ n
same_len n = omega arith

pub dropped : (n : ℕ) (xs : List ℕ) → length (drop n xs) ≤ length xs
dropped n xs = omega (arith, length-drop n xs)

undropped : (xs : List ℕ) → length xs ≤ length (drop 0 xs)
undropped xs = omega (arith, length-drop 0 xs)

no_longer : (xs : List ℕ) → length (xs ++ []) ≤ length xs
no_longer xs = omega (arith, length-append xs [])

added : (xs ys : List ℕ) → length xs ≤ length (xs ++ ys)
added xs ys = omega (arith, length-append xs ys)

module _ {Mark : Type 0} (setup : Setup Mark) (f : FlowId) (p : ℕ) where
  abbrev held : History Mark → ℕ
  held h = length (place setup f p h)

  pub feeding : (step : Step Mark) (h : History Mark) → Feeding setup f p step h
  feeding (Noted (note.Arrive g octets)) h = at (same_flow g f) (p == 0) refl refl
    where
      at : (s z : Bool) → same_flow g f ≡ s → (p == 0) ≡ z → Feeding setup f p (Noted (note.Arrive g octets)) h
      at true true e z = Arrives octets (ap (λ (v : FlowId). Noted (note.Arrive v octets)) (flow_is g f e)) (number_is p 0 z)
      at true false e z = NotFed (rw (e, z) (no_longer (place setup f p h)))
      at false z e y = NotFed (rw e (no_longer (place setup f p h)))
  feeding (Noted (note.Move g q n)) h = at (same_flow g f) (p == q) (p == q + 1) refl refl refl
    where
      at : (s a b : Bool) → same_flow g f ≡ s → (p == q) ≡ a → (p == q + 1) ≡ b → Feeding setup f p (Noted (note.Move g q n)) h
      at true a true e d i = Comes q n (ap (λ (v : FlowId). Noted (note.Move v q n)) (flow_is g f e)) (number_is p (q + 1) i)
      at true true false e d i = NotFed (rw (e, d) (dropped n (place setup f p h)))
      at true false false e d i = NotFed (rw (e, d, i) (same_len (held h)))
      at false a b e d i = NotFed (rw e (same_len (held h)))
  feeding (Noted (note.Frame c g n last)) h = NotFed (dropped (if same_flow g f && (p == last_place setup f h) then n else 0) (place setup f p h))
  feeding (Noted (note.Doom x why)) h = NotFed (at (f.exchange == x))
    where
      at : (b : Bool) → length (if b then [] else place setup f p h) ≤ held h
      at true = omega arith
      at false = same_len (held h)
  feeding step h = NotFed (same_len (held h))

  pub easing : (step : Step Mark) (h : History Mark) → Easing setup f p step h
  easing (Noted (note.Arrive g octets)) h = NotEased (added (place setup f p h) (if same_flow g f && (p == 0) then octets else []))
  easing (Noted (note.Move g q n)) h = at (same_flow g f) (p == q) (p == q + 1) refl refl refl
    where
      at : (s a b : Bool) → same_flow g f ≡ s → (p == q) ≡ a → (p == q + 1) ≡ b → Easing setup f p (Noted (note.Move g q n)) h
      at true true b e d i = Leaves n (ap (λ (v : FlowId). Noted (note.Move v q n)) (flow_is g f e) ∙ ap (λ (v : ℕ). Noted (note.Move f v n)) (sym (number_is p q d)))
      at true false true e d i = NotEased (rw (e, d, i) (added (place setup f p h) (take n (place setup f q h))))
      at true false false e d i = NotEased (rw (e, d, i) (same_len (held h)))
      at false a b e d i = NotEased (rw e (same_len (held h)))
  easing (Noted (note.Frame c g n last)) h = at (same_flow g f) (p == last_place setup f h) refl refl
    where
      at : (s a : Bool) → same_flow g f ≡ s → (p == last_place setup f h) ≡ a → Easing setup f p (Noted (note.Frame c g n last)) h
      at true true e d = Framed c n last (ap (λ (v : FlowId). Noted (note.Frame c v n last)) (flow_is g f e)) (number_is p (last_place setup f h) d)
      at true false e d = NotEased (rw (e, d) (undropped (place setup f p h)))
      at false a e d = NotEased (rw e (undropped (place setup f p h)))
  easing (Noted (note.Doom x why)) h = at (f.exchange == x) refl
    where
      at : (b : Bool) → (f.exchange == x) ≡ b → Easing setup f p (Noted (note.Doom x why)) h
      at true e = Doomed why (ap (λ (v : ℕ). Noted (note.Doom v why)) (sym (number_is f.exchange x e)))
      at false e = NotEased (rw e (same_len (held h)))
  easing step h = NotEased (same_len (held h))

-- ---- the write buffer of a connection
module _ {Mark : Type 0} (setup : Setup Mark) (c : ℕ) where
  abbrev kept : History Mark → ℕ
  kept h = length (out setup c h)

  abbrev OutFed : Step Mark → History Mark → Type 0
  OutFed step h = (fed_by setup step h ≡ Some (buffer.Write c)) ⊎ (kept (step ∷ h) ≤ kept h)

  adds : (d : ℕ) (octets : List ℕ) (h : History Mark) → (Some (buffer.Write d) ≡ Some (buffer.Write c)) ⊎ (length (out setup c h ++ (if d == c then octets else [])) ≤ kept h)
  adds d octets h = at (d == c) refl
    where
      at : (b : Bool) → (d == c) ≡ b → (Some (buffer.Write d) ≡ Some (buffer.Write c)) ⊎ (length (out setup c h ++ (if b then octets else [])) ≤ kept h)
      at true e = inl (ap (λ (v : ℕ). Some (buffer.Write v)) (number_is d c e))
      at false e = inr (no_longer (out setup c h))

  less_if : (b : Bool) (xs : List ℕ) → length (if b then [] else xs) ≤ length xs
  less_if true xs = omega arith
  less_if false xs = omega arith

  pub turn_fed : (k : ℕ) (e : Event) (h : History Mark) → kept (Noted (note.Turn k e) ∷ h) ≤ kept h
  turn_fed k (event.Gone d) h = less_if ((d == c) && was_closed c h) (out setup c h)
  turn_fed k e h = same_len (kept h)

  pub close_fed : (d code : ℕ) (why : CloseCause) (h : History Mark) → kept (Noted (note.Close d code why) ∷ h) ≤ kept h
  close_fed d code closed.Lost h = less_if (d == c) (out setup c h)
  close_fed d code e h = same_len (kept h)

  pub out_fed : (step : Step Mark) (h : History Mark) → OutFed step h
  out_fed (Noted (note.Frame d f n last)) h = adds d (data_frame setup f n last h) h
  out_fed (Noted (note.Head d s octets)) h = adds d octets h
  out_fed (Noted (note.Answer d octets)) h = adds d octets h
  out_fed (Noted (note.Credit d s n)) h = adds d (window_update s n) h
  out_fed (Noted (note.Out d n)) h = inr (dropped (if d == c then n else 0) (out setup c h))
  out_fed (Noted (note.Turn k e)) h = inr (turn_fed k e h)
  out_fed (Noted (note.Close d code why)) h = inr (close_fed d code why h)
  out_fed step h = inr (same_len (kept h))

  abbrev OutEased : Step Mark → History Mark → Type 0
  OutEased step h = (eased_by setup step h ≡ Some (buffer.Write c)) ⊎ (kept h ≤ kept (step ∷ h))

  turn_eased : (k : ℕ) (e : Event) (h : History Mark) → was_closed c h ≡ false → kept h ≤ kept (Noted (note.Turn k e) ∷ h)
  turn_eased k (event.Gone d) h o = rw o (at (d == c))
    where
      at : (b : Bool) → kept h ≤ length (if b && false then [] else out setup c h)
      at true = same_len (kept h)
      at false = same_len (kept h)
  turn_eased k e h o = same_len (kept h)

  close_eased : (d code : ℕ) (why : CloseCause) (h : History Mark) → OutEased (Noted (note.Close d code why)) h
  close_eased d code closed.Lost h = at (d == c) refl
    where
      at : (b : Bool) → (d == c) ≡ b → (Some (buffer.Write d) ≡ Some (buffer.Write c)) ⊎ (kept h ≤ length (if b then [] else out setup c h))
      at true e = inl (ap (λ (v : ℕ). Some (buffer.Write v)) (number_is d c e))
      at false e = inr (same_len (kept h))
  close_eased d code e h = inr (same_len (kept h))

  -- a closed connection's is dropped with the turn note that says that it is gone
  pub out_eased : (step : Step Mark) (h : History Mark) → BeforeTurn (λ past. was_closed c past ≡ false) step h → OutEased step h
  out_eased (Noted (note.Frame d f n last)) h o = inr (added (out setup c h) (if d == c then data_frame setup f n last h else []))
  out_eased (Noted (note.Head d s octets)) h o = inr (added (out setup c h) (if d == c then octets else []))
  out_eased (Noted (note.Answer d octets)) h o = inr (added (out setup c h) (if d == c then octets else []))
  out_eased (Noted (note.Credit d s n)) h o = inr (added (out setup c h) (if d == c then window_update s n else []))
  out_eased (Noted (note.Out d n)) h o = at (d == c) refl
    where
      at : (b : Bool) → (d == c) ≡ b → (Some (buffer.Write d) ≡ Some (buffer.Write c)) ⊎ (kept h ≤ length (drop (if b then n else 0) (out setup c h)))
      at true e = inl (ap (λ (v : ℕ). Some (buffer.Write v)) (number_is d c e))
      at false e = inr (undropped (out setup c h))
  out_eased (Noted (note.Turn k e)) h o = inr (turn_eased k e h o)
  out_eased (Noted (note.Close d code why)) h o = close_eased d code why h
  out_eased step h o = inr (same_len (kept h))
