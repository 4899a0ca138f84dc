-- A write buffer holds at most its limit and one unit.
use Rattle.flow_rules.specs.declared.ids.FlowId.{FlowId}
use Rattle.flow_laws.proofs.Flags.{within_limit}
use Rattle.flow_laws.proofs.Lengths.{close_fed, dropped, turn_fed}
use Rattle.flow_laws.proofs.Lists.{number_is}
use Rattle.flow_laws.specs.Fitting.{FitsIn}
use Rattle.h2_frames.specs.Head.{data_head}
use Rattle.std.proofs.Common.{ap, arith, inl, inr, length-append, length-take, refl, sym, ◌∙◌}
use Rattle.std.specs.Prelude.{Bool, List, [], false, if◌then◌else◌, length, max, min, take, true, ℕ, ◌++◌, ◌+◌, ◌<◌, ◌==◌, ◌∷◌, ◌≡◌, ◌≤◌, ◌⊎◌}
use Rattle.tape_laws.specs.Bounds.{unit_size}
use Rattle.tape_laws.specs.History.{EachFollows, History, Noted, Step}
use Rattle.tape_laws.specs.Release.{MayStand}
use Rattle.tape_laws.specs.Setup.{Setup}
use Rattle.tape_laws.specs.Watermark.{above}
use Rattle.tape_laws.specs.World.{data_frame, last_place, out, place, send, window_update}
use Rattle.flow_rules.specs.declared.ids.BufferId.TheVariants as buffer
use Rattle.flow_notes.specs.declared.notes.Note.TheVariants as note

same_len : (n : ℕ) → n ≤ n
same_len n = omega arith

module _ {Mark : Type 0} (setup : Setup Mark) (c : ℕ) where
  abbrev held : History Mark → ℕ
  held h = length (out setup c h)

  -- it grows by at most a unit, and only where it isn't above
  abbrev Grows : Step Mark → History Mark → Type 0
  Grows step h = (held (step ∷ h) ≤ held h) ⊎ ((above setup (buffer.Write c) h ≡ false) × (held (step ∷ h) ≤ held h + unit_size setup))

  writes : (d : ℕ) (octets : List ℕ) (h : History Mark) → above setup (buffer.Write d) h ≡ false → length octets ≤ unit_size setup
      → (length (out setup c h ++ (if d == c then octets else [])) ≤ held h)
      ⊎ ((above setup (buffer.Write c) h ≡ false) × (length (out setup c h ++ (if d == c then octets else [])) ≤ held h + unit_size setup))
  writes d octets h low fits = at (d == c) refl
    where
      more : (xs ys : List ℕ) (u : ℕ) → length ys ≤ u → length (xs ++ ys) ≤ length xs + u
      more xs ys u le = omega (arith, length-append xs ys, le)

      none : (xs : List ℕ) → length (xs ++ []) ≤ length xs
      none xs = omega (arith, length-append xs [])

      at : (b : Bool) → (d == c) ≡ b → (length (out setup c h ++ (if b then octets else [])) ≤ held h)
          ⊎ ((above setup (buffer.Write c) h ≡ false) × (length (out setup c h ++ (if b then octets else [])) ≤ held h + unit_size setup))
      at true e = inr (ap (λ v. above setup (buffer.Write v) h) (sym (number_is d c e)) ∙ low, more (out setup c h) octets (unit_size setup) fits)
      at false e = inl (none (out setup c h))

  frame_fits : (f : FlowId) (n : ℕ) (last : Bool) (h : History Mark) → n ≤ setup.quantum → length (data_frame setup f n last h) ≤ unit_size setup
  frame_fits f n last h le = fits _ n setup.quantum _ _ (length-append (data_head (setup.stream f h) n last) (take n (send setup f h))) le (length-take n (send setup f h))
    where
      fits : (l n q k s : ℕ) → l ≡ 9 + k → n ≤ q → k ≡ min n s → l ≤ max 65536 (q + 9)
      fits l n q k s e le t = omega (arith, e, le, t)

  grows : (step : Step Mark) (h : History Mark) → MayStand setup step h → FitsIn setup step h → Grows step h
  grows (Noted (note.Frame d f n last)) h m t = writes d (data_frame setup f n last h) h m.write.low (frame_fits f n last h (less n setup.quantum (setup.carries f h) (length (place setup f (last_place setup f h) h)) m.all))
    where
      less : (n q r l : ℕ) → n ≡ min (min q r) l → n ≤ q
      less n q r l e = omega (arith, e)
  grows (Noted (note.Head d s octets)) h m t = writes d octets h m.low t
  grows (Noted (note.Answer d octets)) h m t = writes d octets h m.low t
  grows (Noted (note.Credit d s n)) h m t = writes d (window_update s n) h m.low (small setup.quantum)
    where
      small : (q : ℕ) → length (window_update s n) ≤ max 65536 (q + 9)
      small q = omega arith
  grows (Noted (note.Out d n)) h m t = inl (dropped (if d == c then n else 0) (out setup c h))
  grows (Noted (note.Turn k e)) h m t = inl (turn_fed setup c k e h)
  grows (Noted (note.Close d code why)) h m t = inl (close_fed setup c d code why h)
  grows step h m2 t = inl (same_len (held h))

  pub out_room : (h : History Mark) → EachFollows (MayStand setup) h → EachFollows (FitsIn setup) h → 0 < setup.write → held h ≤ setup.write + unit_size setup
  out_room [] m t some = omega arith
  out_room (step ∷ h) m t some = at (grows step h m.0 t.0) (out_room h m.1 t.1 some)
    where
      within : (a b c : ℕ) → a ≤ b → b ≤ c → a ≤ c
      within a b c i j = omega arith

      more : (a b w u : ℕ) → a ≤ b + u → b ≤ w → a ≤ w + u
      more a b w u i j = omega arith

      at : Grows step h → held h ≤ setup.write + unit_size setup → held (step ∷ h) ≤ setup.write + unit_size setup
      at (inl le) r = within _ _ _ le r
      at (inr k) r = more _ _ _ _ k.1 (within_limit setup (buffer.Write c) h k.0 some)
