-- What a tape tells of its places and write buffers is how many octets lie in them.
use Rattle.flow_rules.specs.declared.ids.FlowId.{FlowId}
use Rattle.h2_frames.specs.Head.{data_head}
use Rattle.std.proofs.Common.{ap, arith, inl, inr, length-append, length-drop, refl, subst, suc, sym, true≢false, ◌∙◌}
use Rattle.std.proofs.Math.ListN.{get_or-eq_default}
use Rattle.std.proofs.Math.Seq.{get_or-append_seam}
use Rattle.std.proofs.lemmas.Bool.{eqb-false, eqb-true, ltb-false, ltb-true}
use Rattle.std.proofs.lemmas.List.{get_or-set_other, get_or-set_same, get_or_append_left, length-set, length-take, set-get_or}
use Rattle.std.specs.Prelude.{Bool, List, None, Some, [], drop, false, if◌then◌else◌, length, map, min, nat_lt, not, set, take, true, zero, ℕ, ◌&&◌, ◌++◌, ◌+◌, ◌-◌, ◌<◌, ◌==◌, ◌∷◌, ◌≡◌, ◌≤◌, ◌⊎◌}
use Rattle.tape_laws.specs.Connections.{was_closed}
use Rattle.tape_laws.specs.Flows.{same_flow}
use Rattle.tape_laws.specs.History.{History, Noted}
use Rattle.tape_laws.specs.Setup.{Setup}
use Rattle.tape_laws.specs.World.{last_place, out, place, send, window_update}
use Rattle.tape_plot.proofs.Columns.{eq_false}
use Rattle.tape_plot.specs.Levels.{at, entered, filled, framed, moved, places, relayed, taken, top, written}
use Rattle.tape_plot.specs.Tops.{AreFromTop}
use Rattle.flow_notes.specs.declared.events.Event.TheVariants as event
use Rattle.flow_notes.specs.declared.notes.CloseCause.TheVariants as closed
use Rattle.flow_notes.specs.declared.notes.Note.TheVariants as note

-- ---- numbers

nine_more : (a : ℕ) → 9 + a ≡ a + 9
nine_more a = omega arith

pub lt_or_le : (a b : ℕ) → (a < b) ⊎ (b ≤ a)
lt_or_le a b = by (nat_lt a b) refl
  where
    by : (c : Bool) → nat_lt a b ≡ c → (a < b) ⊎ (b ≤ a)
    by true e = inl (ltb-true a b e)
    by false e = inr (ltb-false a b e)

plus_none : (a : ℕ) → a + 0 ≡ a
plus_none a = omega arith

minus_none : (a : ℕ) → a - 0 ≡ a
minus_none a = omega arith

zero_plus : (a n : ℕ) → a ≡ 0 → n ≡ a + n
zero_plus a n e = omega (arith, e)

beyond : (p q l : ℕ) → l ≤ p → (p ≡ q → ⊥) → q ≡ l → l + 1 ≤ p
beyond p q l le differ f = omega (arith, le, differ, f)

within_of : (q l : ℕ) → q ≤ l → (q ≡ l → ⊥) → q < l
within_of q l le differ = omega (arith, le, differ)

min_none : (n a : ℕ) → a ≡ 0 → min n a ≡ 0
min_none n a z = omega (arith, z)

apart_next : (p q : ℕ) → p ≡ q → p ≡ q + 1 → ⊥
apart_next p q e f = omega (arith, e, f)

nothing_gone : (n l a : ℕ) → l ≡ a → min n a ≡ 0 → l - n ≡ l
nothing_gone n l a e f = omega (arith, e, f)

less_gone : (n a l : ℕ) → a ≡ l → (a - min n a) + 0 ≡ l - n
less_gone n a l e = omega (arith, e)

less_of_none : (a b : ℕ) → a ≡ 0 → a - b ≡ a
less_of_none a b e = omega (arith, e)

-- ---- numbers at places

at_past : (held : List ℕ) (p : ℕ) → length held ≤ p → at held p ≡ 0
at_past held p le = get_or-eq_default held 0 le

-- what lies at one place is another number
at_set : (held : List ℕ) (q p n : ℕ) (b : Bool) → (p == q) ≡ b → q < length held → at (set held q n) p ≡ (if b then n else at held p)
at_set held q p n true e lt = ap (at (set held q n)) (eqb-true p q e) ∙ get_or-set_same held q n 0 lt
at_set held q p n false e lt = get_or-set_other held q p n 0 (eqb-false p q e)

at_end : (held : List ℕ) (q p n : ℕ) (b : Bool) → (p == q) ≡ b → q ≡ length held → at (held ++ n ∷ []) p ≡ (if b then n else at held p)
at_end held q p n true e f = ap (at (held ++ n ∷ [])) (eqb-true p q e ∙ f) ∙ get_or-append_seam held n [] 0
at_end held q p n false e f = by (lt_or_le p (length held))
  where
    by : (p < length held) ⊎ (length held ≤ p) → at (held ++ n ∷ []) p ≡ at held p
    by (inl lt) = get_or_append_left held (n ∷ []) 0 p lt
    by (inr le) =
        at_past (held ++ n ∷ []) p (omega (arith, length-append held (n ∷ []), beyond p q (length held) le (eqb-false p q e) f)) ∙ sym (at_past held p le)

at_filled : (held : List ℕ) (q n p : ℕ) (b : Bool) → (p == q) ≡ b → q ≤ length held → at (filled q n held) p ≡ at held p + (if b then n else 0)
at_filled held q n p b e le = by (q == length held) refl b e
  where
    by : (c : Bool) → (q == length held) ≡ c → (b : Bool) → (p == q) ≡ b → at (if q == length held then held ++ n ∷ [] else set held q (at held q + n)) p ≡ at held p + (if b then n else 0)
    by true f true e =
        rw f (at_end held q p n true e (eqb-true q _ f) ∙ zero_plus (at held p) n (at_past held p (omega (arith, eqb-true q _ f, eqb-true p q e))))
    by true f false e = rw f (at_end held q p n false e (eqb-true q _ f) ∙ sym (plus_none (at held p)))
    by false f true e =
        rw f (at_set held q p (at held q + n) true e (within_of q _ le (eqb-false q _ f)) ∙ ap (λ v. at held v + n) (sym (eqb-true p q e)))
    by false f false e = rw f (at_set held q p (at held q + n) false e (within_of q _ le (eqb-false q _ f)) ∙ sym (plus_none (at held p)))

-- ---- flows by name

bool_is : (a b : Bool) → (if a then b else not b) ≡ true → a ≡ b
bool_is true true e = refl
bool_is true false e = absurd (true≢false (sym e))
bool_is false true e = absurd (true≢false (sym e))
bool_is false false e = refl

both_of : (a b : Bool) → (a && b) ≡ true → (a ≡ true) × (b ≡ true)
both_of true true e = (refl, refl)
both_of true false e = absurd (true≢false (sym e))
both_of false b e = absurd (true≢false (sym e))

pub flow_is : (f g : FlowId) → same_flow f g ≡ true → f ≡ g
flow_is f g e =
    let k = both_of (f.exchange == g.exchange) (if f.back then g.back else not g.back) e in
    ap (λ (x : ℕ). let r : FlowId = record { exchange = x; back = f.back } in r) (eqb-true f.exchange g.exchange k.0)
    ∙ ap (λ (b : Bool). let r : FlowId = record { exchange = g.exchange; back = b } in r) (bool_is f.back g.back k.1)

-- ---- places note by note

-- each exchange has a stream
unrelayed : {Mark : Type 0} → (setup : Setup Mark) (h : History Mark) → AreFromTop setup h → (f : FlowId) → relayed f h ≡ None
unrelayed setup [] from f = refl
unrelayed setup (Noted (note.Start x c s d) ∷ past) from f = by (x == f.exchange) (s == 0) refl (unrelayed setup past from.1 f)
  where
    by : (b e : Bool) → (s == 0) ≡ e → relayed f past ≡ None → (if (b && e) then Some (if f.back then c else d) else relayed f past) ≡ None
    by b true e was = absurd (true≢false (sym e ∙ from.0))
    by true false e was = was
    by false false e was = was
unrelayed setup (step ∷ past) from f = unrelayed setup past from.1 f

arrive_lengths : (held : List ℕ) (octets there : List ℕ) (p : ℕ) → at held p ≡ length there
    → at (filled 0 (length octets) held) p ≡ length (there ++ (if p == 0 then octets else []))
arrive_lengths held octets there p e = by (p == 0) refl
  where
    by : (b : Bool) → (p == 0) ≡ b → at (filled 0 (length octets) held) p ≡ length (there ++ (if b then octets else []))
    by true f = at_filled held 0 (length octets) p true f (omega arith) ∙ ap (λ v. v + length octets) e ∙ sym (length-append there octets)
    by false f = at_filled held 0 (length octets) p false f (omega arith) ∙ ap (λ v. v + 0) e ∙ sym (length-append there [])

move_lengths : (held : List ℕ) (there from : List ℕ) (q n p : ℕ) → at held p ≡ length there → at held q ≡ length from
    → at (moved q n held) p ≡ length (if p == q then drop n there else (if p == q + 1 then there ++ take n from else there))
move_lengths held there from q n p e f = by (min n (at held q) == 0) refl (p == q) refl (p == q + 1) refl
  where
    m : ℕ
    m = min n (at held q)

    gone : List ℕ
    gone = set held q (at held q - m)

    by_length : (m == 0) ≡ false → (q < length held) ⊎ (length held ≤ q) → q < length held
    by_length g (inl lt) = lt
    by_length g (inr le) = absurd (eqb-false m 0 g (min_none n (at held q) (at_past held q le)))

    within : (m == 0) ≡ false → q < length held
    within g = by_length g (lt_or_le q (length held))

    taken_len : length (take n from) ≡ m
    taken_len = length-take n from ∙ ap (min n) (sym f)

    by : (c : Bool) → (m == 0) ≡ c → (b : Bool) → (p == q) ≡ b → (d : Bool) → (p == q + 1) ≡ d →
        at (if c then held else filled (q + 1) m gone) p ≡ length (if b then drop n there else (if d then there ++ take n from else there))
    by true g true h d i = e ∙ sym (length-drop n there ∙ nothing_gone n (length there) (at held q) (sym e ∙ ap (at held) (eqb-true p q h)) (eqb-true m 0 g))
    by true g false h true i = e ∙ sym (length-append there (take n from) ∙ ap (λ v. length there + v) (taken_len ∙ eqb-true m 0 g) ∙ plus_none (length there))
    by true g false h false i = e
    by false g true h d i =
        at_filled gone (q + 1) m p false (eq_false p (q + 1) _ refl (apart_next p q (eqb-true p q h))) (omega (arith, length-set held q (at held q - m), within g))
        ∙ ap (λ v. v + 0) (at_set held q p (at held q - m) true h (within g))
        ∙ less_gone n (at held q) (length there) (sym (ap (at held) (eqb-true p q h)) ∙ e)
        ∙ sym (length-drop n there)
    by false g false h true i =
        at_filled gone (q + 1) m p true i (omega (arith, length-set held q (at held q - m), within g))
        ∙ ap (λ v. v + m) (at_set held q p (at held q - m) false h (within g) ∙ e)
        ∙ ap (λ v. length there + v) (sym taken_len)
        ∙ sym (length-append there (take n from))
    by false g false h false i =
        at_filled gone (q + 1) m p false i (omega (arith, length-set held q (at held q - m), within g))
        ∙ ap (λ v. v + 0) (at_set held q p (at held q - m) false h (within g) ∙ e)
        ∙ plus_none (length there)

frame_lengths : (held : List ℕ) (there : List ℕ) (n p l : ℕ) → at held p ≡ length there → (n ≡ 0) ⊎ (top held ≡ l)
    → at (framed n held) p ≡ length (drop (if p == l then n else 0) there)
frame_lengths held there n p l e (inl z) =
    ap (λ v. at (set held (top held) (at held (top held) - v)) p) z
    ∙ ap (λ v. at (set held (top held) v) p) (minus_none (at held (top held)))
    ∙ ap (λ v. at v p) (set-get_or held (top held) 0)
    ∙ e ∙ sym (length-drop (if p == l then n else 0) there ∙ by (p == l))
  where
    by : (b : Bool) → length there - (if b then n else 0) ≡ length there
    by true = omega (arith, z)
    by false = omega arith
frame_lengths [] there n p l e (inr z) = e ∙ sym (length-drop (if p == l then n else 0) there ∙ less_of_none (length there) _ (sym e))
frame_lengths (x ∷ xs) there n p l e (inr z) = by (p == l) refl
  where
    held : List ℕ
    held = x ∷ xs

    within : top held < length held
    within = omega arith

    by : (b : Bool) → (p == l) ≡ b → at (framed n held) p ≡ length (drop (if b then n else 0) there)
    by true f =
        at_set held (top held) p _ true (ap (λ v. p == v) z ∙ f) within
        ∙ ap (λ v. v - n) (ap (at held) (z ∙ sym (eqb-true p l f)) ∙ e)
        ∙ sym (length-drop n there)
    by false f = at_set held (top held) p _ false (ap (λ v. p == v) z ∙ f) within ∙ e ∙ sym (length-drop 0 there ∙ minus_none (length there))

at_none : (held : List ℕ) (p : ℕ) → at (map (λ _. 0) held) p ≡ 0
at_none [] p = refl
at_none (x ∷ xs) zero = refl
at_none (x ∷ xs) (suc p) = at_none xs p

pub place_lengths : {Mark : Type 0} → (setup : Setup Mark) (h : History Mark) → AreFromTop setup h → (f : FlowId) (p : ℕ) → at (places f h) p ≡ length (place setup f p h)
place_lengths setup [] from f p = refl
place_lengths setup (Noted (note.Arrive g octets) ∷ past) from f p = by (same_flow g f) (place_lengths setup past from.1 f p)
  where
    by : (b : Bool) → at (places f past) p ≡ length (place setup f p past)
        → at (if b then entered (relayed f past) (length octets) (places f past) else places f past) p ≡ length (place setup f p past ++ (if b && (p == 0) then octets else []))
    by true was =
        ap (λ v. at (entered v (length octets) (places f past)) p) (unrelayed setup past from.1 f)
        ∙ arrive_lengths (places f past) octets (place setup f p past) p was
    by false was = was ∙ sym (length-append (place setup f p past) [] ∙ plus_none (length (place setup f p past)))
place_lengths setup (Noted (note.Move g q n) ∷ past) from f p = by (same_flow g f) (place_lengths setup past from.1 f p) (place_lengths setup past from.1 f q)
  where
    by : (b : Bool) → at (places f past) p ≡ length (place setup f p past) → at (places f past) q ≡ length (place setup f q past) → at (if b then moved q n (places f past) else places f past) p
        ≡ length (if b then (if p == q then drop n (place setup f p past) else (if p == q + 1 then place setup f p past ++ take n (place setup f q past) else place setup f p past)) else place setup f p past)
    by true was from_was = move_lengths (places f past) (place setup f p past) (place setup f q past) q n p was from_was
    by false was from_was = was
place_lengths setup (Noted (note.Frame c g n last) ∷ past) from f p = by (same_flow g f) refl (place_lengths setup past from.1 f p)
  where
    by : (b : Bool) → same_flow g f ≡ b → at (places f past) p ≡ length (place setup f p past) → at (if b then framed n (places f past) else places f past) p
        ≡ length (drop (if b && (p == last_place setup f past) then n else 0) (place setup f p past))
    by true e was = frame_lengths (places f past) (place setup f p past) n p (last_place setup f past) was (subst (λ v. (n ≡ 0) ⊎ (top (places v past) ≡ last_place setup v past)) (flow_is g f e) from.0)
    by false e was = was ∙ sym (length-drop 0 (place setup f p past) ∙ minus_none (length (place setup f p past)))
place_lengths setup (Noted (note.Doom x why) ∷ past) from f p = by (f.exchange == x) (place_lengths setup past from.1 f p)
  where
    by : (b : Bool) → at (places f past) p ≡ length (place setup f p past) → at (if b then map (λ _. 0) (places f past) else places f past) p ≡ length (if b then [] else place setup f p past)
    by true was = at_none (places f past) p
    by false was = was
place_lengths setup (step ∷ past) from f p = place_lengths setup past from.1 f p

-- ---- write buffers note by note

more_if : (xs ys : List ℕ) (b : Bool) (w n : ℕ) → w ≡ length xs → length ys ≡ n → w + (if b then n else 0) ≡ length (xs ++ (if b then ys else []))
more_if xs ys true w n e f = ap (λ v. v + n) e ∙ ap (λ v. length xs + v) (sym f) ∙ sym (length-append xs ys)
more_if xs ys false w n e f = ap (λ v. v + 0) e ∙ sym (length-append xs [])

taken_length : {Mark : Type 0} → (setup : Setup Mark) (past : History Mark) → AreFromTop setup past → (f : FlowId) (n : ℕ) → (n ≡ 0) ⊎ (top (places f past) ≡ last_place setup f past)
    → (stream : ℕ) (last : Bool) → length (data_head stream n last ++ take n (send setup f past)) ≡ taken f n past + 9
taken_length setup past from f n from_top stream last =
    length-append (data_head stream n last) (take n (send setup f past))
    ∙ ap (λ v. 9 + v) (length-take n (send setup f past) ∙ by from_top)
    ∙ nine_more (taken f n past)
  where
    by : (n ≡ 0) ⊎ (top (places f past) ≡ last_place setup f past) → min n (length (send setup f past)) ≡ taken f n past
    by (inl z) = omega (arith, z)
    by (inr t) = ap (min n) (sym (ap (at (places f past)) t ∙ place_lengths setup past from f (last_place setup f past)))

emptied_if : (b : Bool) (w : ℕ) (xs : List ℕ) → w ≡ length xs → (if b then 0 else w) ≡ length (if b then [] else xs)
emptied_if true w xs e = refl
emptied_if false w xs e = e

pub write_lengths : {Mark : Type 0} → (setup : Setup Mark) (h : History Mark) → AreFromTop setup h → (c : ℕ) → written c h ≡ length (out setup c h)
write_lengths setup [] from c = refl
write_lengths setup (Noted (note.Arrive f octets) ∷ past) from c =
    rw (unrelayed setup past from.1 f) (plus_none (written c past) ∙ write_lengths setup past from.1 c)
write_lengths setup (Noted (note.Frame d f n last) ∷ past) from c =
    more_if (out setup c past) _ (d == c) _ _ (write_lengths setup past from.1 c) (taken_length setup past from.1 f n from.0 (setup.stream f past) last)
write_lengths setup (Noted (note.Head d s octets) ∷ past) from c = more_if (out setup c past) octets (d == c) _ _ (write_lengths setup past from.1 c) refl
write_lengths setup (Noted (note.Answer d octets) ∷ past) from c = more_if (out setup c past) octets (d == c) _ _ (write_lengths setup past from.1 c) refl
write_lengths setup (Noted (note.Credit d s n) ∷ past) from c = more_if (out setup c past) (window_update s n) (d == c) _ 13 (write_lengths setup past from.1 c) refl
write_lengths setup (Noted (note.Out d n) ∷ past) from c =
    ap (λ v. v - (if d == c then n else 0)) (write_lengths setup past from.1 c) ∙ sym (length-drop (if d == c then n else 0) (out setup c past))
write_lengths setup (Noted (note.Close d code closed.Lost) ∷ past) from c = emptied_if (d == c) _ _ (write_lengths setup past from.1 c)
write_lengths setup (Noted (note.Turn k (event.Gone d)) ∷ past) from c = emptied_if ((d == c) && was_closed c past) _ _ (write_lengths setup past from.1 c)
write_lengths setup (step ∷ past) from c = write_lengths setup past from.1 c
