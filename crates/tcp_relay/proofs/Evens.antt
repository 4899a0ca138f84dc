-- At the end of each dispatch the flow to a connection in a live pair was paused once more than resumed where its write
-- buffer is above, and else as often.
use Rattle.flow_rules.specs.declared.ids.FlowId.{FlowId}
use Rattle.relay_laws.specs.Lawful.{EachPaired}
use Rattle.relay_laws.specs.Pairs.{Tape, feed, goes_to, opposite, pairs}
use Rattle.relay_laws.specs.Sound.{IsPaired, IsSound}
use Rattle.relay_laws.specs.Watermark.{above, drains_at, rises_at}
use Rattle.relay_laws.specs.World.{out}
use Rattle.relay_laws.specs.declared.Feed.{Feed}
use Rattle.std.proofs.Common.{ap, append-nil, arith, refl, subst, sym, ◌∙◌}
use Rattle.std.proofs.lemmas.Bool.Decides.{nat_tests}
use Rattle.std.proofs.lemmas.List.{length-drop}
use Rattle.std.proofs.lemmas.Option.{same_Some}
use Rattle.std.specs.Prelude.{Bool, List, None, Option, Some, [], drop, false, if◌then◌else◌, length, not, true, ℕ, ◌&&◌, ◌+◌, ◌++◌, ◌-◌, ◌<◌, ◌==◌, ◌∷◌, ◌≡◌, ◌≤◌}
use Rattle.tape_laws.specs.Dispatches.{is_some_of}
use Rattle.tape_laws.specs.Flows.{same_flow}
use Rattle.tape_laws.specs.History.{Noted, onto}
use Rattle.tape_laws.specs.Pauses.{pauses, resumes}
use Rattle.tcp_relay.proofs.Flags.{above_less, above_same}
use Rattle.tcp_relay.proofs.Shapes.{pause_if, resume_if}
use Rattle.tcp_relay.proofs.Tests.{and_left, and_right, by_case, for_some, if_some, no_some, not_both, number_is, same_number}
use Rattle.wm_buffer.specs.Watermark.{above_after}
use Rattle.flow_rules.specs.declared.ids.BufferId.TheVariants as buffer
use Rattle.flow_notes.specs.declared.notes.Note.TheVariants as note

abbrev pub one_if : Bool → ℕ
one_if b = if b then 1 else 0

-- the flow to c is paused where c is above
pub record Even (limit : ℕ) (h : Tape) (c : ℕ) (f : Feed) : Type 0 where
  pub even : pauses (opposite f.flow) h ≡ resumes (opposite f.flow) h + one_if (above limit c h)

-- a flow that hasn't begun was never paused
pub record Unused (h : Tape) (g : FlowId) : Type 0 where
  pub pauses : pauses g h ≡ 0
  pub resumes : resumes g h ≡ 0

pub record IsEven (limit : ℕ) (h : Tape) : Type 0 where
  pub each : EachPaired (Even limit h) h
  pub unused : (g : FlowId) → pairs h < g.exchange → Unused h g

-- ---- flows told apart
pub opposite_twice : (f : FlowId) → opposite (opposite f) ≡ f
opposite_twice f = λ i. record { exchange = f.exchange; back = twice f.back i }
  where
    twice : (b : Bool) → not (not b) ≡ b
    twice true = refl
    twice false = refl

same_back : (a b : Bool) → (if a then b else not b) ≡ true → a ≡ b
same_back true true e = refl
same_back true false e = cc
same_back false true e = cc
same_back false false e = refl

same_is : (f g : FlowId) → same_flow f g ≡ true → f ≡ g
same_is f g e = λ i. record {
  exchange = number_is f.exchange g.exchange (and_left (f.exchange == g.exchange) (if f.back then g.back else not g.back) e) i;
  back = same_back f.back g.back (and_right (f.exchange == g.exchange) (if f.back then g.back else not g.back) e) i;
}

back_same : (b : Bool) → (if b then b else not b) ≡ true
back_same true = refl
back_same false = refl

pub same_self : (f : FlowId) → same_flow f f ≡ true
same_self f = ap (λ t. t && (if f.back then f.back else not f.back)) (same_number f.exchange) ∙ back_same f.back

-- flows that go to two connections are two
pub apart : (f g : FlowId) (c d : ℕ) (h : Tape) → goes_to f h ≡ Some c → goes_to g h ≡ Some d → (c == d) ≡ false → same_flow f g ≡ false
apart f g c d h to at n = by_case (same_flow f g)
    (λ t. not_both (c == d) (subst (λ v. (c == v) ≡ true) (same_Some c d (sym to ∙ ap (λ v. goes_to v h) (same_is f g t) ∙ at)) (same_number c)) n)
    (λ y. y)

-- ---- what keeps all this
pub record KeepsCounts (limit : ℕ) (h h' : Tape) : Type 0 where
  pub fed : (c : ℕ) (f : Feed) → feed c h' ≡ Some f → feed c h ≡ Some f
  pub level : (c : ℕ) (f : Feed) → feed c h' ≡ Some f → above limit c h' ≡ above limit c h
  pub pauses : (g : FlowId) → pauses g h' ≡ pauses g h
  pub resumes : (g : FlowId) → resumes g h' ≡ resumes g h
  pub pairs : pairs h' ≡ pairs h

pub even_kept : (limit : ℕ) (h h' : Tape) → KeepsCounts limit h h' → IsEven limit h → IsEven limit h'
even_kept limit h h' k v = record {
  each = λ c. for_some (feed c h') (Even limit h' c) (λ f e.
      let p : Even limit h c f = if_some (feed c h) (Even limit h c) f (k.fed c f e) (v.each c) in
      record { even = k.pauses (opposite f.flow) ∙ p.even ∙ (λ i. sym (k.resumes (opposite f.flow)) i + one_if (sym (k.level c f e) i)) });
  unused = λ g l.
      let u : Unused h g = v.unused g (subst (λ n. n < g.exchange) k.pairs l) in
      record { pauses = k.pauses g ∙ u.pauses; resumes = k.resumes g ∙ u.resumes };
}

one_more : (p r : ℕ) → p ≡ r + 0 → 1 + p ≡ r + 1
one_more p r e = omega (arith, e)

no_more : (p : ℕ) → 0 + p ≡ p
no_more p = omega arith

-- ---- octets arrive at a connection that isn't above, and the pause follows where it rises
module _ (limit : ℕ) (h : Tape) (s : IsSound h) (v : IsEven limit h) (f : Feed) (octets : List ℕ) (c : ℕ)
    (to : goes_to f.flow h ≡ Some f.to) (back : feed f.to h ≡ Some (record { flow = opposite f.flow; to = c })) (low : above limit f.to h ≡ false) where
  abbrev arrived : Tape
  arrived = Noted (note.Arrive f.flow octets) ∷ h

  abbrev high : Bool
  high = above limit f.to arrived

  abbrev next : Bool → Tape
  next b = onto (pause_if b f) arrived

  rises : rises_at limit f.to (Noted (note.Arrive f.flow octets)) h ≡ high
  rises = ap (λ b. not b && high) low

  above_next : (b : Bool) (d : ℕ) → above limit d (next b) ≡ above limit d arrived
  above_next true d = above_same limit d (Noted (note.Pause f.flow (buffer.Write f.to))) arrived refl
  above_next false d = refl

  resumes_next : (b : Bool) (g : FlowId) → resumes g (next b) ≡ resumes g h
  resumes_next true g = refl
  resumes_next false g = refl

  pauses_other : (b : Bool) (g : FlowId) → same_flow f.flow g ≡ false → pauses g (next b) ≡ pauses g h
  pauses_other true g n = ap (λ t. (if t then 1 else 0) + pauses g h) n ∙ no_more (pauses g h)
  pauses_other false g n = refl

  feed_next : (b : Bool) (d : ℕ) → feed d (next b) ≡ feed d h
  feed_next true d = refl
  feed_next false d = refl

  pairs_next : (b : Bool) → pairs (next b) ≡ pairs h
  pairs_next true = refl
  pairs_next false = refl

  goes_next : (d : ℕ) → (f.to == d) ≡ false → above limit d arrived ≡ above limit d h
  goes_next d n = above_same limit d (Noted (note.Arrive f.flow octets)) h
      (ap (λ b. out d h ++ (if b then octets else [])) (ap (λ o. is_some_of o d) to ∙ n) ∙ append-nil (out d h))

  was : pauses f.flow h ≡ resumes f.flow h + 0
  was =
      let p : Even limit h f.to (record { flow = opposite f.flow; to = c }) = if_some (feed f.to h) (Even limit h f.to) (record { flow = opposite f.flow; to = c }) back (v.each f.to) in
      ap (λ g. pauses g h) (sym (opposite_twice f.flow)) ∙ p.even ∙ (λ i. resumes (opposite_twice f.flow i) h + one_if (low i))

  now : (b : Bool) → high ≡ b → pauses f.flow (next b) ≡ resumes f.flow (next b) + one_if (above limit f.to (next b))
  now true e = ap (λ t. (if t then 1 else 0) + pauses f.flow h) (same_self f.flow) ∙ one_more (pauses f.flow h) (resumes f.flow h) was
      ∙ ap (λ t. resumes f.flow h + one_if t) (sym (above_next true f.to ∙ e))
  now false e = was ∙ ap (λ t. resumes f.flow h + one_if t) (sym e)

  even_at : (b : Bool) → high ≡ b → (d : ℕ) (g : Feed) → feed d h ≡ Some g → Even limit (next b) d g
  even_at b e d g k = by_case (f.to == d)
      (λ t. let same : record { flow = opposite f.flow; to = c } ≡ g = same_Some _ _ (sym back ∙ ap (λ y. feed y h) (number_is f.to d t) ∙ k) in
      record {
        even = subst (λ y. pauses (opposite y.flow) (next b) ≡ resumes (opposite y.flow) (next b) + one_if (above limit d (next b))) same
            (subst (λ y. pauses y (next b) ≡ resumes y (next b) + one_if (above limit d (next b))) (sym (opposite_twice f.flow))
            (subst (λ y. pauses f.flow (next b) ≡ resumes f.flow (next b) + one_if (above limit y (next b))) (number_is f.to d t) (now b e)));
      })
      (λ n.
      let p : Even limit h d g = if_some (feed d h) (Even limit h d) g k (v.each d) in
      let q : IsPaired h d g = if_some (feed d h) (IsPaired h d) g k (s.paired d) in
      record {
        even = pauses_other b (opposite g.flow) (apart f.flow (opposite g.flow) f.to d h to q.comes n) ∙ p.even
            ∙ (λ i. sym (resumes_next b (opposite g.flow)) i + one_if (sym (above_next b d ∙ goes_next d n) i));
      })

  few : f.flow.exchange ≤ pairs h
  few = (if_some (feed f.to h) (IsPaired h f.to) (record { flow = opposite f.flow; to = c }) back (s.paired f.to)).few

  not_new : (x y n : ℕ) → x ≤ n → n < y → (x == y) ≡ false
  not_new x y n l m = grind (arith, nat_tests)

  even_arrived : (b : Bool) → high ≡ b → IsEven limit (next b)
  even_arrived b e = record {
    each = λ d. for_some (feed d (next b)) (Even limit (next b) d) (λ g k. even_at b e d g (sym (feed_next b d) ∙ k));
    unused = λ g l.
        let m : pairs h < g.exchange = subst (λ n. n < g.exchange) (pairs_next b) l in
        let u : Unused h g = v.unused g m in
        record {
          pauses = pauses_other b g (ap (λ t. t && (if f.flow.back then g.back else not g.back)) (not_new f.flow.exchange g.exchange (pairs h) few m)) ∙ u.pauses;
          resumes = resumes_next b g ∙ u.resumes;
        };
  }

  pub even_read : IsEven limit (onto (pause_if (rises_at limit f.to (Noted (note.Arrive f.flow octets)) h) f) arrived)
  even_read = subst (λ b. IsEven limit (next b)) (sym rises) (even_arrived high refl)

-- ---- octets leave a connection, and the resume follows where it drains
drop_less : (n : ℕ) (xs : List ℕ) → length (drop n xs) ≤ length xs
drop_less n xs = less (length (drop n xs)) (length xs) n (length-drop n xs)
  where
    less : (a l n : ℕ) → a ≡ l - n → a ≤ l
    less a l n e = omega (arith, e)

still_even : (p r : ℕ) → p ≡ r + 1 → p ≡ (1 + r) + 0
still_even p r e = omega (arith, e)

module _ (limit : ℕ) (h : Tape) (s : IsSound h) (v : IsEven limit h) (c n : ℕ) where
  abbrev gone : Tape
  gone = Noted (note.Out c n) ∷ h

  abbrev drains : Bool
  drains = drains_at limit c (Noted (note.Out c n)) h

  goes_still : (d : ℕ) → (c == d) ≡ false → above limit d gone ≡ above limit d h
  goes_still d m = above_same limit d (Noted (note.Out c n)) h (ap (λ b. drop (if b then n else 0) (out d h)) m)

  even_nobody : feed c h ≡ None → IsEven limit gone
  even_nobody e = even_kept limit h gone (record {
    fed = λ d f k. k;
    level = λ d f k. goes_still d (by_case (c == d) (λ t. no_some (feed c h) f e (ap (λ y. feed y h) (number_is c d t) ∙ k)) (λ m. m));
    pauses = λ g. refl;
    resumes = λ g. refl;
    pairs = refl;
  }) v

  -- it doesn't rise
  stays_low : above limit c h ≡ false → above limit c gone ≡ false
  stays_low low = ap (λ b. above_after limit (above limit c h) (length (drop (if b then n else 0) (out c h)))) (same_number c)
      ∙ above_less limit c (length (drop n (out c h))) h low (drop_less n (out c h))

  module _ (f : Feed) (e : feed c h ≡ Some f) where
    abbrev told : Bool → Tape
    told b = onto (resume_if b (Some f) c) gone

    above_told : (b : Bool) (d : ℕ) → above limit d (told b) ≡ above limit d gone
    above_told true d = above_same limit d (Noted (note.Resume (opposite f.flow) (buffer.Write c))) gone refl
    above_told false d = refl

    pauses_told : (b : Bool) (g : FlowId) → pauses g (told b) ≡ pauses g h
    pauses_told true g = refl
    pauses_told false g = refl

    resumes_other : (b : Bool) (g : FlowId) → same_flow (opposite f.flow) g ≡ false → resumes g (told b) ≡ resumes g h
    resumes_other true g m = ap (λ t. (if t then 1 else 0) + resumes g h) m ∙ no_more (resumes g h)
    resumes_other false g m = refl

    feed_told : (b : Bool) (d : ℕ) → feed d (told b) ≡ feed d h
    feed_told true d = refl
    feed_told false d = refl

    pairs_told : (b : Bool) → pairs (told b) ≡ pairs h
    pairs_told true = refl
    pairs_told false = refl

    pair : IsPaired h c f
    pair = if_some (feed c h) (IsPaired h c) f e (s.paired c)

    was_even : Even limit h c f
    was_even = if_some (feed c h) (Even limit h c) f e (v.each c)

    abbrev Told : Bool → Type 0
    Told b = pauses (opposite f.flow) (told b) ≡ resumes (opposite f.flow) (told b) + one_if (above limit c (told b))

    tell : (a z : Bool) → above limit c h ≡ a → above limit c gone ≡ z → Told (a && not z)
    tell true true p q = was_even.even ∙ ap (λ t. resumes (opposite f.flow) h + one_if t) (p ∙ sym q)
    tell true false p q =
        still_even (pauses (opposite f.flow) h) (resumes (opposite f.flow) h) (was_even.even ∙ ap (λ t. resumes (opposite f.flow) h + one_if t) p)
        ∙ (λ i. ((if sym (same_self (opposite f.flow)) i then 1 else 0) + resumes (opposite f.flow) h) + one_if (sym (above_told true c ∙ q) i))
    tell false true p q = not_both (above limit c gone) q (stays_low p)
    tell false false p q = was_even.even ∙ ap (λ t. resumes (opposite f.flow) h + one_if t) (p ∙ sym q)

    even_left_at : (b : Bool) → Told b → (d : ℕ) (g : Feed) → feed d h ≡ Some g → Even limit (told b) d g
    even_left_at b w d g k = by_case (c == d)
        (λ t. subst (λ y. Even limit (told b) y g) (number_is c d t)
        (subst (λ y. Even limit (told b) c y) (same_Some f g (sym e ∙ ap (λ y. feed y h) (number_is c d t) ∙ k)) (record { even = w })))
        (λ m.
        let p : Even limit h d g = if_some (feed d h) (Even limit h d) g k (v.each d) in
        let q : IsPaired h d g = if_some (feed d h) (IsPaired h d) g k (s.paired d) in
        record {
          even = pauses_told b (opposite g.flow) ∙ p.even
              ∙ (λ i. sym (resumes_other b (opposite g.flow) (apart (opposite f.flow) (opposite g.flow) c d h pair.comes q.comes m)) i
              + one_if (sym (above_told b d ∙ goes_still d m) i));
        })

    not_yet : (x y n : ℕ) → x ≤ n → n < y → (x == y) ≡ false
    not_yet x y n l m = grind (arith, nat_tests)

    even_told : (b : Bool) → Told b → IsEven limit (told b)
    even_told b w = record {
      each = λ d. for_some (feed d (told b)) (Even limit (told b) d) (λ g k. even_left_at b w d g (sym (feed_told b d) ∙ k));
      unused = λ g l.
          let m : pairs h < g.exchange = subst (λ n. n < g.exchange) (pairs_told b) l in
          let u : Unused h g = v.unused g m in
          record {
            pauses = pauses_told b g ∙ u.pauses;
            resumes = resumes_other b g (ap (λ t. t && (if not f.flow.back then g.back else not g.back)) (not_yet f.flow.exchange g.exchange (pairs h) pair.few m)) ∙ u.resumes;
          };
    }

    even_somebody : IsEven limit (told drains)
    even_somebody = even_told drains (tell (above limit c h) (above limit c gone) refl refl)

  even_by : (o : Option Feed) → feed c h ≡ o → IsEven limit (onto (resume_if drains o c) gone)
  even_by None e = even_nobody e
  even_by (Some f) e = even_somebody f e

  pub even_room : IsEven limit (onto (resume_if drains (feed c h) c) gone)
  even_room = even_by (feed c h) refl
