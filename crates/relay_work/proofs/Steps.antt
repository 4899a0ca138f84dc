-- Steps behind steps.
use Rattle.flow_notes.specs.Event.{event_spelling}
use Rattle.flow_notes.specs.Line.{newline}
use Rattle.flow_notes.specs.declared.events.Event.{Event}
use Rattle.relay_laws.specs.Pairs.{Tape}
use Rattle.relay_work.specs.Events.{event_in, event_taken, events_in, in_front, lines_of, shown_after, tape_after, tape_with}
use Rattle.relay_work.specs.Offering.{IsOfferTo, IsPiece}
use Rattle.relay_work.specs.Settling.{AreCloses}
use Rattle.relay_work.specs.Turns.{AreTurns, IsTurn, LastStops, NoneStops, Offers, is_stop, joined, reached, with_all}
use Rattle.std.proofs.Common.{ap, append_assoc, arith, refl, subst, sym, ◌∙◌}
use Rattle.std.specs.Prelude.{List, None, Option, Some, [], false, length, true, ℕ, ◌+◌, ◌++◌, ◌<◌, ◌∷◌, ◌≡◌}
use Rattle.tcp_relay.specs.Rests.{has_octets}
use Rattle.tcp_relay.specs.Seen.{IsLeast}
use Rattle.worker_ports.specs.declared.wires.WireStep.{WireStep}
use Rattle.worker_ports.specs.declared.wires.WireStep.TheVariants as step

front_append : (o : Option Event) (es fs : List Event) → in_front o (es ++ fs) ≡ in_front o es ++ fs
front_append None es fs = refl
front_append (Some e) es fs = refl

pub events_append : (xs ys : List WireStep) → events_in (xs ++ ys) ≡ events_in xs ++ events_in ys
events_append [] ys = refl
events_append (x ∷ xs) ys = ap (λ es. in_front (event_in x) es) (events_append xs ys) ∙ front_append (event_in x) (events_in xs) (events_in ys)

pub lines_append : (names : List (List ℕ)) (es fs : List Event) → lines_of names (es ++ fs) ≡ lines_of names es ++ lines_of names fs
lines_append names [] fs = refl
lines_append names (e ∷ es) fs =
    ap (λ (v : List ℕ). (event_spelling names e ++ newline) ++ v) (lines_append names es fs)
    ∙ sym (append_assoc (event_spelling names e ++ newline) (lines_of names es) (lines_of names fs))

pub shown_append : (es fs past : List Event) → shown_after (es ++ fs) past ≡ shown_after fs (shown_after es past)
shown_append [] fs past = refl
shown_append (e ∷ es) fs past = shown_append es fs (e ∷ past)

pub told_append : (xs ys : List WireStep) (told : Option (List WireStep)) → with_all (xs ++ ys) told ≡ with_all ys (with_all xs told)
told_append xs ys None = refl
told_append xs ys (Some b) = ap (λ (v : List WireStep). Some v) (sym (append_assoc b xs ys))

pub told_none : (told : Option (List WireStep)) → told ≡ with_all [] told
told_none None = refl
told_none (Some b) = ap (λ (v : List WireStep). Some v) (none b)
  where
    none : (xs : List WireStep) → xs ≡ xs ++ []
    none [] = refl
    none (x ∷ xs) = ap (λ (v : List WireStep). x ∷ v) (none xs)

module _ (limit : ℕ) where
  pub after_append : (xs ys : List WireStep) (h : Tape) → tape_after limit (xs ++ ys) h ≡ tape_after limit ys (tape_after limit xs h)
  after_append [] ys h = refl
  after_append (x ∷ xs) ys h = after_append xs ys (tape_with limit (event_in x) h)

  -- ---- offers
  pub offers_append : (past : ℕ) (xs ys : List WireStep) (h : Tape) → Offers limit past xs h → Offers limit (reached past xs) ys (tape_after limit xs h)
      → Offers limit past (xs ++ ys) h
  offers_append past [] ys h p q = q
  offers_append past (step.Gave w ∷ xs) ys h p q = absurd p
  offers_append past (step.Offered c piece n ∷ xs) ys h p q = (p.0, offers_append c xs ys (tape_with limit (event_taken c n) h) p.1 q)
  offers_append past (step.Closed c ∷ xs) ys h p q = (p.0, offers_append past xs ys h p.1 q)

  pub reached_append : (past : ℕ) (xs ys : List WireStep) → reached past (xs ++ ys) ≡ reached (reached past xs) ys
  reached_append past [] ys = refl
  reached_append past (step.Gave w ∷ xs) ys = reached_append past xs ys
  reached_append past (step.Offered c piece n ∷ xs) ys = reached_append c xs ys
  reached_append past (step.Closed c ∷ xs) ys = reached_append past xs ys

  -- closes alone
  pub closes_offers : (past : ℕ) (xs : List WireStep) (h : Tape) → AreCloses xs h → Offers limit past xs h
  closes_offers past [] h a = tt
  closes_offers past (step.Gave w ∷ xs) h a = absurd a
  closes_offers past (step.Offered c piece n ∷ xs) h a = absurd a
  closes_offers past (step.Closed c ∷ xs) h a = (a.0, closes_offers past xs h a.1)

  pub closes_after : (xs : List WireStep) (h : Tape) → AreCloses xs h → tape_after limit xs h ≡ h
  closes_after [] h a = refl
  closes_after (step.Gave w ∷ xs) h a = absurd a
  closes_after (step.Offered c piece n ∷ xs) h a = absurd a
  closes_after (step.Closed c ∷ xs) h a = closes_after xs h a.1

  pub closes_reached : (past : ℕ) (xs : List WireStep) (h : Tape) → AreCloses xs h → reached past xs ≡ past
  closes_reached past [] h a = refl
  closes_reached past (step.Gave w ∷ xs) h a = absurd a
  closes_reached past (step.Offered c piece n ∷ xs) h a = absurd a
  closes_reached past (step.Closed c ∷ xs) h a = closes_reached past xs h a.1

  -- one offer
  pub one_offer : (past c : ℕ) (xs : List WireStep) (h : Tape) → IsLeast (λ d. has_octets d h) past (Some c) → IsOfferTo limit c xs h → Offers limit past xs h
  one_offer past c [] h l o = tt
  one_offer past c (step.Gave w ∷ xs) h l o = absurd o
  one_offer past c (step.Closed d ∷ xs) h l o = absurd o
  one_offer past c (step.Offered d piece n ∷ xs) h l o =
      let p : IsPiece c d piece n h = o.0 in (
        record {
          next = subst (λ e. IsLeast (λ d. has_octets d h) past (Some e)) (sym p.is) l;
          some = p.some;
          front = subst (λ e. Rattle.tcp_relay.specs.Seen.IsFront (Rattle.relay_laws.specs.World.out e h) piece) (sym p.is) p.front;
          took = p.took;
        },
        closes_offers d xs (tape_with limit (event_taken d n) h) o.1,
      )

  pub one_reached : (past c : ℕ) (xs : List WireStep) (h : Tape) → 0 < length xs → IsOfferTo limit c xs h → reached past xs ≡ c
  one_reached past c [] h s o = absurd (omega (arith, s))
  one_reached past c (step.Gave w ∷ xs) h s o = absurd o
  one_reached past c (step.Closed d ∷ xs) h s o = absurd o
  one_reached past c (step.Offered d piece n ∷ xs) h s o = closes_reached d xs (tape_with limit (event_taken d n) h) o.1 ∙ o.0.is

  -- ---- turns
  pub turns_more : (ts : List (List WireStep)) (t : List WireStep) (h : Tape) → AreTurns limit ts h → IsTurn limit t (tape_after limit (joined ts) h)
      → AreTurns limit (ts ++ t ∷ []) h
  turns_more [] t h a i = (i, tt)
  turns_more (u ∷ ts) t h a i = (a.0, turns_more ts t (tape_after limit u h) a.1 (subst (λ v. IsTurn limit t v) (after_append u (joined ts) h) i))

pub closes_events : (xs : List WireStep) (h : Tape) → AreCloses xs h → events_in xs ≡ []
closes_events [] h a = refl
closes_events (step.Gave w ∷ xs) h a = absurd a
closes_events (step.Offered c piece n ∷ xs) h a = absurd a
closes_events (step.Closed c ∷ xs) h a = closes_events xs h a.1

pub closes_both : (xs ys : List WireStep) (h : Tape) → AreCloses xs h → AreCloses ys h → AreCloses (xs ++ ys) h
closes_both [] ys h a b = b
closes_both (step.Gave w ∷ xs) ys h a b = absurd a
closes_both (step.Offered c piece n ∷ xs) ys h a b = absurd a
closes_both (step.Closed c ∷ xs) ys h a b = (a.0, closes_both xs ys h a.1 b)

pub joined_more : (ts : List (List WireStep)) (t : List WireStep) → joined (ts ++ t ∷ []) ≡ joined ts ++ t
joined_more [] t = sym (none t)
  where
    none : (xs : List WireStep) → xs ≡ xs ++ []
    none [] = refl
    none (x ∷ xs) = ap (λ (v : List WireStep). x ∷ v) (none xs)
joined_more (u ∷ ts) t = ap (λ (v : List WireStep). u ++ v) (joined_more ts t) ∙ sym (append_assoc u (joined ts) t)

pub count_more : (ts : List (List WireStep)) (t : List WireStep) → length (ts ++ t ∷ []) ≡ length ts + 1
count_more [] t = refl
count_more (u ∷ ts) t = let i = count_more ts t in omega (arith, i)

pub none_more : (ts : List (List WireStep)) (t : List WireStep) → NoneStops ts → is_stop t ≡ false → NoneStops (ts ++ t ∷ [])
none_more [] t n e = (e, tt)
none_more (u ∷ ts) t n e = (n.0, none_more ts t n.1 e)

pub last_more : (ts : List (List WireStep)) (t : List WireStep) → NoneStops ts → is_stop t ≡ true → LastStops (ts ++ t ∷ [])
last_more [] t n e = e
last_more (u ∷ []) t n e = (n.0, e)
last_more (u ∷ v ∷ ts) t n e = (n.0, last_more (v ∷ ts) t n.1 e)
