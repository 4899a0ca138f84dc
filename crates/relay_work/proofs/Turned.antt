-- A turn from its parts, and turns behind turns.
use Rattle.relay_laws.specs.Pairs.{Tape}
use Rattle.relay_work.proofs.Joining.{cut_behind, then_cut, then_does}
use Rattle.relay_work.proofs.Once.{no_step}
use Rattle.relay_work.proofs.Steps.{after_append, closes_offers, closes_reached, count_more, joined_more, last_more, none_more, offers_append, one_offer, one_reached, reached_append, turns_more}
use Rattle.relay_work.specs.Belonging.{Belong, Belongs}
use Rattle.relay_work.specs.Events.{event_told, tape_after, tape_with}
use Rattle.relay_work.specs.Live.{Live}
use Rattle.relay_work.specs.Offering.{OffersAll, OffersAllCut, OffersAllFrom, OffersOne, OffersOneCut, OffersOneFrom, OffersSome, OffersSomeFrom, Waits}
use Rattle.relay_work.specs.Settling.{AreCloses}
use Rattle.relay_work.specs.Turning.{Answered, AnswersFrom, Turned, TurnedCut, TurnsFrom, Turning, TurningFrom}
use Rattle.relay_work.specs.Turns.{AreTurns, Begins, IsTurn, Offers, is_stop, joined, reached}
use Rattle.relay_work.specs.Works.{AllTurns, Does, Short, UntilStop, Works, WorksFrom}
use Rattle.relay_work.specs.declared.turns.RelayEnded.{RelayEnded}
use Rattle.std.proofs.Common.{ap, append_assoc, arith, inl, inr, refl, subst, sym, ◌∙◌}
use Rattle.std.specs.Prelude.{Bool, Err, List, None, Ok, Some, [], false, length, true, ℕ, ◌+◌, ◌++◌, ◌<◌, ◌∷◌, ◌≡◌, ◌⊎◌}
use Rattle.tcp_relay.specs.Rests.{ShowsOut, has_octets}
use Rattle.tcp_relay.specs.Seen.{IsLeast}
use Rattle.worker_ports.specs.declared.wires.WireStep.{WireStep}
use Rattle.worker_ports.specs.declared.wires.Wired.{Wired}
use Rattle.relay_work.specs.declared.turns.RelayEnded.TheVariants as ended
use Rattle.worker_ports.specs.declared.wires.WireStep.TheVariants as step

module _ (limit : ℕ) (names : List (List ℕ)) (h : Tape) where
  -- ---- offers
  pub offers_none : (old : Live) → Belong limit names old.relay old.seen h → OffersSome limit names h old 0 old
  offers_none old b = record { steps = []; are = tt; at = refl; does = no_step limit names h old b }

  module _ (old mid new : Live) (last c : ℕ) (s : OffersSome limit names h old last mid)
      (next : IsLeast (λ d. has_octets d (tape_after limit s.steps h)) last (Some c)) where
    from : IsLeast (λ d. has_octets d (tape_after limit s.steps h)) (reached 0 s.steps) (Some c)
    from = subst (λ n. IsLeast (λ d. has_octets d (tape_after limit s.steps h)) n (Some c)) (sym s.at) next

    pub offers_more : OffersOne limit names c (tape_after limit s.steps h) mid new → OffersSome limit names h old c new
    offers_more o = record {
      steps = s.steps ++ o.steps;
      are = offers_append limit 0 s.steps o.steps h s.are (one_offer limit (reached 0 s.steps) c o.steps (tape_after limit s.steps h) from o.is);
      at = reached_append limit 0 s.steps o.steps ∙ one_reached limit (reached 0 s.steps) c o.steps (tape_after limit s.steps h) o.some o.is;
      does = then_does limit names h old mid new s.steps s.does o.steps o.does;
    }

    pub offers_cut : (end : RelayEnded) → OffersOneCut limit names c (tape_after limit s.steps h) mid end new → OffersAllCut limit names h old end new
    offers_cut end o = record {
      cut = cut_behind limit names h old mid new s.steps s.does o.cut;
      are = subst (λ (v : List WireStep). Offers limit 0 v h) (sym (append_assoc s.steps o.cut.done o.cut.last))
          (offers_append limit 0 s.steps (o.cut.done ++ o.cut.last) h s.are
          (one_offer limit (reached 0 s.steps) c (o.cut.done ++ o.cut.last) (tape_after limit s.steps h) from o.is));
      does = then_cut limit names h old mid new s.steps s.does end o.cut o.does;
    }

  pub offers_all : (old new : Live) (last : ℕ) (s : OffersSome limit names h old last new)
      → IsLeast (λ d. has_octets d (tape_after limit s.steps h)) last None → OffersAll limit names h old new
  offers_all old new last s n = record {
    steps = s.steps;
    are = s.are;
    all = subst (λ m. IsLeast (λ d. has_octets d (tape_after limit s.steps h)) m None) (sym s.at) n;
    does = s.does;
  }

  -- ---- a turn: its answer, and its offers
  module _ (old mid new : Live) (w : Wired) (closes : List WireStep) (over : AreCloses closes (tape_with limit (event_told w) h))
      (does : Does limit names h old (step.Gave w ∷ closes) mid) where
    abbrev first : List WireStep
    first = step.Gave w ∷ closes

    begins : (more : List WireStep) → Offers limit 0 more (tape_after limit first h) → Begins limit (first ++ more) h
    begins more o = offers_append limit 0 closes more (tape_with limit (event_told w) h) (closes_offers limit 0 closes (tape_with limit (event_told w) h) over)
        (subst (λ n. Offers limit n more (tape_after limit closes (tape_with limit (event_told w) h))) (sym (closes_reached limit 0 closes (tape_with limit (event_told w) h) over)) o)

    reached_first : (more : List WireStep) → reached 0 (first ++ more) ≡ reached 0 more
    reached_first more = reached_append limit 0 closes more ∙ ap (λ n. reached n more) (closes_reached limit 0 closes (tape_with limit (event_told w) h) over)

    longer : (xs : List WireStep) → 0 < length (step.Gave w ∷ xs)
    longer xs = omega arith

    turn_is : (a : OffersAll limit names (tape_after limit first h) mid new) → IsTurn limit (first ++ a.steps) h
    turn_is a = record {
      begins = begins a.steps a.are;
      some = longer (closes ++ a.steps);
      all = subst (λ (v : Tape). IsLeast (λ d. has_octets d v) (reached 0 (first ++ a.steps)) None) (sym (after_append limit first a.steps h))
          (subst (λ n. IsLeast (λ d. has_octets d (tape_after limit a.steps (tape_after limit first h))) n None) (sym (reached_first a.steps)) a.all);
    }

    pub turned : (stops : Bool) → is_stop first ≡ stops → OffersAll limit names (tape_after limit first h) mid new → Turned limit names h old stops new
    turned stops e a = record {
      steps = first ++ a.steps;
      is = turn_is a;
      stop = e;
      does = then_does limit names h old mid new first does a.steps a.does;
    }

    pub turned_cut : (end : RelayEnded) → OffersAllCut limit names (tape_after limit first h) mid end new → TurnedCut limit names h old end new
    turned_cut end a = record {
      cut = cut_behind limit names h old mid new first does a.cut;
      begins = subst (λ (v : List WireStep). Begins limit v h) (sym (append_assoc first a.cut.done a.cut.last)) (begins (a.cut.done ++ a.cut.last) a.are);
      does = then_cut limit names h old mid new first does end a.cut a.does;
    }

  -- ---- turns
  pub turns_none : (old : Live) → Belong limit names old.relay old.seen h → Turning limit names h 0 old old
  turns_none old b = record { turns = []; are = tt; number = refl; none = tt; does = no_step limit names h old b }

  module _ (old mid new : Live) (n : ℕ) (s : Turning limit names h n old mid) where
    abbrev so_far : List WireStep
    so_far = joined s.turns

    module _ (stops : Bool) (t : Turned limit names (tape_after limit so_far h) mid stops new) where
      are_more : AreTurns limit (s.turns ++ t.steps ∷ []) h
      are_more = turns_more limit s.turns t.steps h s.are t.is

      does_more : Does limit names h old (joined (s.turns ++ t.steps ∷ [])) new
      does_more = subst (λ (v : List WireStep). Does limit names h old v new) (sym (joined_more s.turns t.steps))
          (then_does limit names h old mid new so_far s.does t.steps t.does)

      pub one_more : stops ≡ false → Turning limit names h (n + 1) old new
      one_more e = record {
        turns = s.turns ++ t.steps ∷ [];
        are = are_more;
        number = count_more s.turns t.steps ∙ ap (λ m. m + 1) s.number;
        none = none_more s.turns t.steps s.none (t.stop ∙ e);
        does = does_more;
      }

      pub stopped : (most : ℕ) → stops ≡ true → n < most → UntilStop limit names h most old new
      stopped most e l = record {
        whole = record { turns = s.turns ++ t.steps ∷ []; are = are_more; does = does_more };
        number = (let k : length (s.turns ++ t.steps ∷ []) ≡ n + 1 = count_more s.turns t.steps ∙ ap (λ m. m + 1) s.number in omega arith);
        last = last_more s.turns t.steps s.none (t.stop ∙ e);
      }

    pub cut_short : (end : RelayEnded) → TurnedCut limit names (tape_after limit so_far h) mid end new → Short limit names h old end new
    cut_short end t = record {
      turns = s.turns;
      part = t.cut.done;
      cut = cut_behind limit names h old mid new so_far s.does t.cut;
      is = refl;
      are = s.are;
      begins = t.begins;
      does = then_cut limit names h old mid new so_far s.does end t.cut t.does;
      none = s.none;
    }

  pub all_turns : (old new : Live) (n : ℕ) → Turning limit names h n old new → AllTurns limit names h n old new
  all_turns old new n s = record { whole = record { turns = s.turns; are = s.are; does = s.does }; number = s.number; none = s.none }

-- ---- as the calls tell it
pub offers_begin : (names : List (List ℕ)) (old : Live) → OffersSomeFrom names old 0 old
offers_begin names old = record { goes = λ limit h b. offers_none limit names h old b }

-- where octets wait for a connection, it may be offered them
pub waits : (names : List (List ℕ)) (old mid : Live) (last c : ℕ) → Belongs names old.relay old.seen → OffersSomeFrom names old last mid → ShowsOut mid.relay last (Some c)
    → Waits names mid.relay mid.seen c
waits names old mid last c b s o =
    let k : OffersSome b.limit names b.tape old last mid = s.goes b.limit b.tape b.belong in
    record {
      limit = b.limit;
      tape = tape_after b.limit k.steps b.tape;
      belong = k.does.belong;
      some = (o.goes b.limit names (tape_after b.limit k.steps b.tape) k.does.belong.rests).holds;
    }

pub rises : (names : List (List ℕ)) (old mid : Live) (last c : ℕ) → Belongs names old.relay old.seen → OffersSomeFrom names old last mid → ShowsOut mid.relay last (Some c) → last < c
rises names old mid last c b s o =
    let k : OffersSome b.limit names b.tape old last mid = s.goes b.limit b.tape b.belong in
    (o.goes b.limit names (tape_after b.limit k.steps b.tape) k.does.belong.rests).above

pub some_more : (names : List (List ℕ)) (old mid new : Live) (last c : ℕ) → OffersSomeFrom names old last mid → ShowsOut mid.relay last (Some c)
    → OffersOneFrom names c mid (Ok tt) new → OffersSomeFrom names old c new
some_more names old mid new last c s o k = record {
  goes = λ limit h b.
      let p : OffersSome limit names h old last mid = s.goes limit h b in
      let l : IsLeast (λ d. has_octets d (tape_after limit p.steps h)) last (Some c) = o.goes limit names (tape_after limit p.steps h) p.does.belong.rests in
      offers_more limit names h old mid new last c p l (k.goes limit (tape_after limit p.steps h) p.does.belong l.holds);
}

pub all_cut : (names : List (List ℕ)) (old mid new : Live) (last c : ℕ) (end : RelayEnded) → OffersSomeFrom names old last mid → ShowsOut mid.relay last (Some c)
    → OffersOneFrom names c mid (Err end) new → OffersAllFrom names old (Err end) new
all_cut names old mid new last c end s o k = record {
  goes = λ limit h b.
      let p : OffersSome limit names h old last mid = s.goes limit h b in
      let l : IsLeast (λ d. has_octets d (tape_after limit p.steps h)) last (Some c) = o.goes limit names (tape_after limit p.steps h) p.does.belong.rests in
      offers_cut limit names h old mid new last c p l end (k.goes limit (tape_after limit p.steps h) p.does.belong l.holds);
}

pub all_offered : (names : List (List ℕ)) (old new : Live) (last : ℕ) → OffersSomeFrom names old last new → ShowsOut new.relay last None → OffersAllFrom names old (Ok tt) new
all_offered names old new last s o = record {
  goes = λ limit h b.
      let p : OffersSome limit names h old last new = s.goes limit h b in
      offers_all limit names h old new last p (o.goes limit names (tape_after limit p.steps h) p.does.belong.rests);
}

-- ---- a turn
pub answered_belongs : (names : List (List ℕ)) (old mid : Live) (stops : Bool) → Belongs names old.relay old.seen → AnswersFrom names old (Ok stops) mid → Belongs names mid.relay mid.seen
answered_belongs names old mid stops b a =
    let k : Answered b.limit names b.tape old stops mid = a.goes b.limit b.tape b.belong in
    record { limit = b.limit; tape = tape_after b.limit (step.Gave k.wired ∷ k.closes) b.tape; belong = k.does.belong }

pub turn_cut_first : (names : List (List ℕ)) (old new : Live) (end : RelayEnded) → AnswersFrom names old (Err end) new → TurnsFrom names old (Err end) new
turn_cut_first names old new end a = record { goes = λ limit h b. a.goes limit h b }

pub turn_cut : (names : List (List ℕ)) (old mid new : Live) (stops : Bool) (end : RelayEnded) → AnswersFrom names old (Ok stops) mid → OffersAllFrom names mid (Err end) new
    → TurnsFrom names old (Err end) new
turn_cut names old mid new stops end a o = record {
  goes = λ limit h b.
      let k : Answered limit names h old stops mid = a.goes limit h b in
      turned_cut limit names h old mid new k.wired k.closes k.over k.does end (o.goes limit (tape_after limit (step.Gave k.wired ∷ k.closes) h) k.does.belong);
}

pub turn_whole : (names : List (List ℕ)) (old mid new : Live) (stops : Bool) → AnswersFrom names old (Ok stops) mid → OffersAllFrom names mid (Ok tt) new → TurnsFrom names old (Ok stops) new
turn_whole names old mid new stops a o = record {
  goes = λ limit h b.
      let k : Answered limit names h old stops mid = a.goes limit h b in
      turned limit names h old mid new k.wired k.closes k.over k.does stops k.stop (o.goes limit (tape_after limit (step.Gave k.wired ∷ k.closes) h) k.does.belong);
}

-- ---- turns
pub turning_begin : (names : List (List ℕ)) (old : Live) → TurningFrom names 0 old old
turning_begin names old = record { goes = λ limit h b. turns_none limit names h old b }

pub turning_belongs : (names : List (List ℕ)) (n : ℕ) (old mid : Live) → Belongs names old.relay old.seen → TurningFrom names n old mid → Belongs names mid.relay mid.seen
turning_belongs names n old mid b s =
    let k : Turning b.limit names b.tape n old mid = s.goes b.limit b.tape b.belong in
    record { limit = b.limit; tape = tape_after b.limit (joined k.turns) b.tape; belong = k.does.belong }

pub turning_more : (names : List (List ℕ)) (n : ℕ) (old mid new : Live) → TurningFrom names n old mid → (stops : Bool) → stops ≡ false → TurnsFrom names mid (Ok stops) new
    → TurningFrom names (n + 1) old new
turning_more names n old mid new s stops e t = record {
  goes = λ limit h b.
      let k : Turning limit names h n old mid = s.goes limit h b in
      one_more limit names h old mid new n k stops (t.goes limit (tape_after limit (joined k.turns) h) k.does.belong) e;
}

pub works_stopped : (names : List (List ℕ)) (n most : ℕ) (old mid new : Live) → TurningFrom names n old mid → (stops : Bool) → stops ≡ true → TurnsFrom names mid (Ok stops) new → n < most
    → WorksFrom names most old ended.Stopped new
works_stopped names n most old mid new s stops e t l = record {
  goes = λ limit h b.
      let k : Turning limit names h n old mid = s.goes limit h b in
      stopped limit names h old mid new n k stops (t.goes limit (tape_after limit (joined k.turns) h) k.does.belong) most e l;
}

pub works_turns : (names : List (List ℕ)) (n most : ℕ) (old new : Live) → TurningFrom names n old new → n ≡ most → WorksFrom names most old ended.Turns new
works_turns names n most old new s e = record { goes = λ limit h b. subst (λ m. AllTurns limit names h m old new) e (all_turns limit names h old new n (s.goes limit h b)) }

works_as : (limit : ℕ) (names : List (List ℕ)) (h : Tape) (most : ℕ) (old new : Live) (end : RelayEnded) → Short limit names h old end new → Works limit names h most old end new
works_as limit names h most old new ended.Turns s = absurd s.does.ends
works_as limit names h most old new ended.Stopped s = absurd s.does.ends
works_as limit names h most old new ended.TapsFault s = s
works_as limit names h most old new ended.JournalFault s = s
works_as limit names h most old new ended.Memory s = s

pub works_cut : (names : List (List ℕ)) (n most : ℕ) (old mid new : Live) (end : RelayEnded) → TurningFrom names n old mid → TurnsFrom names mid (Err end) new
    → WorksFrom names most old end new
works_cut names n most old mid new end s t = record {
  goes = λ limit h b.
      let k : Turning limit names h n old mid = s.goes limit h b in
      works_as limit names h most old new end (cut_short limit names h old mid new n k end (t.goes limit (tape_after limit (joined k.turns) h) k.does.belong));
}

-- ---- after whole turns they belong together again
works_belong : (limit : ℕ) (names : List (List ℕ)) (h : Tape) (n : ℕ) (old : Live) (end : RelayEnded) (new : Live) → Works limit names h n old end new
    → (end ≡ ended.Turns) ⊎ (end ≡ ended.Stopped) → Belongs names new.relay new.seen
works_belong limit names h n old ended.Turns new w s = record { limit = limit; tape = tape_after limit (joined w.whole.turns) h; belong = w.whole.does.belong }
works_belong limit names h n old ended.Stopped new w s = record { limit = limit; tape = tape_after limit (joined w.whole.turns) h; belong = w.whole.does.belong }
works_belong limit names h n old ended.TapsFault new w (inl e) = cc
works_belong limit names h n old ended.TapsFault new w (inr e) = cc
works_belong limit names h n old ended.JournalFault new w (inl e) = cc
works_belong limit names h n old ended.JournalFault new w (inr e) = cc
works_belong limit names h n old ended.Memory new w (inl e) = cc
works_belong limit names h n old ended.Memory new w (inr e) = cc

pub belongs_again : (names : List (List ℕ)) (n : ℕ) (old : Live) (end : RelayEnded) (new : Live) → Belongs names old.relay old.seen → WorksFrom names n old end new
    → (end ≡ ended.Turns) ⊎ (end ≡ ended.Stopped) → Belongs names new.relay new.seen
belongs_again names n old end new b w s = works_belong b.limit names b.tape n old end new (w.goes b.limit b.tape b.belong) s
