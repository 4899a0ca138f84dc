-- Octets leave, as the tape and as the connections show it.
use Rattle.flow_notes.specs.declared.notes.Note.{Note}
use Rattle.relay_laws.specs.Dispatch.{dispatch_notes}
use Rattle.relay_laws.specs.Pairs.{Tape, feed, free, is_open}
use Rattle.relay_laws.specs.Sound.{IsSound}
use Rattle.relay_laws.specs.Watermark.{above}
use Rattle.relay_laws.specs.World.{out}
use Rattle.relay_laws.specs.declared.Feed.{Feed}
use Rattle.std.proofs.Common.{ap, arith, refl, subst, sym, ◌∙◌}
use Rattle.std.proofs.lemmas.Bool.Decides.{nat_tests}
use Rattle.std.specs.Prelude.{Bool, List, None, Option, Some, [], drop, false, if◌then◌else◌, length, min, nat_lt, not, option_map, true, ℕ, ◌&&◌, ◌++◌, ◌==◌, ◌∷◌, ◌≡◌}
use Rattle.tape_laws.specs.Dispatches.{has}
use Rattle.tape_laws.specs.History.{Noted, onto}
use Rattle.tcp_relay.proofs.Boards.{board_close_if, board_resumed, board_same, close_at, dropped_if, line_same, onto_append, seen_same}
use Rattle.tcp_relay.proofs.Flags.{above_same}
use Rattle.tcp_relay.proofs.Lists.{all_other, filter_none}
use Rattle.tcp_relay.proofs.Shapes.{close_if, leaves_none, leaves_some, low, resume_if, turn_of}
use Rattle.tcp_relay.proofs.Tests.{by_case, if_false, if_true, not_both, number_is, same_number}
use Rattle.tcp_relay.specs.Board.{change, is_over, left, left_as, put, resumed_flow}
use Rattle.tcp_relay.specs.Effects.{notes_of, resume_of}
use Rattle.tcp_relay.specs.Lines.{dropped, holding, taken_of}
use Rattle.tcp_relay.specs.Stands.{line_if, line_of, tape_board}
use Rattle.tcp_relay.specs.Ties.{Tied}
use Rattle.tcp_relay.specs.declared.conns.Taken.{Taken}
use Rattle.wm_buffer.specs.Watermark.{above_after}
use Rattle.flow_notes.specs.declared.events.Event.TheVariants as event
use Rattle.flow_notes.specs.declared.notes.Note.TheVariants as note

-- ---- what is told of one connection
taken_none : (n : ℕ) (o : Bool) (x : List ℕ) (l : ℕ) (a : Bool) (f : Option Feed) → (min n (length x) == 0) ≡ true → taken_of n (line_if o x l a f) ≡ None
taken_none n true x l a f e = if_true (min n (length x) == 0) None _ e
taken_none n false x l a f e = refl

abbrev told : ℕ → List ℕ → ℕ → Bool → Option Feed → Taken
told n x l a f = record {
  n = min n (length x);
  drained = a && not (above_after l a (length (drop (min n (length x)) x)));
  is_empty = length (drop (min n (length x)) x) == 0;
  feeds = f;
}

taken_some : (n : ℕ) (x : List ℕ) (l : ℕ) (a : Bool) (f : Option Feed) → (min n (length x) == 0) ≡ false → taken_of n (line_if true x l a f) ≡ Some (told n x l a f)
taken_some n x l a f e =
    ap (λ b. if b then None else Some (record {
      n = min n (length x);
      drained = a && not (if b then record { octets = x; limit = l; above = a; feeds = f } else holding (drop (min n (length x)) x) (record { octets = x; limit = l; above = a; feeds = f })).above;
      is_empty = length (if b then record { octets = x; limit = l; above = a; feeds = f } else holding (drop (min n (length x)) x) (record { octets = x; limit = l; above = a; feeds = f })).octets == 0;
      feeds = f;
    })) e

resumed_same : (o : Option Feed) (b : Bool) (c : ℕ) → resume_of (resumed_flow o b) c ≡ resume_if b o c
resumed_same None b c = refl
resumed_same (Some f) true c = refl
resumed_same (Some f) false c = refl

none_leave : (n : ℕ) → (min n 0 == 0) ≡ true
none_leave n = grind (arith, nat_tests)

not_some : (m : ℕ) → (m == 0) ≡ true → nat_lt 0 m ≡ false
not_some m e = grind (arith, nat_tests)

is_some_left : (m : ℕ) → (m == 0) ≡ false → nat_lt 0 m ≡ true
is_some_left m e = grind (arith, nat_tests)

some_there : (n l : ℕ) → (min n l == 0) ≡ false → nat_lt 0 l ≡ true
some_there n l e = grind (arith, nat_tests)

waits_still : (k l : ℕ) → nat_lt 0 l ≡ true → nat_lt 0 k ≡ (if k == 0 then false else nat_lt 0 l)
waits_still k l e = by_case (k == 0)
    (λ t. not_some k t ∙ sym (if_true (k == 0) false (nat_lt 0 l) t))
    (λ n. is_some_left k n ∙ sym e ∙ sym (if_false (k == 0) false (nat_lt 0 l) n))

module _ (limit c n : ℕ) (h : Tape) (s : IsSound h) where
  abbrev m : ℕ
  m = min n (length (out c h))

  abbrev turned : Tape
  turned = Noted (turn_of limit h (event.Room c n)) ∷ h

  same_turned : tape_board limit turned ≡ tape_board limit h
  same_turned = board_same limit (Noted (turn_of limit h (event.Room c n))) h refl refl (λ d. refl) (λ d. refl) (λ d. refl)

  pub tied_stays : (m == 0) ≡ true → Tied limit (event.Room c n) h
  tied_stays e =
      let none : taken_of n (line_of limit c h) ≡ None = taken_none n (is_open c h) (out c h) limit (above limit c h) (feed c h) e in
      let notes : dispatch_notes limit (event.Room c n) h ≡ turn_of limit h (event.Room c n) ∷ [] = leaves_none limit h c n (not_some m e) in
      record {
        notes = notes ∙ sym (ap (λ (o : Option Taken). turn_of limit h (event.Room c n) ∷ notes_of (event.Room c n) (left_as c o)) none);
        board = ap (λ (ns : List Note). tape_board limit (onto ns h)) notes ∙ same_turned
            ∙ sym (ap (λ (o : Option Taken). left c n o (tape_board limit h)) none);
      }

  module _ (e : (m == 0) ≡ false) where
    abbrev gone : Tape
    gone = Noted (note.Out c m) ∷ turned

    abbrev t : Taken
    t = told n (out c h) limit (above limit c h) (feed c h)

    opened : is_open c h ≡ true
    opened = by_case (is_open c h) (λ y. y)
        (λ y. not_both (m == 0) (ap (λ (v : List ℕ). min n (length v) == 0) (s.done c y).out ∙ none_leave n) e)

    not_free : has (free h) c ≡ false
    not_free = by_case (has (free h) c)
        (λ y. not_both (m == 0) (ap (λ (v : List ℕ). min n (length v) == 0) (s.unpaired c y).out ∙ none_leave n) e)
        (λ y. y)

    takes : taken_of n (line_of limit c h) ≡ Some t
    takes = ap (λ o. taken_of n (line_if o (out c h) limit (above limit c h) (feed c h))) opened ∙ taken_some n (out c h) limit (above limit c h) (feed c h) e

    out_at : out c gone ≡ drop m (out c h)
    out_at = ap (λ b. drop (if b then m else 0) (out c h)) (same_number c)

    out_other : (d : ℕ) → (c == d) ≡ false → out d gone ≡ out d h
    out_other d y = ap (λ b. drop (if b then m else 0) (out d h)) y

    above_at : above limit c gone ≡ above_after limit (above limit c h) (length (drop m (out c h)))
    above_at = λ i. above_after limit (above_same limit c (Noted (turn_of limit h (event.Room c n))) h refl i) (length (out_at i))

    falls : low limit h c n m ≡ t.drained
    falls = λ i. above_same limit c (Noted (turn_of limit h (event.Room c n))) h refl i && not (above_at i)

    line_at : line_of limit c gone ≡ option_map (dropped n) (line_of limit c h)
    line_at = (λ i. line_if (is_open c h) (out_at i) limit (above_at i) (feed c h))
        ∙ sym (dropped_if n (is_open c h) (out c h) limit (above limit c h) (feed c h) e)

    line_other : (d : ℕ) → (c == d) ≡ false → line_of limit d gone ≡ line_of limit d h
    line_other d y = line_same limit (Noted (note.Out c m)) turned d refl (out_other d y) refl
        ∙ line_same limit (Noted (turn_of limit h (event.Room c n))) h d refl refl refl

    waits_at : nat_lt 0 (length (out c gone)) ≡ (if t.is_empty then false else nat_lt 0 (length (out c h)))
    waits_at = ap (λ (v : List ℕ). nat_lt 0 (length v)) out_at ∙ waits_still (length (drop m (out c h))) (length (out c h)) (some_there n (length (out c h)) e)

    waits : (d : ℕ) → nat_lt 0 (length (out d gone)) ≡ change c (λ w. if t.is_empty then false else w) (λ x. nat_lt 0 (length (out x h))) d
    waits d = by_case (c == d)
        (λ y. subst (λ x. nat_lt 0 (length (out x gone)) ≡ (if t.is_empty then false else nat_lt 0 (length (out x h)))) (number_is c d y) waits_at
        ∙ sym (if_true (c == d) (if t.is_empty then false else nat_lt 0 (length (out d h))) (nat_lt 0 (length (out d h))) y))
        (λ y. ap (λ (v : List ℕ). nat_lt 0 (length v)) (out_other d y)
        ∙ sym (if_false (c == d) (if t.is_empty then false else nat_lt 0 (length (out d h))) (nat_lt 0 (length (out d h))) y))

    -- it goes on, or it is closed
    lines_on : (d : ℕ) → line_of limit d gone ≡ change c (option_map (dropped n)) (λ x. line_of limit x h) d
    lines_on d = by_case (c == d)
        (λ y. subst (λ x. line_of limit x gone ≡ option_map (dropped n) (line_of limit x h)) (number_is c d y) line_at
        ∙ sym (if_true (c == d) (option_map (dropped n) (line_of limit d h)) (line_of limit d h) y))
        (λ y. line_other d y ∙ sym (if_false (c == d) (option_map (dropped n) (line_of limit d h)) (line_of limit d h) y))

    lines_closed : (d : ℕ) → put c None (λ x. line_of limit x gone) d ≡ change c (λ line. None) (λ x. line_of limit x h) d
    lines_closed d = by_case (c == d)
        (λ y. if_true (c == d) None (line_of limit d gone) y ∙ sym (if_true (c == d) None (line_of limit d h) y))
        (λ y. if_false (c == d) None (line_of limit d gone) y ∙ line_other d y ∙ sym (if_false (c == d) None (line_of limit d h) y))

    after : (z : Bool) → is_over t ≡ z → (if z then close_at c (tape_board limit gone) else tape_board limit gone) ≡ left c n (Some t) (tape_board limit h)
    after true y =
        seen_same _ _ (record { limit = refl; pairs = refl; free = filter_none (free h) c (all_other (free h) c not_free); lines = lines_closed; waits = waits })
        ∙ sym (ap (λ z. record (tape_board limit h) {
          lines = change c (λ line. if z then None else option_map (dropped n) line) (tape_board limit h).lines;
          waits = change c (λ w. if t.is_empty then false else w) (tape_board limit h).waits;
        }) y)
    after false y =
        seen_same _ _ (record { limit = refl; pairs = refl; free = refl; lines = lines_on; waits = waits })
        ∙ sym (ap (λ z. record (tape_board limit h) {
          lines = change c (λ line. if z then None else option_map (dropped n) line) (tape_board limit h).lines;
          waits = change c (λ w. if t.is_empty then false else w) (tape_board limit h).waits;
        }) y)

    shape : dispatch_notes limit (event.Room c n) h
        ≡ turn_of limit h (event.Room c n) ∷ note.Out c m ∷ resume_if (low limit h c n m) (feed c h) c ++ close_if (is_over t) c
    shape = leaves_some limit h c n m refl (is_some_left m e)

    pub tied_leaves : Tied limit (event.Room c n) h
    tied_leaves = record {
      notes = shape
          ∙ (λ i. turn_of limit h (event.Room c n) ∷ note.Out c m ∷ resume_if (falls i) (feed c h) c ++ close_if (is_over t) c)
          ∙ (λ i. turn_of limit h (event.Room c n) ∷ note.Out c m ∷ sym (resumed_same (feed c h) t.drained c) i ++ close_if (is_over t) c)
          ∙ sym (ap (λ (o : Option Taken). turn_of limit h (event.Room c n) ∷ notes_of (event.Room c n) (left_as c o)) takes);
      board = ap (λ (ns : List Note). tape_board limit (onto ns h)) shape
          ∙ ap (λ v. tape_board limit v) (onto_append (resume_if (low limit h c n m) (feed c h) c) (close_if (is_over t) c) gone)
          ∙ board_close_if limit c (is_over t) (onto (resume_if (low limit h c n m) (feed c h) c) gone)
          ∙ ap (λ b. if is_over t then close_at c b else b) (board_resumed limit c (low limit h c n m) (feed c h) gone)
          ∙ after (is_over t) refl
          ∙ sym (ap (λ (o : Option Taken). left c n o (tape_board limit h)) takes);
    }

  pub tied_room : Tied limit (event.Room c n) h
  tied_room = by_case (m == 0) tied_stays tied_leaves
