-- A connection is lost, as the tape and as the connections show it.
use Rattle.flow_rules.specs.declared.ids.FlowId.{FlowId}
use Rattle.flow_notes.specs.declared.notes.Note.{Note}
use Rattle.relay_laws.specs.Dispatch.{dispatch_notes}
use Rattle.relay_laws.specs.Pairs.{Tape, feed, free, goes_to, is_open, opposite, unless_doomed}
use Rattle.relay_laws.specs.Sound.{IsPaired, IsSound}
use Rattle.relay_laws.specs.Watermark.{above}
use Rattle.relay_laws.specs.World.{out}
use Rattle.relay_laws.specs.declared.Feed.{Feed}
use Rattle.std.proofs.Common.{ap, refl, subst, sym, ◌∙◌}
use Rattle.std.proofs.lemmas.Option.{same_Some}
use Rattle.std.specs.Prelude.{Bool, List, None, Option, Some, [], false, filter, if◌then◌else◌, length, nat_lt, not, option_map, true, ℕ, ◌&&◌, ◌==◌, ◌∷◌, ◌≡◌}
use Rattle.tape_laws.specs.Dispatches.{has}
use Rattle.tape_laws.specs.History.{Noted, onto}
use Rattle.tcp_relay.proofs.Boards.{board_close_if, close_at, fed_if, line_same, seen_same}
use Rattle.tcp_relay.proofs.Flags.{above_same}
use Rattle.tcp_relay.proofs.Lists.{all_other, filter_none, has_left, remove_rest}
use Rattle.tcp_relay.proofs.Shapes.{close_if, loses_alone, loses_nothing, loses_pair, turn_of}
use Rattle.tcp_relay.proofs.Tests.{by_case, by_option, if_false, if_some, if_true, no_some, not_both, number_is, same_number}
use Rattle.tcp_relay.specs.Board.{change, lost, lost_as, parted, parted_from, put, without}
use Rattle.tcp_relay.specs.Effects.{notes_of}
use Rattle.tcp_relay.specs.Lines.{Line, fed, is_idle_at}
use Rattle.tcp_relay.specs.Stands.{line_if, line_of, tape_board}
use Rattle.tcp_relay.specs.Ties.{Tied}
use Rattle.flow_notes.specs.declared.events.Event.TheVariants as event
use Rattle.flow_rules.specs.declared.causes.Cause.TheVariants as cause
use Rattle.flow_notes.specs.declared.notes.CloseCause.TheVariants as closed
use Rattle.flow_notes.specs.declared.notes.Note.TheVariants as note

-- ---- a flow and the opposite one
side_differs : (b : Bool) {A : Type 0} → b ≡ not b → A
side_differs true e = cc
side_differs false e = cc

same_side : (x : ℕ) (f g : FlowId) → f.exchange ≡ x → g.exchange ≡ x → f.back ≡ g.back → f ≡ g
same_side x f g e k b = λ i. record { exchange = (e ∙ sym k) i; back = b i }

-- two flows of one exchange are the same, or opposite
by_side : {A : Type 0} (b d : Bool) → (b ≡ d → A) → (not b ≡ d → A) → A
by_side true true f g = f refl
by_side true false f g = g refl
by_side false true f g = g refl
by_side false false f g = f refl

module _ (limit c : ℕ) (h : Tape) (s : IsSound h) where
  abbrev turned : Tape
  turned = Noted (turn_of limit h (event.Gone c)) ∷ h

  -- ---- it wasn't open
  pub tied_nothing : is_open c h ≡ false → Tied limit (event.Gone c) h
  tied_nothing o =
      let none : line_of limit c h ≡ None = ap (λ b. line_if b (out c h) limit (above limit c h) (feed c h)) o in
      let notes : dispatch_notes limit (event.Gone c) h ≡ turn_of limit h (event.Gone c) ∷ [] = loses_nothing limit h c o (s.done c o).feed in
      record {
        notes = notes ∙ sym (ap (λ (l : Option Line). turn_of limit h (event.Gone c) ∷ notes_of (event.Gone c) (lost_as c l (tape_board limit h))) none);
        board = ap (λ (ns : List Note). tape_board limit (onto ns h)) notes
            ∙ seen_same _ _ (record { limit = refl; pairs = refl; free = refl; lines = λ d. line_same limit (Noted (turn_of limit h (event.Gone c))) h d refl refl refl; waits = λ d. refl })
            ∙ sym (ap (λ (l : Option Line). lost c l (tape_board limit h)) none);
      }

  -- ---- it was
  abbrev was_lost : Tape
  was_lost = Noted (note.Close c 0 closed.Lost) ∷ turned

  out_lost : (d : ℕ) → (c == d) ≡ false → out d was_lost ≡ out d h
  out_lost d n = ap (λ b. if b then [] else out d h) n

  lost_line : (d : ℕ) → line_of limit d was_lost ≡ put c None (λ x. line_of limit x h) d
  lost_line d = by_case (c == d)
      (λ t. ap (λ b. line_if (not b && is_open d h) (out d was_lost) limit (above limit d was_lost) (feed d h)) t
      ∙ sym (if_true (c == d) None (line_of limit d h) t))
      (λ n. line_same limit (Noted (note.Close c 0 closed.Lost)) turned d (ap (λ b. not b && is_open d h) n) (out_lost d n) refl
      ∙ line_same limit (Noted (turn_of limit h (event.Gone c))) h d refl refl refl
      ∙ sym (if_false (c == d) None (line_of limit d h) n))

  lost_waits : (d : ℕ) → nat_lt 0 (length (out d was_lost)) ≡ put c false (λ x. nat_lt 0 (length (out x h))) d
  lost_waits d = by_case (c == d)
      (λ t. ap (λ b. nat_lt 0 (length (if b then [] else out d h))) t ∙ sym (if_true (c == d) false (nat_lt 0 (length (out d h))) t))
      (λ n. ap (λ (v : List ℕ). nat_lt 0 (length v)) (out_lost d n) ∙ sym (if_false (c == d) false (nat_lt 0 (length (out d h))) n))

  lost_board : tape_board limit was_lost ≡ without c (tape_board limit h)
  lost_board = seen_same _ _ (record { limit = refl; pairs = refl; free = sym (remove_rest (free h) c s.rises); lines = lost_line; waits = lost_waits })

  module _ (o : is_open c h ≡ true) where
    abbrev line : Option Feed → Line
    line f = record { octets = out c h; limit = limit; above = above limit c h; feeds = f }

    seen : (f : Option Feed) → feed c h ≡ f → line_of limit c h ≡ Some (line f)
    seen f e = λ i. line_if (o i) (out c h) limit (above limit c h) (e i)

    pub tied_alone : feed c h ≡ None → Tied limit (event.Gone c) h
    tied_alone e = record {
      notes = loses_alone limit h c o e
          ∙ sym (ap (λ (l : Option Line). turn_of limit h (event.Gone c) ∷ notes_of (event.Gone c) (lost_as c l (tape_board limit h))) (seen None e));
      board = ap (λ (ns : List Note). tape_board limit (onto ns h)) (loses_alone limit h c o e)
          ∙ lost_board ∙ sym (ap (λ (l : Option Line). lost c l (tape_board limit h)) (seen None e));
    }

    module _ (f : Feed) (e : feed c h ≡ Some f) where
      abbrev x : ℕ
      x = f.flow.exchange

      abbrev doomed : Tape
      doomed = Noted (note.Doom x (cause.ConnLost c)) ∷ was_lost

      abbrev swept : Tape
      swept = Noted (note.Gone x) ∷ doomed

      pair : IsPaired h c f
      pair = if_some (feed c h) (IsPaired h c) f e (s.paired c)

      back : IsPaired h f.to (record { flow = opposite f.flow; to = c })
      back = if_some (feed f.to h) (IsPaired h f.to) (record { flow = opposite f.flow; to = c }) pair.back (s.paired f.to)

      -- the two are two
      other : (c == f.to) ≡ false
      other = by_case (c == f.to)
          (λ t. side_differs f.flow.back
          (ap (λ (g : Feed). g.flow.back) (same_Some _ _ (sym e ∙ ap (λ y. feed y h) (number_is c f.to t) ∙ pair.back))))
          (λ n. n)

      -- no third connection is in this pair
      third : (d : ℕ) (g : Feed) → feed d h ≡ Some g → (c == d) ≡ false → (f.to == d) ≡ false → (g.flow.exchange == x) ≡ false
      third d g k n m = by_case (g.flow.exchange == x)
          (λ t. by_side g.flow.back f.flow.back
          (λ b. not_both (c == d) (subst (λ y. (c == y) ≡ true)
          (same_Some c d (sym pair.comes ∙ ap (λ v. goes_to (opposite v) h) (sym (same_side x g.flow f.flow (number_is g.flow.exchange x t) refl b)) ∙ at.comes)) (same_number c)) n)
          (λ b. not_both (f.to == d) (subst (λ y. (f.to == y) ≡ true)
          (same_Some f.to d (sym pair.goes ∙ ap (λ v. goes_to v h) (sym (same_side x (opposite g.flow) f.flow (number_is g.flow.exchange x t) refl b)) ∙ at.comes)) (same_number f.to)) m))
          (λ y. y)
        where
          at : IsPaired h d g
          at = if_some (feed d h) (IsPaired h d) g k (s.paired d)

      feeds_other : (d : ℕ) → (c == d) ≡ false → (f.to == d) ≡ false → feed d swept ≡ feed d h
      feeds_other d n m = by_option (feed d h)
          (λ k. ap (λ v. unless_doomed x v) k ∙ sym k)
          (λ g k. ap (λ v. unless_doomed x v) k ∙ ap (λ b. if b then None else Some g) (third d g k n m) ∙ sym k)

      feeds_partner : feed f.to swept ≡ None
      feeds_partner = ap (λ v. unless_doomed x v) pair.back ∙ ap (λ b. if b then None else Some (record { flow = opposite f.flow; to = c })) (same_number x)

      abbrev lines_left : ℕ → Option Line
      lines_left = put c None (λ y. line_of limit y h)

      -- the other one feeds nothing
      doomed_line : (d : ℕ) → feed d swept ≡ feed d h → line_of limit d swept ≡ line_of limit d was_lost
      doomed_line d k = line_same limit (Noted (note.Gone x)) doomed d refl refl refl
          ∙ line_same limit (Noted (note.Doom x (cause.ConnLost c))) was_lost d refl refl k

      partner_line : line_of limit f.to swept ≡ option_map (fed None) (lines_left f.to)
      partner_line =
          line_same limit (Noted (note.Gone x)) doomed f.to refl refl refl
          ∙ (λ i. line_if (is_open f.to was_lost) (out f.to was_lost) limit (above_doomed i) (feeds_partner i))
          ∙ sym (fed_if None (is_open f.to was_lost) (out f.to was_lost) limit (above limit f.to was_lost) (feed f.to was_lost))
          ∙ ap (λ l. option_map (fed None) l) (lost_line f.to)
        where
          above_doomed : above limit f.to doomed ≡ above limit f.to was_lost
          above_doomed = above_same limit f.to (Noted (note.Doom x (cause.ConnLost c))) was_lost refl

      gone_line : line_of limit c swept ≡ None
      gone_line = ap (λ b. line_if (not b && is_open c h) (out c swept) limit (above limit c swept) (feed c swept)) (same_number c)

      parted_lines : (d : ℕ) → line_of limit d swept ≡ change f.to (option_map (fed None)) lines_left d
      parted_lines d = by_case (f.to == d)
          (λ t. subst (λ y. line_of limit y swept ≡ option_map (fed None) (lines_left y)) (number_is f.to d t) partner_line
          ∙ sym (if_true (f.to == d) (option_map (fed None) (lines_left d)) (lines_left d) t))
          (λ m. by_case (c == d)
          (λ t. subst (λ y. line_of limit y swept ≡ None) (number_is c d t) gone_line
          ∙ sym (if_true (c == d) None (line_of limit d h) t) ∙ sym (if_false (f.to == d) (option_map (fed None) (lines_left d)) (lines_left d) m))
          (λ n. doomed_line d (feeds_other d n m) ∙ lost_line d
          ∙ sym (if_false (f.to == d) (option_map (fed None) (lines_left d)) (lines_left d) m)))

      parted_board : tape_board limit swept ≡ record (without c (tape_board limit h)) { lines = change f.to (option_map (fed None)) lines_left }
      parted_board = seen_same _ _ (record {
        limit = refl;
        pairs = refl;
        free = sym (remove_rest (free h) c s.rises);
        lines = parted_lines;
        waits = lost_waits;
      })

      -- nothing waits for it, or something does
      partner_left : lines_left f.to ≡ Some (record { octets = out f.to h; limit = limit; above = above limit f.to h; feeds = feed f.to h })
      partner_left = if_false (c == f.to) None (line_of limit f.to h) other ∙ ap (λ b. line_if b (out f.to h) limit (above limit f.to h) (feed f.to h)) back.opened

      idle : is_idle_at (lines_left f.to) ≡ (length (out f.to h) == 0)
      idle = ap (λ l. is_idle_at l) partner_left

      not_free : has (free h) f.to ≡ false
      not_free = by_case (has (free h) f.to) (λ t. no_some (feed f.to h) (record { flow = opposite f.flow; to = c }) (s.unpaired f.to t).feed pair.back) (λ n. n)

      ended_lines : (z : Bool) → is_idle_at (lines_left f.to) ≡ z
          → (d : ℕ) → (if z then put f.to None (change f.to (option_map (fed None)) lines_left) else change f.to (option_map (fed None)) lines_left) d ≡ change f.to parted lines_left d
      ended_lines true y d = by_case (f.to == d)
          (λ t. if_true (f.to == d) None (change f.to (option_map (fed None)) lines_left d) t
          ∙ sym (if_true (f.to == d) (parted (lines_left d)) (lines_left d) t
          ∙ subst (λ v. parted (lines_left v) ≡ None) (number_is f.to d t) (ap (λ b. if b then None else option_map (fed None) (lines_left f.to)) y)))
          (λ n. if_false (f.to == d) None (change f.to (option_map (fed None)) lines_left d) n
          ∙ if_false (f.to == d) (option_map (fed None) (lines_left d)) (lines_left d) n
          ∙ sym (if_false (f.to == d) (parted (lines_left d)) (lines_left d) n))
      ended_lines false y d = by_case (f.to == d)
          (λ t. if_true (f.to == d) (option_map (fed None) (lines_left d)) (lines_left d) t
          ∙ sym (if_true (f.to == d) (parted (lines_left d)) (lines_left d) t
          ∙ subst (λ v. parted (lines_left v) ≡ option_map (fed None) (lines_left v)) (number_is f.to d t) (ap (λ b. if b then None else option_map (fed None) (lines_left f.to)) y)))
          (λ n. if_false (f.to == d) (option_map (fed None) (lines_left d)) (lines_left d) n
          ∙ sym (if_false (f.to == d) (parted (lines_left d)) (lines_left d) n))

      ended_board : (z : Bool) → is_idle_at (lines_left f.to) ≡ z
          → (if z then close_at f.to (tape_board limit swept) else tape_board limit swept) ≡ parted_from (Some f) (without c (tape_board limit h))
      ended_board true y = ap (λ b. close_at f.to b) parted_board
          ∙ seen_same _ _ (record {
            limit = refl;
            pairs = refl;
            free = ap (λ v. filter (λ z. not (z == f.to)) v) (remove_rest (free h) c s.rises)
                ∙ filter_none (filter (λ z. not (z == c)) (free h)) f.to (all_other (filter (λ z. not (z == c)) (free h)) f.to not_left)
                ∙ sym (remove_rest (free h) c s.rises);
            lines = ended_lines true y;
            waits = λ d. refl;
          })
        where
          not_left : has (filter (λ z. not (z == c)) (free h)) f.to ≡ false
          not_left = by_case (has (filter (λ z. not (z == c)) (free h)) f.to)
              (λ t. not_both (has (free h) f.to) (has_left (free h) c f.to t) not_free) (λ n. n)
      ended_board false y = parted_board
          ∙ seen_same _ _ (record { limit = refl; pairs = refl; free = refl; lines = ended_lines false y; waits = λ d. refl })

      shape : dispatch_notes limit (event.Gone c) h
          ≡ turn_of limit h (event.Gone c) ∷ note.Close c 0 closed.Lost ∷ note.Doom x (cause.ConnLost c) ∷ note.Gone x ∷ close_if (length (out f.to h) == 0) f.to
      shape = loses_pair limit h c f o e

      pub tied_pair : Tied limit (event.Gone c) h
      tied_pair = record {
        notes = shape
            ∙ ap (λ b. turn_of limit h (event.Gone c) ∷ note.Close c 0 closed.Lost ∷ note.Doom x (cause.ConnLost c) ∷ note.Gone x ∷ close_if b f.to) (sym idle)
            ∙ sym (ap (λ (l : Option Line). turn_of limit h (event.Gone c) ∷ notes_of (event.Gone c) (lost_as c l (tape_board limit h))) (seen (Some f) e));
        board = ap (λ (ns : List Note). tape_board limit (onto ns h)) shape
            ∙ ap (λ b. tape_board limit (onto (close_if b f.to) swept)) (sym idle)
            ∙ board_close_if limit f.to (is_idle_at (lines_left f.to)) swept
            ∙ ended_board (is_idle_at (lines_left f.to)) refl
            ∙ sym (ap (λ (l : Option Line). lost c l (tape_board limit h)) (seen (Some f) e));
      }

  pub tied_gone : Tied limit (event.Gone c) h
  tied_gone = by_case (is_open c h) (λ o. by_option (feed c h) (tied_alone o) (tied_pair o)) tied_nothing
