-- A read, as the tape and as the connections show it.
use Rattle.flow_notes.specs.declared.notes.Note.{Note}
use Rattle.relay_laws.specs.Dispatch.{dispatch_notes}
use Rattle.relay_laws.specs.Pairs.{Tape, feed, goes_to, is_open, opposite}
use Rattle.relay_laws.specs.Sound.{IsPaired, IsSound}
use Rattle.relay_laws.specs.Watermark.{above}
use Rattle.relay_laws.specs.World.{out}
use Rattle.relay_laws.specs.declared.Feed.{Feed}
use Rattle.std.proofs.Common.{ap, append-nil, arith, length-append, refl, subst, sym, ◌∙◌}
use Rattle.std.proofs.lemmas.Bool.Decides.{nat_tests}
use Rattle.std.specs.Prelude.{Bool, List, None, Option, Some, [], false, if◌then◌else◌, length, nat_lt, not, option_map, true, ℕ, ◌&&◌, ◌+◌, ◌++◌, ◌<◌, ◌==◌, ◌∷◌, ◌≡◌}
use Rattle.tape_laws.specs.Dispatches.{is_some_of}
use Rattle.tape_laws.specs.History.{Noted, onto}
use Rattle.tcp_relay.proofs.Boards.{added_if, board_same, feeds_seen, line_same, seen_same}
use Rattle.tcp_relay.proofs.Flags.{above_same}
use Rattle.tcp_relay.proofs.Shapes.{pause_if, reads_nothing, reads_some, rose, turn_of}
use Rattle.tcp_relay.proofs.Tests.{by_case, by_option, if_false, if_some, if_true, number_is, same_number}
use Rattle.tcp_relay.specs.Board.{carried, carried_as, change, put}
use Rattle.tcp_relay.specs.Effects.{notes_of}
use Rattle.tcp_relay.specs.Lines.{added, feeds_of, rises_by}
use Rattle.tcp_relay.specs.Stands.{line_if, line_of, tape_board}
use Rattle.tcp_relay.specs.Ties.{Tied}
use Rattle.wm_buffer.specs.Watermark.{above_after}
use Rattle.flow_rules.specs.declared.ids.BufferId.TheVariants as buffer
use Rattle.flow_notes.specs.declared.events.Event.TheVariants as event
use Rattle.flow_notes.specs.declared.notes.Note.TheVariants as note

more_than_none : (x y : List ℕ) → 0 < length y → nat_lt 0 (length (x ++ y)) ≡ true
more_than_none x y l = some (length x) (length y) l (length-append x y)
  where
    some : {k : ℕ} (a b : ℕ) → 0 < b → k ≡ a + b → nat_lt 0 k ≡ true
    some a b l e = grind (arith, nat_tests)

module _ (limit c : ℕ) (octets : List ℕ) (h : Tape) (s : IsSound h) where
  pub tied_none : feed c h ≡ None → Tied limit (event.Read c octets) h
  tied_none e =
      let feeds = feeds_seen limit c h s ∙ e in
      let notes = reads_nothing limit h c octets e in
      record {
        notes = notes ∙ sym (ap (λ (o : Option Feed). turn_of limit h (event.Read c octets) ∷ notes_of (event.Read c octets) (carried_as octets o (tape_board limit h))) feeds);
        board = ap (λ (ns : List Note). tape_board limit (onto ns h)) notes
            ∙ board_same limit (Noted (turn_of limit h (event.Read c octets))) h refl refl (λ d. refl) (λ d. refl) (λ d. refl)
            ∙ sym (ap (λ (o : Option Feed). carried octets o (tape_board limit h)) feeds);
      }

  module _ (f : Feed) (e : feed c h ≡ Some f) (some : 0 < length octets) where
    abbrev turned : Tape
    turned = Noted (turn_of limit h (event.Read c octets)) ∷ h

    abbrev arrived : Tape
    arrived = Noted (note.Arrive f.flow octets) ∷ turned

    pair : IsPaired h c f
    pair = if_some (feed c h) (IsPaired h c) f e (s.paired c)

    back : IsPaired h f.to (record { flow = opposite f.flow; to = c })
    back = if_some (feed f.to h) (IsPaired h f.to) (record { flow = opposite f.flow; to = c }) pair.back (s.paired f.to)

    goes : (d : ℕ) → is_some_of (goes_to f.flow h) d ≡ (f.to == d)
    goes d = ap (λ o. is_some_of o d) pair.goes

    high : (d : ℕ) → above limit d turned ≡ above limit d h
    high d = above_same limit d (Noted (turn_of limit h (event.Read c octets))) h refl

    out_at : out f.to arrived ≡ out f.to h ++ octets
    out_at = ap (λ b. out f.to h ++ (if b then octets else [])) (goes f.to ∙ same_number f.to)

    out_other : (d : ℕ) → (f.to == d) ≡ false → out d arrived ≡ out d h
    out_other d n = ap (λ b. out d h ++ (if b then octets else [])) (goes d ∙ n) ∙ append-nil (out d h)

    above_at : above limit f.to arrived ≡ above_after limit (above limit f.to h) (length (out f.to h ++ octets))
    above_at = λ i. above_after limit (high f.to i) (length (out_at i))

    line_at : line_of limit f.to arrived ≡ option_map (added octets) (line_of limit f.to h)
    line_at = (λ i. line_if (is_open f.to h) (out_at i) limit (above_at i) (feed f.to h))
        ∙ sym (added_if octets (is_open f.to h) (out f.to h) limit (above limit f.to h) (feed f.to h))

    line_other : (d : ℕ) → (f.to == d) ≡ false → line_of limit d arrived ≡ line_of limit d h
    line_other d n = line_same limit (Noted (note.Arrive f.flow octets)) turned d refl (out_other d n) refl
        ∙ line_same limit (Noted (turn_of limit h (event.Read c octets))) h d refl refl refl

    lines : (d : ℕ) → line_of limit d arrived ≡ change f.to (option_map (added octets)) (λ x. line_of limit x h) d
    lines d = by_case (f.to == d)
        (λ t. subst (λ x. line_of limit x arrived ≡ option_map (added octets) (line_of limit x h)) (number_is f.to d t) line_at
        ∙ sym (if_true (f.to == d) (option_map (added octets) (line_of limit d h)) (line_of limit d h) t))
        (λ n. line_other d n ∙ sym (if_false (f.to == d) (option_map (added octets) (line_of limit d h)) (line_of limit d h) n))

    waits_at : nat_lt 0 (length (out f.to arrived)) ≡ true
    waits_at = ap (λ (v : List ℕ). nat_lt 0 (length v)) out_at ∙ more_than_none (out f.to h) octets some

    waits : (d : ℕ) → nat_lt 0 (length (out d arrived)) ≡ put f.to true (λ x. nat_lt 0 (length (out x h))) d
    waits d = by_case (f.to == d)
        (λ t. subst (λ x. nat_lt 0 (length (out x arrived)) ≡ true) (number_is f.to d t) waits_at
        ∙ sym (if_true (f.to == d) true (nat_lt 0 (length (out d h))) t))
        (λ n. ap (λ (v : List ℕ). nat_lt 0 (length v)) (out_other d n) ∙ sym (if_false (f.to == d) true (nat_lt 0 (length (out d h))) n))

    arrived_board : tape_board limit arrived ≡ carried octets (Some f) (tape_board limit h)
    arrived_board = seen_same _ _ (record { limit = refl; pairs = refl; free = refl; lines = lines; waits = waits })

    paused_board : (b : Bool) → tape_board limit (onto (pause_if b f) arrived) ≡ tape_board limit arrived
    paused_board true = board_same limit (Noted (note.Pause f.flow (buffer.Write f.to))) arrived refl refl (λ d. refl) (λ d. refl) (λ d. refl)
    paused_board false = refl

    rises : rose limit h c octets f ≡ rises_by octets (line_of limit f.to h)
    rises = (λ i. not (high f.to i) && above_at i)
        ∙ sym (ap (λ o. rises_by octets (line_if o (out f.to h) limit (above limit f.to h) (feed f.to h))) back.opened)

    feeds : feeds_of (line_of limit c h) ≡ Some f
    feeds = feeds_seen limit c h s ∙ e

    shape : dispatch_notes limit (event.Read c octets) h ≡ turn_of limit h (event.Read c octets) ∷ note.Arrive f.flow octets ∷ pause_if (rose limit h c octets f) f
    shape = reads_some limit h c octets f e pair.goes

    pub tied_some : Tied limit (event.Read c octets) h
    tied_some = record {
      notes = shape
          ∙ ap (λ b. turn_of limit h (event.Read c octets) ∷ note.Arrive f.flow octets ∷ pause_if b f) rises
          ∙ sym (ap (λ (o : Option Feed). turn_of limit h (event.Read c octets) ∷ notes_of (event.Read c octets) (carried_as octets o (tape_board limit h))) feeds);
      board = ap (λ (ns : List Note). tape_board limit (onto ns h)) shape
          ∙ paused_board (rose limit h c octets f) ∙ arrived_board
          ∙ sym (ap (λ (o : Option Feed). carried octets o (tape_board limit h)) feeds);
    }

  pub tied_read : 0 < length octets → Tied limit (event.Read c octets) h
  tied_read some = by_option (feed c h) tied_none (λ f e. tied_some f e some)
