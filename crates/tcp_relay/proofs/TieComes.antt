-- A connection comes, as the tape and as the connections show it.
use Rattle.flow_notes.specs.declared.notes.Note.{Note}
use Rattle.relay_laws.specs.Order.{is_new}
use Rattle.relay_laws.specs.Pairs.{Tape, feed, free, is_open, pairs}
use Rattle.relay_laws.specs.Sound.{IsDone, IsFree, IsFresh, IsSound, Rises}
use Rattle.relay_laws.specs.Watermark.{above}
use Rattle.relay_laws.specs.World.{out}
use Rattle.std.proofs.Common.{ap, refl, subst, sym, ◌∙◌}
use Rattle.std.specs.List.{AllByRecursion}
use Rattle.std.specs.Prelude.{List, None, Option, Some, [], false, filter, if◌then◌else◌, not, option_map, true, ℕ, ◌&&◌, ◌+◌, ◌<◌, ◌==◌, ◌||◌, ◌∷◌, ◌≡◌}
use Rattle.tape_laws.specs.Dispatches.{events_back, has}
use Rattle.tape_laws.specs.History.{Noted, onto}
use Rattle.tcp_relay.proofs.Boards.{fed_if, line_same, seen_same}
use Rattle.tcp_relay.proofs.Flags.{above_empty}
use Rattle.tcp_relay.proofs.Lists.{filter_first, insert_last}
use Rattle.tcp_relay.proofs.Shapes.{pairs_two, refuses, turn_of}
use Rattle.tcp_relay.proofs.Tests.{by_case, differs_above, differs_back, if_false, if_true, not_both, number_is, same_number}
use Rattle.tcp_relay.specs.Board.{accepted, change, met, put, request_feed, response_feed}
use Rattle.tcp_relay.specs.Effects.{notes_of}
use Rattle.tcp_relay.specs.Lines.{Line, fed, new_line}
use Rattle.tcp_relay.specs.Stands.{line_if, line_of, tape_board}
use Rattle.tcp_relay.specs.Ties.{Tied}
use Rattle.flow_notes.specs.declared.events.Event.TheVariants as event
use Rattle.flow_notes.specs.declared.notes.CloseCause.TheVariants as closed
use Rattle.flow_notes.specs.declared.notes.Note.TheVariants as note

module _ (limit c : ℕ) (h : Tape) (s : IsSound h) (new : is_new (events_back h) c ≡ true) where
  fresh : IsFresh h c
  fresh = s.fresh c new

  done : IsDone h c
  done = s.done c fresh.closed

  -- a connection that is open isn't the new one
  other_open : (d : ℕ) → is_open d h ≡ true → (c == d) ≡ false
  other_open d o = by_case (c == d) (λ t. not_both (is_open d h) o (subst (λ x. is_open x h ≡ false) (number_is c d t) fresh.closed)) (λ n. n)

  -- ---- to a cluster
  module _ (cluster : ℕ) where
    abbrev came : Tape
    came = Noted (turn_of limit h (event.Join c cluster)) ∷ h

    join_at : line_of limit c came ≡ Some (new_line limit None)
    join_at = λ i. line_if (same_number c i || is_open c h) (done.out i) limit (above_empty limit c came done.out i) (done.feed i)

    join_other : (d : ℕ) → (c == d) ≡ false → line_of limit d came ≡ line_of limit d h
    join_other d n = line_same limit (Noted (turn_of limit h (event.Join c cluster))) h d (ap (λ b. b || is_open d h) n) refl refl

    join_lines : (d : ℕ) → line_of limit d came ≡ put c (Some (new_line limit None)) (λ x. line_of limit x h) d
    join_lines d = by_case (c == d)
        (λ t. subst (λ x. line_of limit x came ≡ Some (new_line limit None)) (number_is c d t) join_at
        ∙ sym (if_true (c == d) (Some (new_line limit None)) (line_of limit d h) t))
        (λ n. join_other d n ∙ sym (if_false (c == d) (Some (new_line limit None)) (line_of limit d h) n))

    pub tied_join : Tied limit (event.Join c cluster) h
    tied_join = record {
      notes = refl;
      board = seen_same _ _ (record { limit = refl; pairs = refl; free = sym (insert_last (free h) c fresh.after); lines = join_lines; waits = λ d. refl });
    }

  -- ---- a client's
  abbrev turned : Tape
  turned = Noted (turn_of limit h (event.Accept c)) ∷ h

  module _ (none : free h ≡ []) where
    abbrev refused : Tape
    refused = Noted (note.Close c 0 closed.Overload) ∷ turned

    refused_at : line_of limit c refused ≡ line_of limit c h
    refused_at =
        ap (λ b. line_if (not b && (b || is_open c h)) (out c h) limit (above limit c refused) (feed c h)) (same_number c)
        ∙ sym (ap (λ b. line_if b (out c h) limit (above limit c h) (feed c h)) fresh.closed)

    refused_other : (d : ℕ) → (c == d) ≡ false → line_of limit d refused ≡ line_of limit d h
    refused_other d n = line_same limit (Noted (note.Close c 0 closed.Overload)) turned d (ap (λ b. not b && (b || is_open d h)) n ∙ sym (ap (λ b. b || is_open d h) n)) refl refl
        ∙ line_same limit (Noted (turn_of limit h (event.Accept c))) h d (ap (λ b. b || is_open d h) n) refl refl

    refused_lines : (d : ℕ) → line_of limit d refused ≡ line_of limit d h
    refused_lines d = by_case (c == d)
        (λ t. subst (λ x. line_of limit x refused ≡ line_of limit x h) (number_is c d t) refused_at)
        (λ n. refused_other d n)

    pub tied_refused : Tied limit (event.Accept c) h
    tied_refused = record {
      notes = refuses limit h c none ∙ sym (ap (λ fs. turn_of limit h (event.Accept c) ∷ notes_of (event.Accept c) (met c fs (tape_board limit h))) none);
      board = ap (λ (ns : List Note). tape_board limit (onto ns h)) (refuses limit h c none)
          ∙ seen_same _ _ (record {
            limit = refl;
            pairs = refl;
            free = ap (λ fs. filter (λ e. not (e == c)) fs) none ∙ sym none;
            lines = refused_lines;
            waits = λ d. refl;
          })
          ∙ sym (ap (λ fs. accepted c fs (tape_board limit h)) none);
    }

  module _ (d : ℕ) (ds : List ℕ) (some : free h ≡ d ∷ ds) where
    abbrev x : ℕ
    x = pairs h + 1

    abbrev begun : Tape
    begun = Noted (note.Start x c 0 d) ∷ turned

    below : d < c
    below = (subst (λ fs. AllByRecursion (λ e. e < c) fs) some fresh.after).0

    other : (c == d) ≡ false
    other = differs_above d c below

    waits_too : has (free h) d ≡ true
    waits_too = ap (λ fs. has fs d) some ∙ ap (λ b. b || has ds d) (same_number d)

    partner : IsFree h d
    partner = s.unpaired d waits_too

    rises : Rises (d ∷ ds)
    rises = subst (λ fs. Rises fs) some s.rises

    client_feeds : feed c begun ≡ Some (request_feed x d)
    client_feeds = ap (λ b. if b then Some (request_feed x d) else (if d == c then Some (response_feed x c) else feed c h)) (same_number c)

    client : line_of limit c begun ≡ Some (new_line limit (Some (request_feed x d)))
    client = λ i. line_if (same_number c i || is_open c h) (done.out i) limit (above_empty limit c begun done.out i) (client_feeds i)

    cluster_feeds : feed d begun ≡ Some (response_feed x c)
    cluster_feeds = ap (λ b. if b then Some (request_feed x d) else (if d == d then Some (response_feed x c) else feed d h)) other
        ∙ ap (λ b. if b then Some (response_feed x c) else feed d h) (same_number d)

    cluster_line : line_of limit d begun ≡ option_map (fed (Some (response_feed x c))) (line_of limit d h)
    cluster_line =
        (λ i. line_if (other i || is_open d h) (out d h) limit
        ((above_empty limit d begun partner.out ∙ sym (above_empty limit d h partner.out)) i) (cluster_feeds i))
        ∙ sym (fed_if (Some (response_feed x c)) (is_open d h) (out d h) limit (above limit d h) (feed d h))

    other_line : (e : ℕ) → (c == e) ≡ false → (d == e) ≡ false → line_of limit e begun ≡ line_of limit e h
    other_line e n m = line_same limit (Noted (note.Start x c 0 d)) turned e refl refl
        (ap (λ b. if b then Some (request_feed x d) else (if d == e then Some (response_feed x c) else feed e h)) n
        ∙ ap (λ b. if b then Some (response_feed x c) else feed e h) m)
        ∙ line_same limit (Noted (turn_of limit h (event.Accept c))) h e (ap (λ b. b || is_open e h) n) refl refl

    abbrev with_client : ℕ → Option Line
    with_client = put c (Some (new_line limit (Some (request_feed x d)))) (λ y. line_of limit y h)

    abbrev with_both : ℕ → Option Line
    with_both = change d (option_map (fed (Some (response_feed x c)))) with_client

    at_cluster : line_of limit d begun ≡ with_both d
    at_cluster = cluster_line
        ∙ sym (if_true (d == d) (option_map (fed (Some (response_feed x c))) (with_client d)) (with_client d) (same_number d)
        ∙ ap (λ b. option_map (fed (Some (response_feed x c))) (if b then Some (new_line limit (Some (request_feed x d))) else line_of limit d h)) other)

    at_client : line_of limit c begun ≡ with_both c
    at_client = client
        ∙ sym (if_false (d == c) (option_map (fed (Some (response_feed x c))) (with_client c)) (with_client c) (differs_back c d other)
        ∙ if_true (c == c) (Some (new_line limit (Some (request_feed x d)))) (line_of limit c h) (same_number c))

    at_other : (e : ℕ) → (c == e) ≡ false → (d == e) ≡ false → line_of limit e begun ≡ with_both e
    at_other e n m = other_line e n m
        ∙ sym (if_false (d == e) (option_map (fed (Some (response_feed x c))) (with_client e)) (with_client e) m
        ∙ if_false (c == e) (Some (new_line limit (Some (request_feed x d)))) (line_of limit e h) n)

    lines : (e : ℕ) → line_of limit e begun ≡ with_both e
    lines e = by_case (c == e)
        (λ t. subst (λ y. line_of limit y begun ≡ with_both y) (number_is c e t) at_client)
        (λ n. by_case (d == e)
        (λ t. subst (λ y. line_of limit y begun ≡ with_both y) (number_is d e t) at_cluster)
        (λ m. at_other e n m))

    pub tied_paired : Tied limit (event.Accept c) h
    tied_paired = record {
      notes = pairs_two limit h c d ds some ∙ sym (ap (λ fs. turn_of limit h (event.Accept c) ∷ notes_of (event.Accept c) (met c fs (tape_board limit h))) some);
      board = ap (λ (ns : List Note). tape_board limit (onto ns h)) (pairs_two limit h c d ds some)
          ∙ seen_same _ _ (record {
            limit = refl;
            pairs = refl;
            free = ap (λ fs. filter (λ e. not (e == d)) fs) some ∙ filter_first d ds rises;
            lines = lines;
            waits = λ e. refl;
          })
          ∙ sym (ap (λ fs. accepted c fs (tape_board limit h)) some);
    }

  tied_by : (fs : List ℕ) → free h ≡ fs → Tied limit (event.Accept c) h
  tied_by [] e = tied_refused e
  tied_by (d ∷ ds) e = tied_paired d ds e

  pub tied_accept : Tied limit (event.Accept c) h
  tied_accept = tied_by (free h) refl
