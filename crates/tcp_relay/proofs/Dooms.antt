-- A doomed pair is untouched until it is gone, at once.
use Rattle.flow_notes.specs.declared.events.Event.{Event}
use Rattle.flow_notes.specs.declared.notes.Note.{Note}
use Rattle.relay_laws.specs.Lawful.{EachPaired}
use Rattle.relay_laws.specs.Pairs.{Tape, feed, free, is_open, pairs}
use Rattle.relay_laws.specs.Session.{IsTape, MayRelayAll, relay_tape}
use Rattle.relay_laws.specs.Sound.{IsPaired, IsSound}
use Rattle.relay_laws.specs.World.{out}
use Rattle.relay_laws.specs.declared.Feed.{Feed}
use Rattle.std.proofs.Common.{ap, arith, refl, subst, sym, ◌∙◌}
use Rattle.std.proofs.lemmas.Bool.Decides.{nat_tests}
use Rattle.std.proofs.lemmas.Option.{same_Some}
use Rattle.std.specs.List.{AllByRecursion}
use Rattle.std.specs.Prelude.{Bool, List, None, Option, Some, [], drop, false, if◌then◌else◌, is_none, length, min, nat_lt, not, true, ℕ, ◌&&◌, ◌+◌, ◌++◌, ◌==◌, ◌||◌, ◌∷◌, ◌≡◌, ◌≤◌}
use Rattle.tape_laws.specs.Dispatches.{events_back, has, live, started, turns}
use Rattle.tape_laws.specs.Doomed.{LeavesDoomed, condemned}
use Rattle.tape_laws.specs.Flows.{request, response}
use Rattle.tape_laws.specs.History.{EachFollows, Noted, onto}
use Rattle.tape_laws.specs.Pauses.{Heads}
use Rattle.tcp_relay.proofs.Boards.{onto_append}
use Rattle.tcp_relay.proofs.Lists.{all_more, has_more, has_without}
use Rattle.tcp_relay.proofs.Sessions.{known}
use Rattle.tcp_relay.proofs.Shapes.{close_if, leaves_none, leaves_some, loses_alone, loses_nothing, loses_pair, low, pairs_two, pause_if, reads_nothing, reads_some, refuses, resume_if, rose, turn_of}
use Rattle.tcp_relay.proofs.SoundTurns.{after}
use Rattle.tcp_relay.proofs.Sounds.{left_feed, left_other}
use Rattle.tcp_relay.proofs.Tests.{and_both, by_case, by_option, for_some, if_some, is_not, or_left, or_right, same_number}
use Rattle.flow_notes.specs.declared.events.Event.TheVariants as event
use Rattle.flow_rules.specs.declared.causes.Cause.TheVariants as cause
use Rattle.flow_notes.specs.declared.notes.CloseCause.TheVariants as closed
use Rattle.flow_notes.specs.declared.notes.Note.TheVariants as note

-- pairs are live exchanges, none is doomed and not gone, and each note stands as it may
record IsLived (h : Tape) : Type 0 where
  lives : EachPaired (λ c f. has (live h) f.flow.exchange ≡ true) h
  few : AllByRecursion (λ x. x ≤ pairs h) (started h)
  none : condemned h ≡ []
  follows : EachFollows LeavesDoomed h

lived_at : (h : Tape) (c : ℕ) (f : Feed) → IsLived h → feed c h ≡ Some f → has (live h) f.flow.exchange ≡ true
lived_at h c f l e = if_some (feed c h) (λ g. has (live h) g.flow.exchange ≡ true) f e (l.lives c)

lived_turn : (k : ℕ) (e : Event) (h : Tape) → IsLived h → IsLived (Noted (note.Turn k e) ∷ h)
lived_turn k e h l = record { lives = l.lives; few = l.few; none = l.none; follows = (l.none, l.follows) }

lived_close : (b : Bool) (c : ℕ) (h : Tape) → IsLived h → IsLived (onto (close_if b c) h)
lived_close true c h l = record { lives = l.lives; few = l.few; none = l.none; follows = (tt, l.follows) }
lived_close false c h l = l

lived_overload : (c : ℕ) (h : Tape) → IsLived h → IsLived (Noted (note.Close c 0 closed.Overload) ∷ h)
lived_overload c h l = record { lives = l.lives; few = l.few; none = l.none; follows = (tt, l.follows) }

lived_lost : (c : ℕ) (h : Tape) → IsLived h → IsLived (Noted (note.Close c 0 closed.Lost) ∷ h)
lived_lost c h l = record { lives = l.lives; few = l.few; none = l.none; follows = (tt, l.follows) }

lived_out : (c n : ℕ) (h : Tape) → IsLived h → IsLived (Noted (note.Out c n) ∷ h)
lived_out c n h l = record { lives = l.lives; few = l.few; none = l.none; follows = (tt, l.follows) }

lived_arrive : (f : Feed) (octets : List ℕ) (h : Tape) → has (live h) f.flow.exchange ≡ true → IsLived h → IsLived (Noted (note.Arrive f.flow octets) ∷ h)
lived_arrive f octets h is l = record { lives = l.lives; few = l.few; none = l.none; follows = (is, l.follows) }

lived_pause : (b : Bool) (f : Feed) (h : Tape) → has (live h) f.flow.exchange ≡ true → IsLived h → IsLived (onto (pause_if b f) h)
lived_pause true f h is l = record { lives = l.lives; few = l.few; none = l.none; follows = (is, l.follows) }
lived_pause false f h is l = l

lived_resume : (b : Bool) (o : Option Feed) (c : ℕ) (h : Tape) → ((f : Feed) → o ≡ Some f → has (live h) f.flow.exchange ≡ true) → IsLived h → IsLived (onto (resume_if b o c) h)
lived_resume b None c h is l = l
lived_resume true (Some f) c h is l = record { lives = l.lives; few = l.few; none = l.none; follows = (is f refl, l.follows) }
lived_resume false (Some f) c h is l = l

-- ---- a pair starts
pub one_of : {A : Type 0} (a b : Bool) (p q : Feed) (o : Option Feed) (f : Feed) → (if a then Some p else (if b then Some q else o)) ≡ Some f
    → (p ≡ f → A) → (q ≡ f → A) → (o ≡ Some f → A) → A
one_of true b p q o f e first second third = first (same_Some p f e)
one_of false true p q o f e first second third = second (same_Some q f e)
one_of false false p q o f e first second third = third e

not_started : (n : ℕ) (xs : List ℕ) → AllByRecursion (λ x. x ≤ n) xs → has xs (n + 1) ≡ false
not_started n [] a = refl
not_started n (x ∷ xs) a = ap (λ b. b || has xs (n + 1)) (below x n a.0) ∙ not_started n xs a.1
  where
    below : (x n : ℕ) → x ≤ n → (x == n + 1) ≡ false
    below x n l = grind (arith, nat_tests)

one_further : (n : ℕ) (xs : List ℕ) → AllByRecursion (λ x. x ≤ n) xs → AllByRecursion (λ x. x ≤ n + 1) xs
one_further n [] a = tt
one_further n (x ∷ xs) a = (up x n a.0, one_further n xs a.1)
  where
    up : (x n : ℕ) → x ≤ n → x ≤ n + 1
    up x n l = omega (arith, l)

module _ (c d : ℕ) (h : Tape) (l : IsLived h) where
  abbrev x : ℕ
  x = pairs h + 1

  abbrev begun : Tape
  begun = Noted (note.Start x c 0 d) ∷ h

  it_lives : has (live begun) x ≡ true
  it_lives = has_more (live h) x x ∙ or_right (has (live h) x) (x == x) (same_number x)

  still : (y : ℕ) → has (live h) y ≡ true → has (live begun) y ≡ true
  still y e = has_more (live h) x y ∙ or_left (has (live h) y) (x == y) e

  at_most : (n : ℕ) → n ≤ n
  at_most n = omega arith

  lived_start : IsLived begun
  lived_start = record {
    lives = λ e. for_some (feed e begun) (λ f. has (live begun) f.flow.exchange ≡ true) (λ f k.
        one_of (c == e) (d == e) (record { flow = request x; to = d }) (record { flow = response x; to = c }) (feed e h) f k
        (λ s. subst (λ (g : Feed). has (live begun) g.flow.exchange ≡ true) s it_lives)
        (λ s. subst (λ (g : Feed). has (live begun) g.flow.exchange ≡ true) s it_lives)
        (λ s. still f.flow.exchange (lived_at h e f l s)));
    few = all_more (λ y. y ≤ x) (started h) x (one_further (pairs h) (started h) l.few) (at_most x);
    none = l.none;
    follows = (not_started (pairs h) (started h) l.few, l.follows);
  }

-- ---- a pair is doomed, and gone
module _ (x c : ℕ) (h : Tape) (l : IsLived h) (is : has (live h) x ≡ true) where
  abbrev doomed : Tape
  doomed = Noted (note.Doom x (cause.ConnLost c)) ∷ h

  abbrev swept : Tape
  swept = Noted (note.Gone x) ∷ doomed

  lived_swept : IsLived swept
  lived_swept = record {
    lives = λ e. for_some (feed e swept) (λ f. has (live swept) f.flow.exchange ≡ true) (λ f k.
        has_without (live h) x f.flow.exchange
        ∙ and_both (not (f.flow.exchange == x)) (has (live h) f.flow.exchange) (is_not (f.flow.exchange == x) (left_other x (feed e h) f k)) (lived_at h e f l (left_feed x (feed e h) f k)));
    few = l.few;
    none = ap (λ (ys : List ℕ). drop 1 (ys ++ x ∷ [])) l.none;
    follows = (subst (λ (ys : List ℕ). Heads x (ys ++ x ∷ [])) (sym l.none) refl, (is, l.follows));
  }

-- ---- a whole dispatch
module _ (limit : ℕ) (h : Tape) (s : IsSound h) (l : IsLived h) where
  lived_accept : (c : ℕ) (fs : List ℕ) → free h ≡ fs → IsLived (after limit (event.Accept c) h)
  lived_accept c [] e = subst (λ (ns : List Note). IsLived (onto ns h)) (sym (refuses limit h c e))
      (lived_overload c (Noted (turn_of limit h (event.Accept c)) ∷ h) (lived_turn (turns h + 1) (event.Accept c) h l))
  lived_accept c (d ∷ ds) e = subst (λ (ns : List Note). IsLived (onto ns h)) (sym (pairs_two limit h c d ds e))
      (lived_start c d (Noted (turn_of limit h (event.Accept c)) ∷ h) (lived_turn (turns h + 1) (event.Accept c) h l))

  lived_read : (c : ℕ) (octets : List ℕ) → IsLived (after limit (event.Read c octets) h)
  lived_read c octets = by_option (feed c h)
      (λ e. subst (λ (ns : List Note). IsLived (onto ns h)) (sym (reads_nothing limit h c octets e)) (lived_turn (turns h + 1) (event.Read c octets) h l))
      (λ f e. subst (λ (ns : List Note). IsLived (onto ns h)) (sym (reads_some limit h c octets f e (if_some (feed c h) (IsPaired h c) f e (s.paired c)).goes))
      (lived_pause (rose limit h c octets f) f (Noted (note.Arrive f.flow octets) ∷ Noted (turn_of limit h (event.Read c octets)) ∷ h) (lived_at h c f l e)
      (lived_arrive f octets (Noted (turn_of limit h (event.Read c octets)) ∷ h) (lived_at h c f l e) (lived_turn (turns h + 1) (event.Read c octets) h l))))

  module _ (c n : ℕ) where
    abbrev m : ℕ
    m = min n (length (out c h))

    abbrev left : Tape
    left = Noted (note.Out c m) ∷ Noted (turn_of limit h (event.Room c n)) ∷ h

    lived_room : IsLived (after limit (event.Room c n) h)
    lived_room = by_case (nat_lt 0 m)
        (λ e. subst (λ (ns : List Note). IsLived (onto ns h)) (sym (leaves_some limit h c n m refl e))
        (subst (λ y. IsLived y) (sym (onto_append (resume_if (low limit h c n m) (feed c h) c) (close_if (length (drop m (out c h)) == 0 && is_none (feed c h)) c) left))
        (lived_close (length (drop m (out c h)) == 0 && is_none (feed c h)) c (onto (resume_if (low limit h c n m) (feed c h) c) left)
        (lived_resume (low limit h c n m) (feed c h) c left (λ f k. lived_at h c f l k)
        (lived_out c m (Noted (turn_of limit h (event.Room c n)) ∷ h) (lived_turn (turns h + 1) (event.Room c n) h l))))))
        (λ e. subst (λ (ns : List Note). IsLived (onto ns h)) (sym (leaves_none limit h c n e)) (lived_turn (turns h + 1) (event.Room c n) h l))

  module _ (c : ℕ) where
    lost_here : IsLived (Noted (note.Close c 0 closed.Lost) ∷ Noted (turn_of limit h (event.Gone c)) ∷ h)
    lost_here = lived_lost c (Noted (turn_of limit h (event.Gone c)) ∷ h) (lived_turn (turns h + 1) (event.Gone c) h l)

    lived_gone : IsLived (after limit (event.Gone c) h)
    lived_gone = by_case (is_open c h)
        (λ o. by_option (feed c h)
        (λ e. subst (λ (ns : List Note). IsLived (onto ns h)) (sym (loses_alone limit h c o e)) lost_here)
        (λ f e. subst (λ (ns : List Note). IsLived (onto ns h)) (sym (loses_pair limit h c f o e))
        (lived_close (length (out f.to h) == 0) f.to
        (Noted (note.Gone f.flow.exchange) ∷ Noted (note.Doom f.flow.exchange (cause.ConnLost c)) ∷ Noted (note.Close c 0 closed.Lost) ∷ Noted (turn_of limit h (event.Gone c)) ∷ h)
        (lived_swept f.flow.exchange c (Noted (note.Close c 0 closed.Lost) ∷ Noted (turn_of limit h (event.Gone c)) ∷ h) lost_here (lived_at h c f l e)))))
        (λ o. subst (λ (ns : List Note). IsLived (onto ns h)) (sym (loses_nothing limit h c o (s.done c o).feed)) (lived_turn (turns h + 1) (event.Gone c) h l))

  lived_after : (e : Event) → IsLived (after limit e h)
  lived_after (event.Accept c) = lived_accept c (free h) refl
  lived_after (event.Read c octets) = lived_read c octets
  lived_after (event.Gone c) = lived_gone c
  lived_after (event.Room c n) = lived_room c n
  lived_after (event.Join c j) = lived_turn (turns h + 1) (event.Join c j) h l
  lived_after (event.Tick now) = lived_turn (turns h + 1) (event.Tick now) h l
  lived_after (event.Post p n job) = lived_turn (turns h + 1) (event.Post p n job) h l
  lived_after (event.Obey v ps) = lived_turn (turns h + 1) (event.Obey v ps) h l
  lived_after (event.Plain e) = lived_turn (turns h + 1) (event.Plain e) h l

-- ---- the tape of a session
module _ (limit : ℕ) (names : List (List ℕ)) where
  lived : (es : List Event) → MayRelayAll limit names es → IsLived (relay_tape limit es)
  lived [] m = record { lives = λ c. tt; few = tt; none = refl; follows = tt }
  lived (e ∷ es) m = lived_after limit (relay_tape limit es) (known limit names es m.1).sound (lived es m.1) e

  pub leaves_doomed : (h : Tape) → IsTape limit names h → EachFollows LeavesDoomed h
  leaves_doomed h t = subst (λ v. EachFollows LeavesDoomed v) (sym t.is) (lived (events_back h) t.follows).follows
