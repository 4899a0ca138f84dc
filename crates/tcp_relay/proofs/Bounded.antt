-- A write buffer holds at most its limit and what one read brings.
use Rattle.flow_rules.specs.declared.ids.FlowId.{FlowId}
use Rattle.flow_notes.specs.Event.{IsEvent}
use Rattle.flow_notes.specs.declared.events.Event.{Event}
use Rattle.flow_notes.specs.declared.notes.Note.{Note}
use Rattle.relay_laws.specs.Dispatch.{dispatch_notes}
use Rattle.relay_laws.specs.Pairs.{Tape, feed, goes_to}
use Rattle.relay_laws.specs.Promise.{IsBounded}
use Rattle.relay_laws.specs.Session.{reads_paused, is_held}
use Rattle.relay_laws.specs.Sound.{IsPaired, IsSound}
use Rattle.relay_laws.specs.Watermark.{above}
use Rattle.relay_laws.specs.World.{out}
use Rattle.relay_laws.specs.declared.Feed.{Feed}
use Rattle.std.proofs.Common.{ap, append-nil, arith, length-append, refl, subst, sym, ◌∙◌}
use Rattle.std.proofs.lemmas.List.{length-drop}
use Rattle.std.specs.Bool.{OnTrue}
use Rattle.std.specs.List.{AllByRecursion}
use Rattle.std.specs.Prelude.{Bool, List, None, Option, Some, [], drop, false, if◌then◌else◌, length, nat_lt, option_map, true, ℕ, ◌+◌, ◌++◌, ◌-◌, ◌==◌, ◌∷◌, ◌≡◌, ◌≤◌}
use Rattle.tape_laws.specs.Dispatches.{is_some_of, turns}
use Rattle.tape_laws.specs.History.{AtEachMoment, Noted, onto}
use Rattle.tcp_relay.proofs.Flags.{above_now, above_same, low_len}
use Rattle.tcp_relay.proofs.Shapes.{pause_if, reads_nothing, reads_some, rose, turn_of}
use Rattle.tcp_relay.proofs.Tests.{by_option, if_some, is_below, number_is}
use Rattle.tcp_relay.specs.Board.{Board, effect_of, ends_as, is_over, left_as, lost_as, met, resumed_flow, without}
use Rattle.tcp_relay.specs.Effects.{drained_of, ended_of, leaving_of, loss_of, notes_of, resume_of}
use Rattle.tcp_relay.specs.Lines.{Line, taken_of}
use Rattle.tcp_relay.specs.Stands.{tape_board}
use Rattle.tcp_relay.specs.Ties.{Tied}
use Rattle.tcp_relay.specs.declared.conns.Taken.{Taken}
use Rattle.tcp_relay.specs.declared.effect.Ended.{Ended}
use Rattle.tcp_relay.specs.declared.effect.Left.{Left}
use Rattle.flow_notes.specs.declared.events.Event.TheVariants as event
use Rattle.flow_notes.specs.declared.notes.CloseCause.TheVariants as closed
use Rattle.flow_notes.specs.declared.notes.Note.TheVariants as note

-- the note makes no write buffer longer
pub record IsShort (n : Note) : Type 0 where
  pub short : (c : ℕ) (h : Tape) → length (out c (Noted n ∷ h)) ≤ length (out c h)

same_length : (n : ℕ) → n ≤ n
same_length n = omega arith

drop_shorter : (n : ℕ) (xs : List ℕ) → length (drop n xs) ≤ length xs
drop_shorter n xs = less (length (drop n xs)) (length xs) n (length-drop n xs)
  where
    less : (a l n : ℕ) → a ≡ l - n → a ≤ l
    less a l n e = omega (arith, e)

none_shorter : (b : Bool) (xs : List ℕ) → length (if b then [] else xs) ≤ length xs
none_shorter true xs = omega arith
none_shorter false xs = omega arith

pub short_turn : (k : ℕ) (e : Event) → IsShort (note.Turn k e)
short_turn k e = record { short = λ c h. same_length (length (out c h)) }

short_out : (c n : ℕ) → IsShort (note.Out c n)
short_out c n = record { short = λ d h. drop_shorter (if c == d then n else 0) (out d h) }

short_lost : (c code : ℕ) → IsShort (note.Close c code closed.Lost)
short_lost c code = record { short = λ d h. none_shorter (c == d) (out d h) }

short_drained : (c code : ℕ) → IsShort (note.Close c code closed.Drained)
short_drained c code = record { short = λ d h. same_length (length (out d h)) }

module _ (limit : ℕ) where
  bounded_less : (a b l : ℕ) → a ≤ b → b ≤ l → a ≤ l
  bounded_less a b l p q = omega (arith, p, q)

  on_less : (t : Bool) (a b l : ℕ) → a ≤ b → OnTrue t (b ≤ l) → OnTrue t (a ≤ l)
  on_less true a b l p q = bounded_less a b l p q
  on_less false a b l p q = tt

  bounded_short : (n : Note) (h : Tape) → IsShort n → IsBounded limit h → IsBounded limit (Noted n ∷ h)
  bounded_short n h s b = λ c. on_less (nat_lt 0 limit) (length (out c (Noted n ∷ h))) (length (out c h)) (limit + 16384) (s.short c h) (b c)

  at_now : (h : Tape) → AtEachMoment (IsBounded limit) h → IsBounded limit h
  at_now [] b = b
  at_now (step ∷ h) b = b.0

  pub bounded_all : (ns : List Note) (h : Tape) → AllByRecursion IsShort ns → AtEachMoment (IsBounded limit) h → AtEachMoment (IsBounded limit) (onto ns h)
  bounded_all [] h s b = b
  bounded_all (n ∷ ns) h s b = bounded_all ns (Noted n ∷ h) s.1 (bounded_short n h s.0 (at_now h b), b)

  -- ---- octets come for a connection that isn't above
  module _ (f : Feed) (octets : List ℕ) (h : Tape) (to : goes_to f.flow h ≡ Some f.to) (low : above limit f.to h ≡ false) (few : length octets ≤ 16384) where
    at_most : (l x y k : ℕ) → k ≡ x + y → x ≤ l → y ≤ 16384 → k ≤ l + 16384
    at_most l x y k e p q = omega (arith, e, p, q)

    on_low : (t : Bool) (a l : ℕ) → (t ≡ true → a ≤ l) → OnTrue t (a ≤ l)
    on_low true a l f = f refl
    on_low false a l f = tt

    bounded_at : OnTrue (nat_lt 0 limit) (length (out f.to h ++ octets) ≤ limit + 16384)
    bounded_at = on_low (nat_lt 0 limit) (length (out f.to h ++ octets)) (limit + 16384) (λ t.
        at_most limit (length (out f.to h)) (length octets) (length (out f.to h ++ octets)) (length-append (out f.to h) octets)
        (low_len limit (above limit f.to h) (length (out f.to h)) (above_now limit f.to h ∙ low) (is_below 0 limit t)) few)

    abbrev Within : List ℕ → Type 0
    Within xs = OnTrue (nat_lt 0 limit) (length xs ≤ limit + 16384)

    within_if : (b : Bool) (d : ℕ) → (f.to == d) ≡ b → Within (out d h) → Within (out d h ++ (if b then octets else []))
    within_if true d e w = subst (λ v. Within (out v h ++ octets)) (number_is f.to d e) bounded_at
    within_if false d e w = subst (λ v. Within v) (sym (append-nil (out d h))) w

    pub bounded_arrive : IsBounded limit h → IsBounded limit (Noted (note.Arrive f.flow octets) ∷ h)
    bounded_arrive b = λ d. subst (λ v. Within (out d h ++ (if v then octets else []))) (sym (ap (λ o. is_some_of o d) to)) (within_if (f.to == d) d refl (b d))

-- ---- the notes of an event that brings no octets
short_drained_if : (b : Bool) (c : ℕ) → AllByRecursion IsShort (drained_of b c)
short_drained_if true c = (short_drained c 0, tt)
short_drained_if false c = tt

short_behind : (o : Option FlowId) (b : Bool) (c d : ℕ) → AllByRecursion IsShort (resume_of o c ++ drained_of b d)
short_behind None b c d = short_drained_if b d
short_behind (Some f) b c d = (record { short = λ e h. same_length (length (out e h)) }, short_drained_if b d)

short_ended : (c : ℕ) (o : Option Ended) → AllByRecursion IsShort (ended_of c o)
short_ended c None = tt
short_ended c (Some e) =
    (record { short = λ d h. same_length (length (out d h)) }, (record { short = λ d h. same_length (length (out d h)) }, short_drained_if e.closed e.other))

pub short_left : (l : Left) → AllByRecursion IsShort (leaving_of l)
short_left l = (short_out l.conn l.n, short_behind l.resumed l.closed l.conn l.conn)

pub short_loss : (c : ℕ) (o : Option Ended) → AllByRecursion IsShort (loss_of c o)
short_loss c o = (short_lost c 0, short_ended c o)

short_met : (c : ℕ) (fs : List ℕ) (b : Board) → AllByRecursion IsShort (notes_of (event.Accept c) (met c fs b))
short_met c [] b = (record { short = λ d h. same_length (length (out d h)) }, tt)
short_met c (d ∷ ds) b = (record { short = λ e h. same_length (length (out e h)) }, tt)

short_room : (c n : ℕ) (o : Option Taken) → AllByRecursion IsShort (notes_of (event.Room c n) (left_as c o))
short_room c n None = tt
short_room c n (Some t) = short_left (record { conn = c; n = t.n; resumed = resumed_flow t.feeds t.drained; closed = is_over t })

short_gone : (c : ℕ) (o : Option Line) (b : Board) → AllByRecursion IsShort (notes_of (event.Gone c) (lost_as c o b))
short_gone c None b = tt
short_gone c (Some line) b = short_loss c (option_map (λ f. ends_as f (without c b).lines) line.feeds)

-- ---- a whole dispatch
module _ (limit : ℕ) (h : Tape) (s : IsSound h) (b : AtEachMoment (IsBounded limit) h) where
  abbrev After : Event → Type 0
  After e = AtEachMoment (IsBounded limit) (onto (dispatch_notes limit e h) h)

  by_notes : (e : Event) → Tied limit e h → AllByRecursion IsShort (notes_of e (effect_of e (tape_board limit h))) → After e
  by_notes e t a = subst (λ (ns : List Note). AtEachMoment (IsBounded limit) (onto ns h)) (sym t.notes)
      (bounded_all limit (note.Turn (turns h + 1) e ∷ notes_of e (effect_of e (tape_board limit h))) h (short_turn (turns h + 1) e, a) b)

  module _ (c : ℕ) (octets : List ℕ) (few : length octets ≤ 16384) (free : is_held limit (feed c h) h ≡ false) where
    turned : AtEachMoment (IsBounded limit) (Noted (turn_of limit h (event.Read c octets)) ∷ h)
    turned = bounded_all limit (turn_of limit h (event.Read c octets) ∷ []) h (short_turn (turns h + 1) (event.Read c octets), tt) b

    short_pause : (z : Bool) (f : Feed) → AllByRecursion IsShort (pause_if z f)
    short_pause true f = (record { short = λ d v. same_length (length (out d v)) }, tt)
    short_pause false f = tt

    read_some : (f : Feed) → feed c h ≡ Some f → After (event.Read c octets)
    read_some f e =
        let pair : IsPaired h c f = if_some (feed c h) (IsPaired h c) f e (s.paired c) in
        let low : above limit f.to (Noted (turn_of limit h (event.Read c octets)) ∷ h) ≡ false =
        above_same limit f.to (Noted (turn_of limit h (event.Read c octets))) h refl ∙ sym (ap (λ (o : Option Feed). is_held limit o h) e) ∙ free in
        subst (λ (ns : List Note). AtEachMoment (IsBounded limit) (onto ns h)) (sym (reads_some limit h c octets f e pair.goes))
        (bounded_all limit (pause_if (rose limit h c octets f) f) (Noted (note.Arrive f.flow octets) ∷ Noted (turn_of limit h (event.Read c octets)) ∷ h)
        (short_pause (rose limit h c octets f) f)
        (bounded_arrive limit f octets (Noted (turn_of limit h (event.Read c octets)) ∷ h) pair.goes low few turned.0, turned))

    pub read_bounded : After (event.Read c octets)
    read_bounded = by_option (feed c h)
        (λ e. subst (λ (ns : List Note). AtEachMoment (IsBounded limit) (onto ns h)) (sym (reads_nothing limit h c octets e)) turned)
        read_some

  pub bounded_after : (names : List (List ℕ)) (e : Event) → IsEvent names e → reads_paused limit e h ≡ false → Tied limit e h → After e
  bounded_after names (event.Read c octets) is free t = read_bounded c octets is.1 free
  bounded_after names (event.Accept c) is free t = by_notes (event.Accept c) t (short_met c (tape_board limit h).free (tape_board limit h))
  bounded_after names (event.Join c cluster) is free t = by_notes (event.Join c cluster) t tt
  bounded_after names (event.Room c n) is free t = by_notes (event.Room c n) t (short_room c n (taken_of n ((tape_board limit h).lines c)))
  bounded_after names (event.Gone c) is free t = by_notes (event.Gone c) t (short_gone c ((tape_board limit h).lines c) (tape_board limit h))
  bounded_after names (event.Tick now) is free t = by_notes (event.Tick now) t tt
  bounded_after names (event.Post p n job) is free t = by_notes (event.Post p n job) t tt
  bounded_after names (event.Obey v ps) is free t = by_notes (event.Obey v ps) t tt
  bounded_after names (event.Plain e) is free t = by_notes (event.Plain e) t tt
