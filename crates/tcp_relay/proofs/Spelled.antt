-- The notes of a dispatch have a spelling.
use Rattle.flow_rules.specs.declared.ids.FlowId.{FlowId}
use Rattle.flow_notes.specs.Event.{IsEvent}
use Rattle.flow_notes.specs.declared.events.Event.{Event}
use Rattle.flow_notes.specs.declared.notes.Note.{Note}
use Rattle.std.proofs.Common.{arith, refl, subst, sym}
use Rattle.std.proofs.lemmas.Bool.Decides.{nat_tests}
use Rattle.std.specs.Prelude.{Bool, List, None, Option, Some, [], false, if◌then◌else◌, length, not, option_map, true, ℕ, ◌&&◌, ◌+◌, ◌++◌, ◌<◌, ◌==◌, ◌∷◌, ◌≡◌, ◌≤◌}
use Rattle.tcp_relay.specs.Board.{Board, carried_as, effect_of, ends_as, is_over, left_as, lost_as, met, resumed_flow, without}
use Rattle.tcp_relay.specs.Effects.{drained_of, ended_of, notes_of, pause_of, resume_of}
use Rattle.tcp_relay.specs.Lines.{Line, dropped, feeds_of, leaving, rises_by, taken_of}
use Rattle.tcp_relay.specs.Noting.{AppendsSome}
use Rattle.tcp_relay.specs.Turns.{AreSpelled}
use Rattle.tcp_relay.specs.declared.conns.Taken.{Taken}
use Rattle.tcp_relay.specs.declared.effect.Ended.{Ended}
use Rattle.relay_laws.specs.declared.Feed.{Feed}
use Rattle.flow_notes.specs.declared.events.Event.TheVariants as event
use Rattle.flow_notes.specs.declared.notes.Note.TheVariants as note

pub spelled_both : (names : List (List ℕ)) (xs ys : List Note) → AreSpelled names xs → AreSpelled names ys → AreSpelled names (xs ++ ys)
spelled_both names [] ys a b = b
spelled_both names (x ∷ xs) ys a b = (a.0, spelled_both names xs ys a.1 b)

spelled_front : (names : List (List ℕ)) (front rest : List Note) → AreSpelled names (front ++ rest) → AreSpelled names front
spelled_front names [] rest a = tt
spelled_front names (n ∷ front) rest a = (a.0, spelled_front names front rest a.1)

pub spelled_some : (names : List (List ℕ)) (before ns after : List Note) → AreSpelled names ns → AppendsSome before ns after → AreSpelled names before → AreSpelled names after
spelled_some names before ns after a s b = subst (λ v. AreSpelled names v) (sym s.is)
    (spelled_both names before s.front b (spelled_front names s.front s.rest (subst (λ v. AreSpelled names v) s.whole a)))

-- what leaves is at least one octet
at_least_one : (m : ℕ) → (m == 0) ≡ false → 1 ≤ m
at_least_one m e = grind (arith, nat_tests)

module _ (names : List (List ℕ)) where
  paused : (b : Bool) (f : FlowId) (c : ℕ) → AreSpelled names (pause_of b f c)
  paused true f c = (tt, tt)
  paused false f c = tt

  drained : (b : Bool) (c : ℕ) → AreSpelled names (drained_of b c)
  drained true c = (tt, tt)
  drained false c = tt

  resumed : (o : Option FlowId) (b : Bool) (c d : ℕ) → AreSpelled names (resume_of o c ++ drained_of b d)
  resumed None b c d = drained b d
  resumed (Some f) b c d = (tt, drained b d)

  ended : (c : ℕ) (o : Option Ended) → AreSpelled names (ended_of c o)
  ended c None = tt
  ended c (Some e) = (tt, (tt, drained e.closed e.other))

  comes : (c : ℕ) (fs : List ℕ) (b : Board) → AreSpelled names (notes_of (event.Accept c) (met c fs b))
  comes c [] b = (tt, tt)
  comes c (d ∷ ds) b = (tt, tt)

  reads : (c : ℕ) (octets : List ℕ) (o : Option Feed) (b : Board) → 0 < length octets → AreSpelled names (notes_of (event.Read c octets) (carried_as octets o b))
  reads c octets None b some = tt
  reads c octets (Some f) b some = (some, paused (rises_by octets (b.lines f.to)) f.flow f.to)

  leaves_if : (c n : ℕ) (line : Line) (z : Bool) (t : Taken) → (leaving n line == 0) ≡ z → t.n ≡ leaving n line
      → AreSpelled names (notes_of (event.Room c n) (left_as c (if z then None else Some t)))
  leaves_if c n line true t e k = tt
  leaves_if c n line false t e k = (subst (λ m. 1 ≤ m) (sym k) (at_least_one (leaving n line) e), resumed (resumed_flow t.feeds t.drained) (is_over t) c c)

  leaves : (c n : ℕ) (o : Option Line) → AreSpelled names (notes_of (event.Room c n) (left_as c (taken_of n o)))
  leaves c n None = tt
  leaves c n (Some line) = leaves_if c n line (leaving n line == 0)
      (record { n = leaving n line; drained = line.above && not (dropped n line).above; is_empty = length (dropped n line).octets == 0; feeds = line.feeds }) refl refl

  loses : (c : ℕ) (o : Option Line) (b : Board) → AreSpelled names (notes_of (event.Gone c) (lost_as c o b))
  loses c None b = tt
  loses c (Some line) b = (tt, ended c (option_map (λ f. ends_as f (without c b).lines) line.feeds))

  effects : (e : Event) (b : Board) → IsEvent names e → AreSpelled names (notes_of e (effect_of e b))
  effects (event.Accept c) b is = comes c b.free b
  effects (event.Join c cluster) b is = tt
  effects (event.Read c octets) b is = reads c octets (feeds_of (b.lines c)) b is.0
  effects (event.Gone c) b is = loses c (b.lines c) b
  effects (event.Room c n) b is = leaves c n (b.lines c)
  effects (event.Tick now) b is = tt
  effects (event.Post p n job) b is = tt
  effects (event.Obey v ps) b is = tt
  effects (event.Plain e) b is = tt

  at_least : (n : ℕ) → 1 ≤ n + 1
  at_least n = omega arith

  -- those of a whole dispatch
  pub spelled : (n : ℕ) (e : Event) (b : Board) → IsEvent names e → AreSpelled names (note.Turn (n + 1) e ∷ notes_of e (effect_of e b))
  spelled n e b is = ((at_least n, is), effects e b is)
