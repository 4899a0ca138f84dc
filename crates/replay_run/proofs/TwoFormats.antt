-- The two formats of a plain session's text spell the same limits and events.
use Rattle.flow_notes.specs.Event.{event_spelling}
use Rattle.flow_notes.specs.Line.{newline}
use Rattle.flow_notes.specs.declared.events.Event.{Event}
use Rattle.io_ports.specs.declared.octets.NoMemory.{NoMemory}
use Rattle.tape_laws.specs.Following.{MayFollowAll}
use Rattle.replay_run.specs.Formats.{InBothFormats, IsQuantumOfOne}
use Rattle.replay_run.specs.SeenTape.{IsSeen}
use Rattle.session_lines.specs.Seen.{Playing, event_lines, header_line, limits_line}
use Rattle.replay_run.specs.SessionText.{event_text_lines, limits_lines}
use Rattle.std.proofs.Common.{ap, append_assoc, arith, refl, subst, sym, ◌∙◌}
use Rattle.std.proofs.lemmas.Bool.Decides.{nat_tests}
use Rattle.std.proofs.lemmas.Grind.{common_steps}
use Rattle.std.proofs.lemmas.List.{append-nil, reverse-append}
use Rattle.std.specs.Fmt.{decimal}
use Rattle.std.specs.Prelude.{Bool, Err, IsTrue, List, Ok, OnOk, Result, [], codes, false, nat_le, reverse, true, ℕ, ◌&&◌, ◌++◌, ◌==◌, ◌∷◌, ◌≡◌, ◌↔◌}
use Rattle.tape_laws.specs.declared.PlainLimits.{PlainLimits}
use Rattle.flow_notes.specs.declared.events.Event.TheVariants as event
use Rattle.session_lines.specs.declared.order.Format.TheVariants as format

last_of : (a b : Bool) → IsTrue (a && b) → IsTrue b
last_of true b e = e
last_of false b e = cc

quantum_is : (n : ℕ) → IsTrue (n == 16384) → n ≡ 16384
quantum_is n e = grind (arith, nat_tests)

pub quantum_of_one : (l : PlainLimits) (es : List Event) → IsQuantumOfOne l es
quantum_of_one l es = record { quantum = λ s. quantum_is l.quantum (last_of (nat_le 1 l.recv && nat_le l.recv 16777216 && nat_le l.send 16777216 && nat_le l.write 16777216) (l.quantum == 16384) s.0) }

-- the limits lines
limits_more : (a b c d e : List ℕ) → (a ++ 32 ∷ (b ++ 32 ∷ (c ++ 32 ∷ d))) ++ (codes " " ++ e) ≡ a ++ 32 ∷ (b ++ 32 ∷ (c ++ 32 ∷ (d ++ 32 ∷ e)))
limits_more a b c d e = grind (arith, common_steps)

limits_two : (l : PlainLimits) → l.quantum ≡ 16384 → limits_line format.Two l ≡ limits_line format.One l ++ (codes " " ++ decimal 16384)
limits_two l e =
    ap (λ (q : ℕ). codes "limits" ++ 32 ∷ (decimal l.recv ++ 32 ∷ (decimal l.send ++ 32 ∷ (decimal l.write ++ 32 ∷ decimal q)))) e
    ∙ sym (limits_more (codes "limits") (decimal l.recv) (decimal l.send) (decimal l.write) (decimal 16384))

-- the lines of the events
lines_append : (names : List (List ℕ)) (xs ys : List Event) → event_text_lines names (xs ++ ys) ≡ event_text_lines names xs ++ event_text_lines names ys
lines_append names [] ys = refl
lines_append names (x ∷ xs) ys =
    ap (λ (v : List ℕ). (event_spelling names x ++ newline) ++ v) (lines_append names xs ys)
    ∙ sym (append_assoc (event_spelling names x ++ newline) (event_text_lines names xs) (event_text_lines names ys))

lines_back : (names : List (List ℕ)) (es : List Event) → MayFollowAll es → event_text_lines names (reverse es) ≡ event_lines es
lines_back names [] m = refl
lines_back names (event.Plain e ∷ es) m =
    ap (event_text_lines names) (reverse-append (event.Plain e ∷ []) es)
    ∙ lines_append names (reverse es) (event.Plain e ∷ [])
    ∙ ap (λ (v : List ℕ). v ++ ((event_spelling [] (event.Plain e) ++ newline) ++ [])) (lines_back names es m.1)
    ∙ ap (λ (v : List ℕ). event_lines es ++ v) (append-nil (event_spelling [] (event.Plain e) ++ newline))
lines_back names (event.Accept c ∷ es) m = absurd m.0
lines_back names (event.Join c cluster ∷ es) m = absurd m.0
lines_back names (event.Read c octets ∷ es) m = absurd m.0
lines_back names (event.Gone c ∷ es) m = absurd m.0
lines_back names (event.Room c n ∷ es) m = absurd m.0
lines_back names (event.Tick now ∷ es) m = absurd m.0
lines_back names (event.Post poster number job ∷ es) m = absurd m.0
lines_back names (event.Obey version pressures ∷ es) m = absurd m.0

both_allow : (l : PlainLimits) (es : List Event) → l.quantum ≡ 16384 → IsSeen (Playing format.One l es) ↔ IsSeen (Playing format.Two l es)
both_allow l es e =
    let ranges : Bool = nat_le 1 l.recv && nat_le l.recv 16777216 && nat_le l.send 16777216 && nat_le l.write 16777216 in
    let P : ℕ → Type 0 = λ q. IsTrue (ranges && (q == 16384)) ↔ IsTrue (ranges && (nat_le 16384 q && nat_le q 1048576)) in
    let same = subst P (sym e) (λ t. t, λ t. t) in
    (λ s. (same.0 s.0, s.1), λ s. (same.1 s.0, s.1))

pub in_both : (l : PlainLimits) (es : List Event) → l.quantum ≡ 16384 → InBothFormats l es
in_both l es e = record {
  allowed = both_allow l es e;
  limits = limits_line format.One l;
  events = event_lines es;
  one = refl;
  two = ap (λ (v : List ℕ). (header_line format.Two ++ newline) ++ (v ++ newline) ++ event_lines es) (limits_two l e);
  written = λ names s. ap (λ (v : List ℕ). limits_lines l ++ v) (lines_back names es s.1);
}

-- ---- what is written of the limits

spelled : (old a b c d : List ℕ)
    → (((((old ++ codes "h2replay-session 2 plain\n") ++ (codes "limits " ++ a)) ++ (codes " " ++ b)) ++ (codes " " ++ c)) ++ (codes " " ++ d)) ++ codes "\n"
    ≡ old ++ ((codes "h2replay-session 2 plain" ++ newline) ++ ((codes "limits" ++ 32 ∷ (a ++ 32 ∷ (b ++ 32 ∷ (c ++ 32 ∷ d)))) ++ newline))
spelled old a b c d = grind (arith, common_steps)

pub limits_put : (l : PlainLimits) (old t0 t1 t2 t3 t4 new : List ℕ) (a b c d : ℕ) (r : Result (Unit {0}) NoMemory) → a ≡ l.recv → b ≡ l.send → c ≡ l.write → d ≡ l.quantum
    → t0 ≡ old ++ codes "h2replay-session 2 plain\n" → t1 ≡ t0 ++ (codes "limits " ++ decimal a) → t2 ≡ t1 ++ (codes " " ++ decimal b) → t3 ≡ t2 ++ (codes " " ++ decimal c)
    → t4 ≡ t3 ++ (codes " " ++ decimal d) → OnOk r (new ≡ t4 ++ codes "\n") → OnOk r (new ≡ old ++ limits_lines l)
limits_put l old t0 t1 t2 t3 t4 new a b c d (Ok x) ea eb ec ed e0 e1 e2 e3 e4 en =
    en ∙ ap (λ (v : List ℕ). v ++ codes "\n") (
    e4 ∙ ap (λ (v : List ℕ). v ++ (codes " " ++ decimal d)) (e3 ∙ ap (λ (v : List ℕ). v ++ (codes " " ++ decimal c)) (e2 ∙ ap (λ (v : List ℕ). v ++ (codes " " ++ decimal b)) (e1 ∙ ap (λ (v : List ℕ). v ++ (codes "limits " ++ decimal a)) e0))))
    ∙ spelled old (decimal a) (decimal b) (decimal c) (decimal d)
    ∙ ap (λ k. old ++ limits_lines (record { recv = k; send = b; write = c; quantum = d })) ea
    ∙ ap (λ k. old ++ limits_lines (record { recv = l.recv; send = k; write = c; quantum = d })) eb
    ∙ ap (λ k. old ++ limits_lines (record { recv = l.recv; send = l.send; write = k; quantum = d })) ec
    ∙ ap (λ k. old ++ limits_lines (record { recv = l.recv; send = l.send; write = l.write; quantum = k })) ed
limits_put l old t0 t1 t2 t3 t4 new a b c d (Err x) ea eb ec ed e0 e1 e2 e3 e4 en = tt
