-- Whether a flow watches a buffer, by what the flow's books say.
use Rattle.flow_gate.proofs.Counting.{count-cons, sum-member}
use Rattle.flow_gate.proofs.Placed.{watches_in}
use Rattle.flow_gate.proofs.Reading.{FlowFound, watched-board, watched_at}
use Rattle.flow_gate.proofs.SameIds.{same_buffer-comm, same_buffer_exact}
use Rattle.flow_gate.specs.Board.{times, times_of_buffer, watchers_of}
use Rattle.flow_gate.specs.Books.{Books}
use Rattle.flow_gate.specs.Ids.{same_buffer, same_flow}
use Rattle.flow_gate.specs.Parts.{AreGates, Buffers, Flows, above_at, board_of, watched_in}
use Rattle.flow_rules.specs.contracts.ids.BufferIdPartialEq.TheImpl as buffer_eq
use Rattle.flow_rules.specs.contracts.ids.FlowIdPartialEq.TheImpl as flow_eq
use Rattle.flow_rules.specs.declared.ids.BufferId.{BufferId}
use Rattle.flow_rules.specs.declared.ids.BufferId.TheVariants as buffer
use Rattle.flow_rules.specs.declared.ids.FlowId.{FlowId}
use Rattle.flow_gate.specs.declared.watcher.Watch.{Watch}
use Rattle.std.proofs.Common.{ap, arith, refl, sym, ◌∙◌}
use Rattle.std.proofs.lemmas.Bool.{lt-ltb, ltb-false, ltb-true}
use Rattle.std.specs.Bool.{beq}
use Rattle.std.specs.List.{list_any}
use Rattle.std.specs.Prelude.{Bool, List, None, Option, Some, [], cond, count_by, false, if◌then◌else◌, nat_lt, not, true, ℕ, ◌&&◌, ◌+◌, ◌==◌, ◌||◌, ◌∷◌, ◌≡◌, ◌≤◌, ◌↔◌}

-- what `==` of two buffers answers
abbrev pub eq_of : BufferId → BufferId → Bool
eq_of = (buffer_eq.ghosts).eq

eq-back : (a b : Bool) → beq a b ≡ (if a then b else not b)
eq-back true true = refl
eq-back true false = refl
eq-back false true = refl
eq-back false false = refl

eq-flow : (f g : FlowId) → (flow_eq.ghosts).eq f g ≡ same_flow f g
eq-flow f g = ap (λ t. (f.exchange == g.exchange) && t) (eq-back f.back g.back)

eq-buffer : (b c : BufferId) → eq_of b c ≡ same_buffer b c
eq-buffer (buffer.Recv f) (buffer.Recv g) = eq-flow f g
eq-buffer (buffer.Stage f i) (buffer.Stage g j) = ap (λ t. t && (i == j)) (eq-flow f g)
eq-buffer (buffer.Send f) (buffer.Send g) = eq-flow f g
eq-buffer (buffer.Write c) (buffer.Write d) = refl
eq-buffer _ _ = refl

pub any_watch : (b : BufferId) (ws : List Watch) → list_any (λ w. eq_of w.buffer b) ws ≡ nat_lt 0 (times_of_buffer b (watched_in ws))
any_watch b [] = refl
any_watch b (w ∷ ws) =
    ap (λ t. t || list_any (λ v. eq_of v.buffer b) ws) (eq-buffer w.buffer b ∙ same_buffer-comm w.buffer b)
    ∙ ap (λ t. same_buffer b w.buffer || t) (any_watch b ws)
    ∙ either (same_buffer b w.buffer) (times_of_buffer b (watched_in ws))
    ∙ ap (nat_lt 0) (sym (count-cons (same_buffer b) w.buffer (watched_in ws)))
  where
    either : (t : Bool) (n : ℕ) → (t || nat_lt 0 n) ≡ nat_lt 0 (cond t 1 0 + n)
    either true n = sym (lt-ltb 0 (1 + n) (omega arith))
    either false n = ap (nat_lt 0) (omega arith)

pub watching : (f : FlowId) (b : BufferId) (books : Option Books) (ws : List Watch) (flows : Flows) (buffers : Buffers) → FlowFound f books flows → watches_in books ≡ ws →
    AreGates flows buffers → nat_lt 0 (times_of_buffer b (watched_in ws)) ≡ nat_lt 0 (times f (watchers_of (board_of flows buffers) b))
watching f b books ws flows buffers found lists gates =
    ap (λ xs. nat_lt 0 (times_of_buffer b (watched_in xs))) (sym lists) ∙ ap (λ bs. nat_lt 0 (times_of_buffer b bs)) (watched books)
    ∙ ap (λ o. nat_lt 0 (times_of_buffer b (watched_at o))) found
    ∙ ap (λ bs. nat_lt 0 (times_of_buffer b bs)) (sym (watched-board flows buffers f)) ∙ ap (nat_lt 0) (sym (gates.sound.paired f b))
  where
    watched : (o : Option Books) → watched_in (watches_in o) ≡ watched_at o
    watched None = refl
    watched (Some s) = refl

-- a test for some is false exactly where there is none
pub apart : (r : Bool) (n : ℕ) → r ≡ nat_lt 0 n → (r ≡ false) ↔ (n ≡ 0)
apart r n is = (λ e. none (ltb-false 0 n (sym is ∙ e)), λ e. is ∙ ap (nat_lt 0) e)
  where
    none : {m : ℕ} → m ≤ 0 → m ≡ 0
    none le = omega arith

-- where none of these buffers is above, one that is among them isn't
pub low_among : (b : BufferId) (bs : List BufferId) (buffers : Buffers) → count_by (above_at buffers) bs ≡ 0 → nat_lt 0 (times_of_buffer b bs) ≡ true → true ≡ not (above_at buffers b)
low_among b bs buffers none some = low (above_at buffers b) (omega (arith, none, sum-member same_buffer same_buffer_exact (λ c. cond (above_at buffers c) 1 0) b bs (ltb-true 0 (times_of_buffer b bs) some)))
  where
    low : (a : Bool) → cond a 1 0 ≤ 0 → true ≡ not a
    low true le = absurd (omega (arith, le))
    low false le = refl
