-- A loop that counts how often a flow is held back by the buffers that it watches, one after another.
use Rattle.flow_gate.proofs.Counting.{count-append}
use Rattle.flow_gate.proofs.Leaving.{map-append, some_line, split_list, watch_middle}
use Rattle.flow_gate.proofs.Placed.{line_in}
use Rattle.flow_gate.specs.Board.{times}
use Rattle.flow_gate.specs.Line.{Line, at_place, held_in}
use Rattle.flow_gate.specs.Parts.{AreWatches, Buffers, StandsIn, above_at, buffer_at, held, pending_at, watched_in}
use Rattle.flow_rules.specs.declared.ids.BufferId.{BufferId}
use Rattle.flow_rules.specs.declared.ids.FlowId.{FlowId}
use Rattle.flow_gate.specs.declared.watcher.Watch.{Watch}
use Rattle.std.proofs.Common.{ap, arith, get_or, subst, sym, ◌∙◌}
use Rattle.std.proofs.lemmas.List.Sums.{sum_by-append}
use Rattle.std.specs.Map.{values_of}
use Rattle.std.specs.Option.{option_map_or}
use Rattle.std.specs.Prelude.{List, Some, [], cond, drop, false, length, take, ℕ, ◌++◌, ◌+◌, ◌<◌, ◌∷◌, ◌≡◌, ◌≤◌}

-- one more buffer
held-push : (f : FlowId) (buffers : Buffers) (bs : List BufferId) (b : BufferId) →
    held buffers f (bs ++ b ∷ []) ≡ held buffers f bs + (cond (above_at buffers b) 1 0 + times f (pending_at buffers b))
held-push f buffers bs b =
    omega (arith, count-append (above_at buffers) bs (b ∷ []), sum_by-append (λ c. times f (pending_at buffers c)) bs (b ∷ []))

held_step : (f : FlowId) (so_far rest : List Watch) (w : Watch) (buffers : Buffers) (n more : ℕ) → AreWatches f (so_far ++ (w ∷ rest)) buffers →
    n ≡ held buffers f (watched_in so_far) → ((line : Line) → StandsIn f w line buffers → more ≡ held_in f line) →
    n + more ≡ held buffers f (watched_in (so_far ++ w ∷ []))
held_step f so_far rest w buffers n more are before counts =
    let at = watch_middle f so_far rest w buffers are in
    let line = some_line (buffer_at buffers w.buffer) w.place f at in
    let stands : StandsIn f w line.0 buffers = record {
      found = line.1;
      here = ap (λ o. at_place w.place (line_in o)) (sym line.1) ∙ at;
      once = subst (λ o. times f (values_of (line_in o)) ≤ 1) line.1 (are.once w.buffer);
    } in
    (λ i. before i + (counts line.0 stands ∙ sym (here line.0 line.1)) i)
    ∙ sym (held-push f buffers (watched_in so_far) w.buffer) ∙ ap (held buffers f) (sym (map-append (λ (v : Watch). v.buffer) so_far (w ∷ [])))
  where
    here : (l : Line) → buffer_at buffers w.buffer ≡ Some l → cond (above_at buffers w.buffer) 1 0 + times f (pending_at buffers w.buffer) ≡ held_in f l
    here l is = λ i. cond (option_map_or (λ (k : Line). k.above) (is i) false) 1 0 + times f (option_map_or (λ (k : Line). values_of k.pending) (is i) [])

pub held_more : (f : FlowId) (ws : List Watch) (i : ℕ) (d : Watch) (buffers : Buffers) (n more : ℕ) → i < length ws → AreWatches f ws buffers →
    n ≡ held buffers f (watched_in (take i ws)) → ((line : Line) → StandsIn f (get_or ws i d) line buffers → more ≡ held_in f line) →
    n + more ≡ held buffers f (watched_in (take (i + 1) ws))
held_more f ws i d buffers n more within are before counts =
    let parts = split_list ws i d within in
    held_step f (take i ws) (drop (i + 1) ws) (get_or ws i d) buffers n more (subst (λ xs. AreWatches f xs buffers) parts.0 are) before counts
    ∙ ap (λ xs. held buffers f (watched_in xs)) (sym parts.1)
