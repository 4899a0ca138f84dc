-- Whether a flow is clear, by what its watches say.
use Rattle.flow_gate.proofs.CallsEnds.{are_watches}
use Rattle.flow_gate.proofs.Reading.{FlowFound, count_found, is_marked-board}
use Rattle.flow_gate.specs.Board.{count, is_marked}
use Rattle.flow_gate.specs.Books.{Books}
use Rattle.flow_gate.specs.Parts.{AreGates, AreWatches, Buffers, Flows, above_at, board_of, held, watched_in}
use Rattle.flow_rules.specs.declared.ids.BufferId.{BufferId}
use Rattle.flow_rules.specs.declared.ids.FlowId.{FlowId}
use Rattle.flow_gate.specs.declared.watcher.Watch.{Watch}
use Rattle.std.proofs.Common.{ap, arith, subst, sym, ◌∙◌}
use Rattle.std.proofs.lemmas.Bool.{eq-eqb, eqb-true, false_from_ne_true}
use Rattle.std.specs.Prelude.{Bool, List, Some, count_by, false, not, true, ℕ, ◌&&◌, ◌<◌, ◌==◌, ◌≡◌, ◌≤◌}

some_held : (n : ℕ) (t : Bool) → 0 < n → false ≡ ((n == 0) && t)
some_held n t some = ap (λ e. e && t) (sym (false_from_ne_true (n == 0) (λ is. nat_apart (eqb-true n 0 is))))
  where
    nat_apart : n ≡ 0 → ⊥
    nat_apart none = omega (arith, none, some)

-- of a flow with these watches, which hold it back n times
module _ (f : FlowId) (books : Books) (ws : List Watch) (flows : Flows) (buffers : Buffers) (n : ℕ)
    (found : FlowFound f (Some books) flows) (lists : ws ≡ books.watches) (gates : AreGates flows buffers)
    (counts : (g : FlowId) → AreWatches g ws buffers → n ≡ held buffers g (watched_in ws)) where
  is_held : n ≡ held buffers f (watched_in ws)
  is_held = counts f (subst (λ xs. AreWatches f xs buffers) (sym lists) (are_watches f books flows buffers found gates))

  pub is_count : n ≡ count (board_of flows buffers) f
  is_count = is_held ∙ ap (λ xs. held buffers f (watched_in xs)) lists ∙ count_found flows buffers f (Some books) found

  pub not_clear : (t : Bool) → 0 < n → false ≡ ((count (board_of flows buffers) f == 0) && t)
  not_clear t some = some_held n t some ∙ ap (λ k. (k == 0) && t) is_count

  module _ (none : n ≤ 0) where
    no_count : count (board_of flows buffers) f ≡ 0
    no_count = omega (arith, is_count, none)

    none_above : count_by (above_at buffers) (watched_in ws) ≡ 0
    none_above = omega (arith, is_held, none)

    is_low : (b : BufferId) (r : Bool) → (count_by (above_at buffers) (watched_in ws) ≡ 0 → r ≡ not (above_at buffers b)) → r ≡ not (is_marked (board_of flows buffers) b)
    is_low b r low = low none_above ∙ ap not (sym (is_marked-board flows buffers b))

    -- both are looked up, or the first answers
    pub clear_by_both : (b c : BufferId) (p r : Bool) → (count_by (above_at buffers) (watched_in ws) ≡ 0 → p ≡ not (above_at buffers b)) → p ≡ true →
        (count_by (above_at buffers) (watched_in ws) ≡ 0 → r ≡ not (above_at buffers c)) →
        r ≡ ((count (board_of flows buffers) f == 0) && (not (is_marked (board_of flows buffers) b) && not (is_marked (board_of flows buffers) c)))
    clear_by_both b c p r first low second =
        λ i. sym (eq-eqb (count (board_of flows buffers) f) 0 no_count) i && ((sym low ∙ is_low b p first) i && is_low c r second i)

    pub clear_by_first : (b c : BufferId) (p : Bool) → (count_by (above_at buffers) (watched_in ws) ≡ 0 → p ≡ not (above_at buffers b)) → p ≡ false →
        p ≡ ((count (board_of flows buffers) f == 0) && (not (is_marked (board_of flows buffers) b) && not (is_marked (board_of flows buffers) c)))
    clear_by_first b c p first high =
        high ∙ (λ i. sym (eq-eqb (count (board_of flows buffers) f) 0 no_count) i && ((sym high ∙ is_low b p first) i && not (is_marked (board_of flows buffers) c)))
