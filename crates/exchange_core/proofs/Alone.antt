-- Which place moves next where the send buffer is the only one behind the receive buffer.
use Rattle.exchange_core.proofs.Sources.{later_last, later_step}
use Rattle.exchange_core.proofs.StageSources.{send_held}
use Rattle.exchange_core.specs.Flow.{Flow, last_place}
use Rattle.exchange_core.specs.Moves.{is_free, is_held_at, is_target_above, last_free, last_free_to, later_above, lets_go}
use Rattle.filter_chain.specs.Chain.{EndsInSend, kinds}
use Rattle.flow_gate.specs.Board.{Board, count, is_marked}
use Rattle.flow_rules.specs.declared.ids.BufferId.TheVariants as buffer
use Rattle.flow_rules.specs.declared.ids.BufferId.{BufferId}
use Rattle.flow_rules.specs.declared.ids.FlowId.{FlowId}
use Rattle.std.proofs.Common.{Bool, ap, arith, false, nat_lt, refl, sym, true, ℕ, ◌&&◌, ◌-◌, ◌<◌, ◌||◌, ◌≡◌, ◌∙◌}
use Rattle.std.proofs.lemmas.Bool.Decides.{nat_tests}
use Rattle.std.specs.Prelude.{None, Option, Some, if◌then◌else◌, not, ◌==◌}

-- the buffer beside the send buffer that is asked after: the write buffer that it goes to, or the send buffer once more
abbrev pub asked : FlowId → Option ℕ → BufferId
asked f None = buffer.Send f
asked f (Some c) = buffer.Write c

-- what the gates answer
abbrev pub is_clear : Board → FlowId → BufferId → Bool
is_clear board f target = (count board f == 0) && (not (is_marked board (buffer.Send f)) && not (is_marked board target))

pub answered : (board : Board) (f g h : FlowId) (target other : BufferId) (answer clear : Bool) →
    answer ≡ ((count board g == 0) && (not (is_marked board (buffer.Send h)) && not (is_marked board target))) → g ≡ f → h ≡ f → target ≡ other → answer ≡ clear →
    is_clear board f other ≡ clear
answered board f g h target other answer clear says flow send is a =
    sym (says ∙ (λ i. (count board (flow i) == 0) && (not (is_marked board (buffer.Send (send i))) && not (is_marked board (is i))))) ∙ a

and_none : (a : Bool) → false ≡ (a && false)
and_none true = refl
and_none false = refl

or_self : (a : Bool) → (a || false) ≡ (a || a)
or_self true = refl
or_self false = refl

one_test : (n : ℕ) (counts above target : Bool) → (nat_lt 0 (if counts then n else 0) && not (above || target)) ≡ (nat_lt 0 n && (counts && (not above && not target)))
one_test n true true target = refl
one_test n true false target = refl
one_test n false above target = and_none (nat_lt 0 n)

module _ (board : Board) (to : Option ℕ) (flow : Flow) (alone : last_place flow ≡ 1) (ends : EndsInSend (kinds flow.chain.places)) where
  send_alone : is_held_at board flow 1 ≡ is_marked board (buffer.Send flow.chain.flow)
  send_alone = send_held board flow 1 (omega arith) (sym alone) ends

  target_alone : later_above board to flow 1 ≡ is_target_above board to
  target_alone = cc (later_last board to flow)

  later_alone : later_above board to flow 0 ≡ (is_marked board (buffer.Send flow.chain.flow) || is_marked board (asked flow.chain.flow to))
  later_alone =
      later_step board to flow 0 (omega (arith, alone))
      ∙ (λ i. send_alone i || target_alone i)
      ∙ by_target to
    where
      by_target : (to : Option ℕ) → (is_marked board (buffer.Send flow.chain.flow) || is_target_above board to)
          ≡ (is_marked board (buffer.Send flow.chain.flow) || is_marked board (asked flow.chain.flow to))
      by_target None = or_self (is_marked board (buffer.Send flow.chain.flow))
      by_target (Some c) = refl

  free_alone : is_free board to flow 0 ≡ (nat_lt 0 (lets_go flow 0) && is_clear board flow.chain.flow (asked flow.chain.flow to))
  free_alone = cc (later_alone, one_test (lets_go flow 0) (count board flow.chain.flow == 0) (is_marked board (buffer.Send flow.chain.flow)) (is_marked board (asked flow.chain.flow to)))

  last_alone : (free : Bool) → is_free board to flow 0 ≡ free → last_free board to flow ≡ (if free then Some 0 else None)
  last_alone free is =
      let first : last_place flow - 1 ≡ 0 = omega (arith, alone) in
      ap (last_free_to board to flow) first ∙ ap (λ b. if b then Some 0 else None) is

  pub alone_found : 0 < lets_go flow 0 → is_clear board flow.chain.flow (asked flow.chain.flow to) ≡ true → last_free board to flow ≡ Some 0
  alone_found some clear =
      let lets : nat_lt 0 (lets_go flow 0) ≡ true = grind (arith, nat_tests) in
      last_alone true (free_alone ∙ (λ i. lets i && clear i))

  pub alone_held : is_clear board flow.chain.flow (asked flow.chain.flow to) ≡ false → last_free board to flow ≡ None
  alone_held held = last_alone false (cc (free_alone, and_none (nat_lt 0 (lets_go flow 0))))

  pub alone_empty : lets_go flow 0 ≡ 0 → last_free board to flow ≡ None
  alone_empty none = last_alone false (cc free_alone)
