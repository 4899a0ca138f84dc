-- A flow that began and is forgotten leaves the gates as they were.
use Rattle.flow_gate.proofs.SameIds.{same_flow_exact}
use Rattle.flow_gate.specs.Board.{Board, FlowState, IsSound as AreSoundGates, is_known, is_marked, is_open, pending_on, times, times_of_buffer, watched_by, watchers_of}
use Rattle.flow_gate.specs.Changes.{Begins, Forgets, Same, goes_with, without}
use Rattle.flow_gate.specs.Ids.{is_own, same_flow}
use Rattle.flow_rules.specs.declared.ids.BufferId.{BufferId}
use Rattle.flow_rules.specs.declared.ids.FlowId.{FlowId}
use Rattle.std.proofs.Common.{ap, arith, refl, subst, sym, ◌∙◌}
use Rattle.std.specs.Map.{lookup}
use Rattle.std.specs.Option.{option_map_or}
use Rattle.std.specs.Prelude.{Bool, List, None, Option, Some, [], false, if◌then◌else◌, is_some, length, not, true, ℕ, ◌&&◌, ◌==◌, ◌||◌, ◌≡◌, ◌≤◌}
use Rattle.wire_flows.proofs.Boards.{unknown_low, unknown_unwatched}
use Rattle.wire_flows.proofs.Cases.{by_case}
use Rattle.wire_flows.proofs.Owners.{without_none}
use Rattle.wire_flows.specs.Begins.{BeginsFlow, Grows, IsFresh, IsSame}

-- a flow that isn't there watches nothing
pub closed_watches : (board : Board) (f : FlowId) → is_open board f ≡ false → watched_by board f ≡ []
unfolding is_open watched_by
closed_watches board f shut = by_found (lookup (same_flow f) board.flows) shut
  where
    by_found : (o : Option FlowState) → is_some o ≡ false → option_map_or (λ s. s.watched) o [] ≡ []
    by_found None e = refl
    by_found (Some s) e = cc

-- so it is no watcher, and no low of it is pending
pub closed_none : (board : Board) (f : FlowId) (b : BufferId) → AreSoundGates board → is_open board f ≡ false → times f (watchers_of board b) ≡ 0
closed_none board f b s shut = s.paired f b ∙ (λ i. times_in (closed_watches board f shut i))
  where
    times_in : List BufferId → ℕ
    times_in bs = times_of_buffer b bs

pub closed_low : (board : Board) (f : FlowId) (b : BufferId) → AreSoundGates board → is_open board f ≡ false → times f (pending_on board b) ≡ 0
closed_low board f b s shut = none (times f (pending_on board b)) (times f (watchers_of board b)) (s.pending f b) (closed_none board f b s shut)
  where
    none : (a b : ℕ) → a ≤ b → b ≡ 0 → a ≡ 0
    none a b l e = omega (arith, l, e)

-- the flow is there, and at most it and its own buffers were touched
pub record Partial (f : FlowId) (old new : Board) : Type 0 where
  pub flows : (g : FlowId) → is_open new g ≡ (same_flow f g || is_open old g)
  pub watched : (g : FlowId) → same_flow f g ≡ false → watched_by new g ≡ watched_by old g
  pub buffers : (b : BufferId) → is_own f b ≡ false → is_known new b ≡ is_known old b
  pub marks : Same is_marked old new
  pub watchers : (b : BufferId) → without f (watchers_of new b) ≡ without f (watchers_of old b)
  pub pending : Same pending_on old new

pub partly_begun : (f : FlowId) (old mid new : Board) → Begins f old mid → Grows f mid new → Partial f old new
partly_begun f old mid new b g = record {
  flows = λ h. g.flows h ∙ b.flows h;
  watched = λ h apart. g.watched h apart ∙ b.watched h;
  buffers = λ c other. g.buffers c other ∙ b.buffers c;
  marks = λ c. g.marks c ∙ b.marks c;
  watchers = λ c. g.watchers c ∙ ap (without f) (b.watchers c);
  pending = λ c. g.pending c ∙ b.pending c;
}

pub wholly_begun : (f : FlowId) (bs : List BufferId) (to : Option ℕ) (old mid new : Board) → BeginsFlow f bs to old mid → IsSame mid new → Partial f old new
wholly_begun f bs to old mid new b s = record {
  flows = λ h. s.flows h ∙ b.flows h;
  watched = λ h apart. s.watched h ∙ (b.watched h ∙ ap (λ t. if t then bs else watched_by old h) apart);
  buffers = λ c other. s.buffers c ∙ b.buffers c other;
  marks = λ c. s.marks c ∙ b.marks c;
  watchers = λ c. ap (without f) (s.watchers c) ∙ b.watchers c;
  pending = λ c. s.pending c ∙ b.pending c;
}

pub same_board : (old new : Board) → new ≡ old → IsSame old new
same_board old new e = record {
  flows = λ f. ap (λ b. is_open b f) e;
  watched = λ f. ap (λ b. watched_by b f) e;
  buffers = λ c. ap (λ b. is_known b c) e;
  marks = λ c. ap (λ b. is_marked b c) e;
  watchers = λ c. ap (λ b. watchers_of b c) e;
  pending = λ c. ap (λ b. pending_on b c) e;
}

module _ (f : FlowId) (old mid new : Board) (p : Partial f old mid) (k : Forgets f mid new) (shut : is_open old f ≡ false) (fresh : IsFresh f old) (s : AreSoundGates old) where
  own_goes : (b : BufferId) → is_own f b ≡ true → goes_with f mid b ≡ true
  own_goes b own =
      let none = p.watchers b ∙ ap (without f) (unknown_unwatched old b (fresh.unknown b own)) in
      λ i. own i && (length (none i) == 0)

  others_stay : (b : BufferId) → is_own f b ≡ false → goes_with f mid b ≡ false
  others_stay b other = ap (λ t. t && (length (without f (watchers_of mid b)) == 0)) other

  pub restored : IsSame old new
  restored = record {
    flows = λ g. k.flows g ∙ (ap (λ t. not (same_flow f g) && t) (p.flows g) ∙ by_case (same_flow f g)
        (λ same. ap (λ t. not t && (t || is_open old g)) same ∙ sym (ap (is_open old) (sym (same_flow_exact f g same)) ∙ shut))
        (λ apart. ap (λ t. not t && (t || is_open old g)) apart));
    watched = λ g. k.watched g ∙ by_case (same_flow f g)
        (λ same. ap (λ t. if t then [] else watched_by mid g) same ∙ sym (ap (watched_by old) (sym (same_flow_exact f g same)) ∙ closed_watches old f shut))
        (λ apart. ap (λ t. if t then [] else watched_by mid g) apart ∙ p.watched g apart);
    buffers = λ b. k.buffers b ∙ by_case (is_own f b)
        (λ own. ap (λ t. not t && is_known mid b) (own_goes b own) ∙ sym (fresh.unknown b own))
        (λ other. ap (λ t. not t && is_known mid b) (others_stay b other) ∙ p.buffers b other);
    marks = λ b. k.marks b ∙ by_case (is_own f b)
        (λ own. ap (λ t. not t && is_marked mid b) (own_goes b own) ∙ sym (unknown_low old b (fresh.unknown b own)))
        (λ other. ap (λ t. not t && is_marked mid b) (others_stay b other) ∙ p.marks b);
    watchers = λ b. k.watchers b ∙ (p.watchers b ∙ without_none f (watchers_of old b) (closed_none old f b s shut));
    pending = λ b. k.pending b ∙ (ap (without f) (p.pending b) ∙ without_none f (pending_on old b) (closed_low old f b s shut));
  }
