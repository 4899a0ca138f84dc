-- What a frame marks in the gates.
use Rattle.flow_gate.specs.Board.{Board, pending_on, watchers_of}
use Rattle.flow_gate.specs.Changes.{Drains, Rises, Same, Tells as TellsFlow}
use Rattle.flow_rules.specs.declared.ids.BufferId.{BufferId}
use Rattle.flow_rules.specs.declared.ids.FlowId.{FlowId}
use Rattle.plain_laws.proofs.Streams.{same_number}
use Rattle.std.proofs.Common.{ap, refl, sym, ◌∙◌}
use Rattle.std.specs.Prelude.{Bool, IsNone, List, None, Option, Some, [], false, if◌then◌else◌, not, option_to_list, true, ◌&&◌, ◌++◌, ◌==◌, ◌∷◌, ◌≡◌, ◌↔◌}
use Rattle.tape_laws.specs.Flows.{same_flow}
use Rattle.wm_buffer.specs.declared.watermark.Crossed.{Crossed}
use Rattle.wm_buffer.specs.declared.watermark.Crossed.TheVariants as crossed
use Rattle.flow_rules.specs.declared.ids.BufferId.TheVariants as buffer
use Rattle.plain_core.specs.Crossings.{DrainsAndTells, is_high, is_low}

own_flow : (f : FlowId) → same_flow f f ≡ true
own_flow f = both (f.exchange == f.exchange) f.back (same_number f.exchange)
  where
    both : (a b : Bool) → a ≡ true → (a && (if b then b else not b)) ≡ true
    both true true e = refl
    both true false e = refl
    both false b e = cc

-- the one flow that watches its send buffer is told
told_own : (f : FlowId) (told : Option FlowId) (rest p : List FlowId) (t : Bool) → t ≡ true → p ≡ f ∷ [] → (IsNone told ↔ (p ≡ [])) → p ≡ (if t then option_to_list told else []) ++ rest → option_to_list told ≡ f ∷ []
told_own f None rest p t e w none is = let empty : p ≡ [] = none.0 refl in absurd (cc)
told_own f (Some g) rest p t e w none is =
    let all : f ∷ [] ≡ g ∷ rest = cc in
    let same : f ≡ g = cc in
    ap (λ v. v ∷ []) (sym same)

-- what a rise leaves of the watchers and the pending lows
pub record RisesOrSame (old new : Board) : Type 0 where
  pub watchers : Same watchers_of old new
  pub pending : Same pending_on old new

pub risen : (b : BufferId) (old new : Board) → Rises b old new → RisesOrSame old new
risen b old new c = record { watchers = c.watchers; pending = c.pending }

pub unrisen : (board : Board) → RisesOrSame board board
unrisen board = record { watchers = λ b. refl; pending = λ b. refl }

pub drains_tells : (f : FlowId) (told : Option FlowId) (old mid between new : Board) → RisesOrSame old mid → Drains (buffer.Send f) mid between → pending_on old (buffer.Send f) ≡ []
    → watchers_of old (buffer.Send f) ≡ f ∷ [] → (IsNone told ↔ (pending_on between (buffer.Send f) ≡ [])) → TellsFlow (buffer.Send f) (option_to_list told) between new → DrainsAndTells f mid new
drains_tells f told old mid between new same d none one is t =
    let w = same.watchers (buffer.Send f) ∙ one in
    let p = d.pending (buffer.Send f) ∙ (cc (same.pending (buffer.Send f), own_flow f)) in
    let list = told_own f told (pending_on new (buffer.Send f)) (pending_on between (buffer.Send f)) (same_flow f f) (own_flow f) p is (t.pending (buffer.Send f)) in
    record { between = between; drains = d; tells = rw (← list) t }

pub not_high : (d : Crossed) → (d ≡ crossed.High → ⊥) → is_high d ≡ false
not_high crossed.High n = absurd (n refl)
not_high crossed.Low n = refl
not_high crossed.Nothing n = refl

pub not_low : (d : Crossed) → (d ≡ crossed.Low → ⊥) → is_low d ≡ false
not_low crossed.Low n = absurd (n refl)
not_low crossed.High n = refl
not_low crossed.Nothing n = refl
