-- What a pick takes: what the choice asks for, or the highest.
use Rattle.flow_rules.specs.contracts.ids.FlowIdPartialEq.TheImpl as flow_eq
use Rattle.flow_rules.specs.declared.ids.FlowId.{FlowId}
use Rattle.std.proofs.Common.{ap, inl, inr, refl, subst, sym, ◌∙◌}
use Rattle.std.proofs.lemmas.Bool.{eq-eqb}
use Rattle.std.specs.List.{Contains}
use Rattle.std.specs.Option.{option_eq}
use Rattle.std.specs.Prelude.{Bool, Option, Some, nat_eq, true, ℕ, ◌≡◌}
use Rattle.tape_plot.proofs.Placing.{beq_self}
use Rattle.tape_plot.specs.Picks.{IsPicked, buffers_of}
use Rattle.tape_plot.specs.Shown.{AsksFor}
use Rattle.tape_plot.specs.declared.highest.Buffer.{Buffer}
use Rattle.tape_plot.specs.declared.choice.Lanes.{Lanes}
use Rattle.tape_plot.specs.declared.draw.pick.Pick.{Pick}
use Rattle.tape_plot.specs.declared.highest.Buffer.TheVariants as buffer
use Rattle.tape_plot.specs.declared.choice.Lanes.TheVariants as lanes

flow_itself : (f : FlowId) → (flow_eq.ghosts).eq f f ≡ true
flow_itself f = rw (eq-eqb f.exchange f.exchange refl, beq_self f.back) refl

named_not : (flow : Option FlowId) (conn : Option ℕ) → lanes.Highest ≡ lanes.Named flow conn → ⊥
named_not flow conn e = cc

pub takes_high : (pick : Pick) (b : Buffer) (r : Bool) → pick.lanes ≡ lanes.Highest → (Contains (buffers_of pick) b → r ≡ true) → IsPicked pick b → r ≡ true
takes_high pick b r e has (inl asks) = absurd (subst (λ (v : Lanes). AsksFor v b) e asks)
takes_high pick b r e has (inr (k, there)) = has there

takes_named : (pick : Pick) (b : Buffer) (flow : Option FlowId) (conn : Option ℕ) → pick.lanes ≡ lanes.Named flow conn → IsPicked pick b → AsksFor (lanes.Named flow conn) b
takes_named pick b flow conn e (inl asks) = subst (λ (v : Lanes). AsksFor v b) e asks
takes_named pick b flow conn e (inr (k, there)) = absurd (named_not flow conn (sym k ∙ e))

pub takes_place : (pick : Pick) (b : Buffer) (f : FlowId) (p : ℕ) (flow : Option FlowId) (conn : Option ℕ) (r : Bool) → b ≡ buffer.Place f p → pick.lanes ≡ lanes.Named flow conn → r ≡ option_eq ((flow_eq.ghosts).eq) flow (Some f)
    → IsPicked pick b → r ≡ true
takes_place pick b f p flow conn r eb e er is =
    let asks : flow ≡ Some f = takes_named pick (buffer.Place f p) flow conn e (subst (IsPicked pick) eb is) in
    er ∙ ap (λ (v : Option FlowId). option_eq ((flow_eq.ghosts).eq) v (Some f)) asks ∙ flow_itself f

pub takes_write : (pick : Pick) (b : Buffer) (c : ℕ) (flow : Option FlowId) (conn : Option ℕ) (r : Bool) → b ≡ buffer.Write c → pick.lanes ≡ lanes.Named flow conn → r ≡ option_eq nat_eq conn (Some c)
    → IsPicked pick b → r ≡ true
takes_write pick b c flow conn r eb e er is =
    let asks : conn ≡ Some c = takes_named pick (buffer.Write c) flow conn e (subst (IsPicked pick) eb is) in
    er ∙ ap (λ (v : Option ℕ). option_eq nat_eq v (Some c)) asks ∙ eq-eqb c c refl
