-- A move that was made, and one that was refused.
use Rattle.std.proofs.Common.{◌≡◌, ◌<◌, ◌≤◌, ℕ, length, sym, subst}
use Rattle.exchange_core.proofs.FlowSound.{moved_sound}
use Rattle.exchange_core.proofs.Stepping.{stage_moves}
use Rattle.exchange_core.specs.Flow.{Flow, IsSound, octets_in}
use Rattle.exchange_core.specs.Kept.{IsKeptFlow, flow_of}
use Rattle.exchange_core.specs.declared.flow.Flow.TheInside.{Inside}
use Rattle.filter_chain.specs.Chain.{Chain, IsSound as IsSoundChain}
use Rattle.filter_chain.specs.Effects.{released}
use Rattle.filter_chain.specs.declared.fault.OfferFault.{OfferFault}
use Rattle.std.specs.Prelude.{Err, Ok, OnErr, OnOk, Result}
use Rattle.wm_buffer.specs.declared.buffer.Shifted.{Shifted}

-- a stage let go, or didn't
pub released_kept : (inside : Inside) (p n : ℕ) (chain : Chain) (r : Result Shifted OfferFault) → IsKeptFlow inside → 1 ≤ p → 0 < n → n ≤ length (octets_in (flow_of inside) p)
    → OnOk r (chain ≡ released inside.chain p n) → OnErr r (chain ≡ inside.chain) → IsSoundChain chain
    → IsKeptFlow (record inside { chain = chain })
released_kept inside p n chain (Ok x) kept first some few moves err sound = record {
  sound = rw moves (subst IsSound (stage_moves (flow_of inside) p n first)
      (moved_sound p n (flow_of inside) kept.sound some few (subst (λ (flow : Flow). IsSoundChain flow.chain) (sym (stage_moves (flow_of inside) p n first)) (subst IsSoundChain moves sound))));
  ready = kept.ready;
  limit = kept.limit;
  low = kept.low;
  quantum = cc;
}
released_kept inside p n chain (Err e) kept first some few moves err sound = record {
  sound = rw err kept.sound;
  ready = kept.ready;
  limit = kept.limit;
  low = kept.low;
  quantum = cc;
}
