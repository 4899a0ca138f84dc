-- On a lawful tape of a plain session octets are framed from the last place that octets came to.
use Rattle.flow_rules.specs.declared.ids.FlowId.{FlowId}
use Rattle.std.proofs.Common.{arith, inl, inr, length-append, refl}
use Rattle.std.proofs.lemmas.Bool.{eqb-true}
use Rattle.std.proofs.lemmas.List.{length-map, length-set}
use Rattle.std.specs.Prelude.{Bool, List, None, Option, Some, [], false, if◌then◌else◌, length, map, min, set, true, ℕ, ◌++◌, ◌+◌, ◌-◌, ◌<◌, ◌==◌, ◌∷◌, ◌≡◌, ◌≤◌, ◌⊎◌}
use Rattle.tape_laws.specs.Flows.{same_flow}
use Rattle.tape_laws.specs.History.{EachFollows, History, NoMark, Noted}
use Rattle.tape_laws.specs.Plain.{plain_setup}
use Rattle.tape_laws.specs.Release.{MayStand, is_free}
use Rattle.tape_laws.specs.World.{place}
use Rattle.tape_laws.specs.declared.PlainLimits.{PlainLimits}
use Rattle.tape_plot.proofs.Holding.{lt_or_le, place_lengths}
use Rattle.std.proofs.Math.ListN.{get_or-eq_default}
use Rattle.tape_plot.specs.Levels.{at, entered, filled, framed, moved, places, relayed, top}
use Rattle.tape_plot.specs.Tops.{AreFromTop, HaveStreams}
use Rattle.flow_notes.specs.declared.notes.Note.TheVariants as note

-- ---- a flow has two places

filled_few : (p n : ℕ) (held : List ℕ) → p ≤ 1 → length held ≤ 2 → length (filled p n held) ≤ 2
filled_few p n held le few = by (p == length held) refl
  where
    by : (b : Bool) → (p == length held) ≡ b → length (if b then held ++ n ∷ [] else set held p (at held p + n)) ≤ 2
    by true e = omega (arith, length-append held (n ∷ []), eqb-true p (length held) e, le)
    by false e = omega (arith, length-set held p (at held p + n), few)

entered_few : (o : Option ℕ) (n : ℕ) (held : List ℕ) → length held ≤ 2 → length (entered o n held) ≤ 2
entered_few None n held few = filled_few 0 n held (omega arith) few
entered_few (Some c) n held few = few

moved_few : (p n : ℕ) (held : List ℕ) → p ≡ 0 → length held ≤ 2 → length (moved p n held) ≤ 2
moved_few p n held z few = by (min n (at held p) == 0)
  where
    by : (b : Bool) → length (if b then held else filled (p + 1) (min n (at held p)) (set held p (at held p - min n (at held p)))) ≤ 2
    by true = few
    by false = filled_few (p + 1) (min n (at held p)) (set held p (at held p - min n (at held p))) (omega (arith, z)) (omega (arith, length-set held p (at held p - min n (at held p)), few))

zeros_few : (held : List ℕ) → length held ≤ 2 → length {A = ℕ} (map (λ _. 0) held) ≤ 2
zeros_few held few = let e : length {A = ℕ} (map (λ _. 0) held) ≡ length held = length-map held (λ _. 0) in omega (arith, e, few)

few_if : (b : Bool) (new old : List ℕ) → length new ≤ 2 → length old ≤ 2 → length (if b then new else old) ≤ 2
few_if true new old k l = k
few_if false new old k l = l

-- ---- what may stand

from_first : (b : Bool) (p : ℕ) → (if b then Some 0 else None) ≡ Some p → p ≡ 0
from_first true p e = cc
from_first false p e = cc

-- a frame takes no more than its flow's send buffer holds, which is place 1
from_top : (held : List ℕ) (n len : ℕ) → n ≤ len → at held 1 ≡ len → length held ≤ 2 → (n ≡ 0) ⊎ (top held ≡ 1)
from_top held n len le e few = by (lt_or_le 0 n) (lt_or_le 1 (length held))
  where
    by : (0 < n) ⊎ (n ≤ 0) → (1 < length held) ⊎ (length held ≤ 1) → (n ≡ 0) ⊎ (top held ≡ 1)
    by (inr none) k = inl (omega (arith, none))
    by (inl some) (inl two) = inr (omega (arith, two, few))
    by (inl some) (inr one) = absurd (omega (arith, some, le, e, get_or-eq_default held 0 one))

pub record Few (limits : PlainLimits) (h : History NoMark) : Type 0 where
  pub from : AreFromTop (plain_setup limits) h
  pub few : (f : FlowId) → length (places f h) ≤ 2

pub plain_few : (limits : PlainLimits) (h : History NoMark) → EachFollows (MayStand (plain_setup limits)) h → HaveStreams h → Few limits h
plain_few limits [] may has = record { from = tt; few = λ f. omega arith }
plain_few limits (Noted (note.Arrive g octets) ∷ past) may has =
    let was = plain_few limits past may.1 has.1 in record {
      from = (tt, was.from);
      few = λ f. few_if (same_flow g f) (entered (relayed f past) (length octets) (places f past)) (places f past) (entered_few (relayed f past) (length octets) (places f past) (was.few f)) (was.few f);
    }
plain_few limits (Noted (note.Move g p n) ∷ past) may has =
    let was = plain_few limits past may.1 has.1 in record {
      from = (tt, was.from);
      few = λ f. few_if (same_flow g f) (moved p n (places f past)) (places f past) (moved_few p n (places f past) (from_first (is_free (plain_setup limits) g 0 past) p may.0.last) (was.few f)) (was.few f);
    }
plain_few limits (Noted (note.Frame c g n last) ∷ past) may has =
    let was = plain_few limits past may.1 has.1 in
    let held = places g past in record {
      from = (from_top held n (length (place (plain_setup limits) g 1 past)) (omega (arith, may.0.all)) (place_lengths (plain_setup limits) past was.from g 1) (was.few g), was.from);
      few = λ f. few_if (same_flow g f) (framed n (places f past)) (places f past) (omega (arith, length-set (places f past) (top (places f past)) (at (places f past) (top (places f past)) - n), was.few f)) (was.few f);
    }
plain_few limits (Noted (note.Doom x why) ∷ past) may has =
    let was = plain_few limits past may.1 has.1 in record {
      from = (tt, was.from);
      few = λ f. few_if (f.exchange == x) (map (λ _. 0) (places f past)) (places f past) (zeros_few (places f past) (was.few f)) (was.few f);
    }
plain_few limits (Noted (note.Start x c s d) ∷ past) may has =
    let was = plain_few limits past may.1 has.1 in record { from = (has.0, was.from); few = was.few }
plain_few limits (step ∷ past) may has =
    let was = plain_few limits past may.1 has.1 in record { from = (tt, was.from); few = was.few }
