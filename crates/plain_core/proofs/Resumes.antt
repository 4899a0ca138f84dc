-- The resumes of flows that are told that the write buffer drained.
use Rattle.flow_gate.specs.Board.{pending_on}
use Rattle.flow_rules.specs.declared.ids.FlowId.{FlowId}
use Rattle.flow_notes.specs.declared.notes.Note.{Note}
use Rattle.std.proofs.Common.{ap, append_assoc, arith, sym, ◌∙◌}
use Rattle.std.proofs.Math.Seq.{take-append_seam}
use Rattle.std.proofs.lemmas.List.{append-nil, length-append}
use Rattle.std.specs.List.{AllByRecursion}
use Rattle.std.specs.Prelude.{List, None, Some, [], false, length, option_to_list, take, true, ℕ, ◌++◌, ◌+◌, ◌∷◌, ◌≡◌}
use Rattle.plain_core.proofs.FlowTells.{wakes_above}
use Rattle.plain_core.specs.Carries.{Wakes}
use Rattle.plain_core.specs.Noting.{resumes_of}
use Rattle.plain_core.specs.Telling.{IsToldNext, TellsUpTo}
use Rattle.plain_core.specs.declared.flows.Flows.{Flows}
use Rattle.plain_core.specs.declared.telling.Told.{Told}
use Rattle.flow_rules.specs.declared.ids.BufferId.TheVariants as buffer

pub all_more : (P : FlowId → Type 0) (fs : List FlowId) (f : FlowId) → AllByRecursion P fs → P f → AllByRecursion P (fs ++ f ∷ [])
all_more P [] f a p = (p, tt)
all_more P (g ∷ fs) f a p = (a.0, all_more P fs f a.1 p)

-- ---- who is told next
pub next_wakes : (flows : Flows) (fs : List FlowId) (f : FlowId) (rest : List FlowId) (n : ℕ) → fs ++ f ∷ rest ≡ pending_on flows.gates (buffer.Write 0)
    → AllByRecursion (λ g. Wakes flows g.exchange false) fs → n ≡ length fs → IsToldNext flows (record { n = n + 1; next = Some f })
next_wakes flows fs f rest n e stay is = record {
  still = fs;
  rest = rest;
  whole = sym e ∙ sym (append_assoc fs (f ∷ []) rest);
  number = let l = length-append fs (f ∷ []) in omega (arith, is, l);
  stay = stay;
  last = tt;
}

pub none_wakes : (flows : Flows) (fs rest : List FlowId) (n : ℕ) → fs ++ rest ≡ pending_on flows.gates (buffer.Write 0) → rest ≡ []
    → AllByRecursion (λ g. Wakes flows g.exchange false) fs → n ≡ length fs → IsToldNext flows (record { n = n; next = None })
none_wakes flows fs rest n e none stay is = record {
  still = fs;
  rest = rest;
  whole = cc (append-nil fs);
  number = cc (append-nil fs);
  stay = stay;
  last = none;
}

-- while the write buffer is above, none goes on
pub all_still : (flows : Flows) (fs : List FlowId) → flows.conn.write.above ≡ true → AllByRecursion (λ g. Wakes flows g.exchange false) fs
all_still flows [] high = tt
all_still flows (f ∷ fs) high = (wakes_above flows f.exchange high, all_still flows fs high)

-- ---- their resumes
-- the first so many are those that are told
module _ (flows : Flows) (told : Told) where
  told_are : (t : IsToldNext flows told) → take told.n (pending_on flows.gates (buffer.Write 0)) ≡ t.still ++ option_to_list told.next
  told_are t =
      let fs = t.still ++ option_to_list told.next in
      ap (take told.n) t.whole ∙ ap (λ (n : ℕ). take n (fs ++ t.rest)) t.number ∙ take-append_seam fs t.rest

  pub told_noted : (lows : List FlowId) (old new : List Note) → lows ≡ pending_on flows.gates (buffer.Write 0) → IsToldNext flows told
      → new ≡ old ++ resumes_of (buffer.Write 0) (take told.n lows) → TellsUpTo flows old told new
  told_noted lows old new e t is = record {
    is = t;
    notes = cc (told_are t);
  }
