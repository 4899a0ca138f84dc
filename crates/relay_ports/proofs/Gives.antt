-- What the memory form gives may come, and is seen.
use Rattle.relay_ports.proofs.Lists.{held_here, held_less, held_more, held_other, live_as, live_less, live_more, not_both}
use Rattle.relay_ports.specs.Holding.{Holds}
use Rattle.relay_ports.specs.Memory.{Tap, TapsMemory, answer_of, called, ended, gave, held_as, held_in, live_in, may_come, seen_of, taps_after, without_tap}
use Rattle.mem_ports.specs.Steps.{StepsMemory}
use Rattle.std.proofs.Common.{ap, arith, refl, subst, sym, ◌∙◌}
use Rattle.std.proofs.lemmas.Bool.Decides.{nat_tests}
use Rattle.std.specs.List.{list_any}
use Rattle.std.specs.Prelude.{Bool, List, Some, [], false, if◌then◌else◌, length, nat_eq, nat_le, nat_lt, not, true, ℕ, ◌&&◌, ◌++◌, ◌<◌, ◌∷◌, ◌≡◌, ◌≤◌}
use Rattle.worker_ports.specs.Wires.{Gives, MayCome, Seen, closed, given, held_after, is_held, is_live, live_after, without}
use Rattle.worker_ports.specs.declared.wires.WireStep.{WireStep}
use Rattle.worker_ports.specs.declared.wires.Wired.{Wired}
use Rattle.worker_ports.specs.declared.wires.WireStep.TheVariants as step
use Rattle.worker_ports.specs.declared.wires.Wired.TheVariants as wired

-- ---- tests
left : (a b : Bool) → (a && b) ≡ true → a ≡ true
left true b e = refl
left false b e = cc

right : (a b : Bool) → (a && b) ≡ true → b ≡ true
right true b e = e
right false b e = cc

is_less : (a b : ℕ) → nat_lt a b ≡ true → a < b
is_less a b e = grind (arith, nat_tests)

is_most : (a b : ℕ) → nat_le a b ≡ true → a ≤ b
is_most a b e = grind (arith, nat_tests)

not_held : (b : Bool) → not b ≡ true → b ≡ false
not_held true e = cc
not_held false e = refl

comes_if : (seen : Seen) (w : Wired) → may_come seen w ≡ true → MayCome seen w
comes_if seen (wired.Accept c) e = is_less seen.greatest c e
comes_if seen (wired.Join c cluster) e = (is_less seen.greatest c (left _ _ e), is_less cluster seen.clusters (right (nat_lt seen.greatest c) _ e))
comes_if seen (wired.Read c octets) e =
    let rest : (not (is_held c seen) && (nat_lt 0 (length octets) && nat_le (length octets) 16384)) ≡ true = right (is_live c seen) _ e in
    let sizes : (nat_lt 0 (length octets) && nat_le (length octets) 16384) ≡ true = right (not (is_held c seen)) _ rest in
    ((left (is_live c seen) _ e, not_held (is_held c seen) (left _ _ rest)), (is_less 0 (length octets) (left _ _ sizes), is_most (length octets) 16384 (right (nat_lt 0 (length octets)) _ sizes)))
comes_if seen (wired.Lost c) e = e
comes_if seen wired.Idle e = tt
comes_if seen wired.Stop e = tt

answer_if : (seen : Seen) (b : Bool) (w : Wired) → (b ≡ true → MayCome seen w) → MayCome seen (if b then w else wired.Idle)
answer_if seen true w k = k refl
answer_if seen false w k = tt

answer_comes : (seen : Seen) (ws : List Wired) → MayCome seen (answer_of seen ws)
answer_comes seen [] = tt
answer_comes seen (w ∷ ws) = answer_if seen (may_come seen w) w (comes_if seen w)

-- ---- what is seen then
live_then : (w : Wired) (taps : List Tap) → live_in (taps_after w taps) ≡ live_after w (live_in taps)
live_then (wired.Accept c) taps = live_more c taps
live_then (wired.Join c cluster) taps = live_more c taps
live_then (wired.Read c octets) taps = refl
live_then (wired.Lost c) taps = live_less c taps
live_then wired.Idle taps = refl
live_then wired.Stop taps = refl

held_then : (w : Wired) (taps : List Tap) → held_in (taps_after w taps) ≡ held_after w (held_in taps)
held_then (wired.Accept c) taps = held_more c taps
held_then (wired.Join c cluster) taps = held_more c taps
held_then (wired.Read c octets) taps = refl
held_then (wired.Lost c) taps = held_less c taps
held_then wired.Idle taps = refl
held_then wired.Stop taps = refl

pub gives_answer : (old new : TapsMemory) (w : Wired) → w ≡ answer_of (seen_of old) old.answers → new ≡ gave w (called old) → Gives (seen_of old) w (seen_of new)
gives_answer old new w a e = record {
  may = subst (λ v. MayCome (seen_of old) v) (sym a) (answer_comes (seen_of old) old.answers);
  is = ap (λ (m : TapsMemory). seen_of m) e ∙ seen_given;
}
  where
    seen_given : seen_of (gave w (called old)) ≡ given w (seen_of old)
    seen_given = λ i. record { clusters = old.clusters; live = live_then w old.taps i; greatest = (given w (seen_of old)).greatest; held = held_then w old.taps i; steps = Some (old.steps ++ step.Gave w ∷ []) }

seen_closed : (c : ℕ) (old : TapsMemory) → seen_of (ended c old) ≡ closed c (seen_of old)
seen_closed c old = seen_if (list_any (nat_eq c) (live_in old.taps))
  where
    seen_if : (b : Bool) → seen_of (if b then record old { taps = without_tap c old.taps; steps = old.steps ++ step.Closed c ∷ [] } else old)
        ≡ (if b then record (seen_of old) { live = without c (live_in old.taps); held = without c (held_in old.taps); steps = Some (old.steps ++ step.Closed c ∷ []) } else seen_of old)
    seen_if true = λ i. record (seen_of old) { live = live_less c old.taps i; held = held_less c old.taps i; steps = Some (old.steps ++ step.Closed c ∷ []) }
    seen_if false = refl

-- ---- once one was closed
abbrev with_taps : TapsMemory → List Tap → StepsMemory → TapsMemory
with_taps w taps s = record w { taps = taps; steps = s.steps; offers = s.offers; octets = s.octets }

abbrev one_closed : ℕ → TapsMemory → TapsMemory
one_closed c w = record w { taps = without_tap c w.taps; steps = w.steps ++ step.Closed c ∷ [] }

pub ended_live : (c : ℕ) (w : TapsMemory) (taps : List Tap) (s : StepsMemory) (others : ℕ) → list_any (nat_eq c) (live_in w.taps) ≡ true → taps ≡ without_tap c w.taps
    → s ≡ record { steps = w.steps ++ step.Closed c ∷ []; offers = w.offers; octets = w.octets; others = others } → with_taps w taps s ≡ ended c w
ended_live c w taps s others live t e = (λ i. with_taps w (t i) (e i)) ∙ sym (ap (λ (b : Bool). if b then one_closed c w else w) live)

pub ended_none : (c : ℕ) (w : TapsMemory) (taps : List Tap) → list_any (nat_eq c) (live_in w.taps) ≡ false → taps ≡ w.taps → record w { taps = taps } ≡ ended c w
ended_none c w taps none t = ap (λ (ts : List Tap). record w { taps = ts }) t ∙ sym (ap (λ (b : Bool). if b then one_closed c w else w) none)

pub closed_live : (c : ℕ) (w : TapsMemory) (taps : List Tap) (s : StepsMemory) (others : ℕ) → list_any (nat_eq c) (live_in w.taps) ≡ true → taps ≡ without_tap c w.taps
    → s ≡ record { steps = w.steps ++ step.Closed c ∷ []; offers = w.offers; octets = w.octets; others = others } → seen_of (with_taps w taps s) ≡ closed c (seen_of w)
closed_live c w taps s others live t e = ap (λ (m : TapsMemory). seen_of m) (ended_live c w taps s others live t e) ∙ seen_closed c w

pub closed_none : (c : ℕ) (w : TapsMemory) (taps : List Tap) → list_any (nat_eq c) (live_in w.taps) ≡ false → taps ≡ w.taps → seen_of (record w { taps = taps }) ≡ closed c (seen_of w)
closed_none c w taps none t = ap (λ (m : TapsMemory). seen_of m) (ended_none c w taps none t) ∙ seen_closed c w

pub holds_one : (c : ℕ) (h : Bool) (old new : TapsMemory) → new ≡ record old { taps = held_as c h old.taps } → Holds c h (seen_of old) (seen_of new)
holds_one c h old new e = subst (λ (m : TapsMemory). Holds c h (seen_of old) (seen_of m)) (sym e) (record {
  clusters = refl;
  live = live_as c h old.taps;
  greatest = refl;
  steps = refl;
  held = λ d. held_if d (nat_eq c d) refl;
})
  where
    held_if : (d : ℕ) (b : Bool) → nat_eq c d ≡ b
        → list_any (nat_eq d) (held_in (held_as c h old.taps)) ≡ (if b then h && list_any (nat_eq c) (live_in old.taps) else list_any (nat_eq d) (held_in old.taps))
    held_if d true k = ap (λ (x : ℕ). list_any (nat_eq x) (held_in (held_as c h old.taps))) (sym (same c d k)) ∙ held_here c h old.taps
      where
        same : (a b : ℕ) → nat_eq a b ≡ true → a ≡ b
        same a b t = grind (arith, nat_tests)
    held_if d false k = held_other c h d old.taps k
