-- What is seen of a roll once a connection has come, has left, or is held.
use Rattle.mio_edge.specs.Rolls.{RollValue, roll_seen}
use Rattle.relay_ports.proofs.Lists.{held_found, held_here, held_less, held_more, held_other, less_none, live_as, live_less, live_more, or_not, some_live}
use Rattle.relay_ports.specs.Holding.{Holds}
use Rattle.relay_ports.specs.Memory.{Rises, Tap, held_as, held_in, live_in, without_tap}
use Rattle.std.proofs.Common.{ap, arith, refl, subst, sym, ◌∙◌}
use Rattle.std.proofs.lemmas.Bool.Decides.{nat_tests}
use Rattle.std.specs.BTreeMap.{is_at}
use Rattle.std.specs.List.{list_any}
use Rattle.std.specs.Map.{lookup}
use Rattle.std.specs.Ordering.{nat_cmp}
use Rattle.std.specs.Prelude.{Bool, List, None, Option, Some, [], false, if◌then◌else◌, is_some, nat_eq, not, true, ℕ, ◌&&◌, ◌++◌, ◌∷◌, ◌≡◌}
use Rattle.worker_ports.specs.Wires.{closed, given, without}
use Rattle.worker_ports.specs.declared.wires.Wired.TheVariants as wired

abbrev pub roll_of : ℕ → List Tap → ℕ → RollValue
roll_of k taps g = record { clusters = k; taps = taps; greatest = g }

pub came : (k g c : ℕ) (old new : List Tap) → new ≡ old ++ (c, false) ∷ [] → roll_seen (roll_of k new c) ≡ given (wired.Accept c) (roll_seen (roll_of k old g))
came k g c old new e = λ i. record { clusters = k; live = (ap live_in e ∙ live_more c old) i; greatest = c; held = (ap held_in e ∙ held_more c old) i; steps = None }

-- one that was live is lost
pub lost : (k g c : ℕ) (old new : List Tap) → new ≡ without_tap c old → roll_seen (roll_of k new g) ≡ given (wired.Lost c) (roll_seen (roll_of k old g))
lost k g c old new e = λ i. record { clusters = k; live = (ap live_in e ∙ live_less c old) i; greatest = g; held = (ap held_in e ∙ held_less c old) i; steps = None }

pub left : (k g c : ℕ) (old new : List Tap) → new ≡ without_tap c old → roll_seen (roll_of k new g) ≡ closed c (roll_seen (roll_of k old g))
left k g c old new e = by_live (list_any (nat_eq c) (live_in old)) refl
  where
    by_live : (b : Bool) → list_any (nat_eq c) (live_in old) ≡ b
        → roll_seen (roll_of k new g) ≡ (if b then record (roll_seen (roll_of k old g)) { live = without c (live_in old); held = without c (held_in old) } else roll_seen (roll_of k old g))
    by_live true s = λ i. record { clusters = k; live = (ap live_in e ∙ live_less c old) i; greatest = g; held = (ap held_in e ∙ held_less c old) i; steps = None }
    by_live false n = ap (λ (taps : List Tap). roll_seen (roll_of k taps g)) (e ∙ less_none c old n)

pub holds_one : (k g c : ℕ) (h : Bool) (old new : List Tap) → new ≡ held_as c h old → Holds c h (roll_seen (roll_of k old g)) (roll_seen (roll_of k new g))
holds_one k g c h old new e = subst (λ (taps : List Tap). Holds c h (roll_seen (roll_of k old g)) (roll_seen (roll_of k taps g))) (sym e) (record {
  clusters = refl;
  live = live_as c h old;
  greatest = refl;
  steps = refl;
  held = λ d. held_if d (nat_eq c d) refl;
})
  where
    held_if : (d : ℕ) (b : Bool) → nat_eq c d ≡ b
        → list_any (nat_eq d) (held_in (held_as c h old)) ≡ (if b then h && list_any (nat_eq c) (live_in old) else list_any (nat_eq d) (held_in old))
    held_if d true s = ap (λ (x : ℕ). list_any (nat_eq x) (held_in (held_as c h old))) (sym (same c d s)) ∙ held_here c h old
      where
        same : (a b : ℕ) → nat_eq a b ≡ true → a ≡ b
        same a b t = grind (arith, nat_tests)
    held_if d false n = held_other c h d old n

-- a live connection that isn't held may be read
pub read_some : (c : ℕ) (h : Bool) (taps : List Tap) → Rises taps → lookup (is_at (nat_cmp c)) taps ≡ Some h → not h ≡ (list_any (nat_eq c) (live_in taps) && not (list_any (nat_eq c) (held_in taps)))
read_some c h taps r e =
    let live : list_any (nat_eq c) (live_in taps) ≡ true = sym (some_live c taps) ∙ ap (λ (o : Option Bool). is_some o) e in
    let held : list_any (nat_eq c) (held_in taps) ≡ h = sym (held_found c taps r) ∙ ap or_not e in
    sym (λ i. live i && not (held i))

pub read_none : (c : ℕ) (taps : List Tap) → lookup (is_at (nat_cmp c)) taps ≡ None → false ≡ (list_any (nat_eq c) (live_in taps) && not (list_any (nat_eq c) (held_in taps)))
read_none c taps e =
    let live : list_any (nat_eq c) (live_in taps) ≡ false = sym (some_live c taps) ∙ ap (λ (o : Option Bool). is_some o) e in
    sym (λ i. live i && not (list_any (nat_eq c) (held_in taps)))
