-- What the inner connections gave, answered or not.
use Rattle.metered_wires.proofs.Rises.{given_grows, turned_away}
use Rattle.metered_wires.specs.Metering.{Accepted, Closed, Metered, Passed, Takes, is_accept}
use Rattle.metered_wires.specs.Rising.{IsRising, untold}
use Rattle.shared_tokens.specs.declared.token.Token.{Token}
use Rattle.std.proofs.Common.{ap, arith, subst, sym, ◌∙◌}
use Rattle.std.specs.Prelude.{Bool, None, false, true, ℕ, ◌<◌, ◌≡◌, ◌≤◌}
use Rattle.worker_ports.specs.Wires.{Gives, MayCome, Seen, closed, given, greatest_after, held_after, live_after}
use Rattle.worker_ports.specs.declared.wires.Wired.{Wired}
use Rattle.worker_ports.specs.declared.wires.Wired.TheVariants as wired

gives_as : (old new : Seen) (v w : Wired) → v ≡ w → Gives old v new → Gives old w new
gives_as old new v w e g = subst (λ (x : Wired). Gives old x new) e g

-- ---- it is answered as it came
may_untold : (g : ℕ) (old : Seen) (w : Wired) → g ≤ old.greatest → MayCome old w → MayCome (untold g old) w
may_untold g old (wired.Accept c) less may = omega (arith, less, may)
may_untold g old (wired.Join c cluster) less may = let above : g < c = omega (arith, less, may.0) in (above, may.1)
may_untold g old (wired.Read c octets) less may = may
may_untold g old (wired.Lost c) less may = may
may_untold g old wired.Idle less may = tt
may_untold g old wired.Stop less may = tt

passed : (g h : ℕ) (old : Seen) (w : Wired) (new : Seen) → h ≡ greatest_after w g → MayCome (untold g old) w → new ≡ given w old → Gives (untold g old) w (untold h new)
passed g h old w new e may is = record {
  may = may;
  is = ap (untold h) is ∙ ap (λ n. record { clusters = old.clusters; live = live_after w old.live; greatest = n; held = held_after w old.held; steps = None }) e;
}

pub passed_on : (g h : ℕ) (old new : Seen) (v w : Wired) → v ≡ w → h ≡ greatest_after w g → g ≤ old.greatest → Gives old v new → Gives (untold g old) w (untold h new)
passed_on g h old new v w e after less gives =
    let k = gives_as old new v w e gives in
    passed g h old w new after (may_untold g old w less k.may) k.is

pub metered_on : (old new : Seen) (had has : Token) (v w : Wired) → v ≡ w → is_accept w ≡ false → Gives old v new → has ≡ had → Metered old had new has w
metered_on old new had has v w e other gives same = Passed w other (gives_as old new v w e gives) same

pub metered_accept : (old new : Seen) (had has : Token) (v : Wired) (c : ℕ) (took : Bool) → v ≡ wired.Accept c → Gives old v new → took ≡ true → Takes had took has → Metered old had new has (wired.Accept c)
metered_accept old new had has v c took e gives is takes = Accepted c (gives_as old new v (wired.Accept c) e gives) (subst (λ (b : Bool). Takes had b has) is takes)

-- ---- it is closed
pub turned_idle : (g c : ℕ) (old mid new : Seen) (v : Wired) → v ≡ wired.Accept c → IsRising old → Gives old v mid → new ≡ closed c mid → Gives (untold g old) wired.Idle (untold g new)
turned_idle g c old mid new v e rising gives is = record {
  may = tt;
  is = ap (untold g) is ∙ turned_away g c old mid rising (gives_as old mid v (wired.Accept c) e gives);
}

pub metered_closed : (old mid new : Seen) (had has : Token) (v : Wired) (c : ℕ) (took : Bool) → v ≡ wired.Accept c → Gives old v mid → new ≡ closed c mid → took ≡ false → Takes had took has → Metered old had new has wired.Idle
metered_closed old mid new had has v c took e gives is none takes =
    let t : Takes had false has = subst (λ (b : Bool). Takes had b has) none takes in
    Closed c mid t.0 t.1 (gives_as old mid v (wired.Accept c) e gives) is t.2

-- ---- the greatest number that was given
pub below_after : (g : ℕ) (old new : Seen) (v : Wired) → g ≤ old.greatest → Gives old v new → g ≤ new.greatest
below_after g old new v less gives = let grows = given_grows old v new gives in omega (arith, less, grows)

came_at : (c : ℕ) (old new : Seen) → new ≡ given (wired.Accept c) old → c ≤ new.greatest
came_at c old new is = let same : new.greatest ≡ c = ap (λ (s : Seen). s.greatest) is in omega (arith, same)

joined_at : (c cluster : ℕ) (old new : Seen) → new ≡ given (wired.Join c cluster) old → c ≤ new.greatest
joined_at c cluster old new is = let same : new.greatest ≡ c = ap (λ (s : Seen). s.greatest) is in omega (arith, same)

pub below_accept : (c : ℕ) (old new : Seen) (v : Wired) → v ≡ wired.Accept c → Gives old v new → c ≤ new.greatest
below_accept c old new v e gives = came_at c old new (gives_as old new v (wired.Accept c) e gives).is

pub below_join : (c cluster : ℕ) (old new : Seen) (v : Wired) → v ≡ wired.Join c cluster → Gives old v new → c ≤ new.greatest
below_join c cluster old new v e gives = joined_at c cluster old new (gives_as old new v (wired.Join c cluster) e gives).is

pub same_rising : (old new : Seen) → new ≡ old → IsRising old → IsRising new
same_rising old new e rising = subst (λ (s : Seen). IsRising s) (sym e) rising

pub same_below : (g : ℕ) (old new : Seen) → new ≡ old → g ≤ old.greatest → g ≤ new.greatest
same_below g old new e less = subst (λ (s : Seen). g ≤ s.greatest) (sym e) less

pub closed_below : (g c : ℕ) (mid new : Seen) → new ≡ closed c mid → (closed c mid).greatest ≡ mid.greatest → g ≤ mid.greatest → g ≤ new.greatest
closed_below g c mid new e same less = let is : new.greatest ≡ (closed c mid).greatest = ap (λ (s : Seen). s.greatest) e in omega (arith, is, same, less)
