-- No buffer holds more than its bound, where each step fits in.
use Rattle.flow_rules.specs.declared.ids.FlowId.{FlowId}
use Rattle.flow_laws.proofs.Induction.{both_follow}
use Rattle.flow_laws.proofs.Lives.{each_of}
use Rattle.flow_laws.proofs.Rooms.{HasRoom, rooms}
use Rattle.flow_laws.proofs.Together.{holds}
use Rattle.flow_laws.proofs.Writes.{out_room}
use Rattle.flow_laws.specs.Fitting.{FitsIn}
use Rattle.flow_laws.specs.Ways.{HasLimits, HasWays}
use Rattle.std.proofs.Common.{arith, refl}
use Rattle.std.proofs.lemmas.Bool.Decides.{nat_tests}
use Rattle.std.specs.Bool.{OnTrue}
use Rattle.std.specs.List.{AllByRecursion}
use Rattle.std.specs.Prelude.{Bool, IfSome, List, None, Option, Some, [], false, length, nat_lt, true, ℕ, ◌+◌, ◌<◌, ◌∷◌, ◌≡◌, ◌≤◌}
use Rattle.tape_laws.specs.Bounds.{IsBounded, StagesBounded, held_from, unit_size}
use Rattle.tape_laws.specs.Connections.{connections, open_connections}
use Rattle.tape_laws.specs.Doomed.{LeavesDoomed}
use Rattle.tape_laws.specs.History.{AtEachMoment, EachFollows, History}
use Rattle.tape_laws.specs.Release.{MayStand}
use Rattle.tape_laws.specs.Setup.{Setup}
use Rattle.tape_laws.specs.Sources.{is_live, live_flows}
use Rattle.tape_laws.specs.World.{out, recv, send}

all_numbers : (P : ℕ → Type 0) (xs : List ℕ) → ((x : ℕ) → P x) → AllByRecursion P xs
all_numbers P [] f = tt
all_numbers P (x ∷ xs) f = (f x, all_numbers P xs f)

under : {A : Type 0} (n : ℕ) → (0 < n → A) → OnTrue (nat_lt 0 n) A
under {A} n f = at (nat_lt 0 n) (λ e. f (some n e))
  where
    some : (n : ℕ) → nat_lt 0 n ≡ true → 0 < n
    some n e = grind (arith, nat_tests)

    at : (b : Bool) → (b ≡ true → A) → OnTrue b A
    at true g = g refl
    at false g = tt

if_some : (P : ℕ → Type 0) (o : Option ℕ) → ((n : ℕ) → o ≡ Some n → P n) → IfSome o P
if_some P None f = tt
if_some P (Some n) f = f n refl

module _ {Mark : Type 0} (setup : Setup Mark) (ways : HasWays setup) (limited : HasLimits setup) where
  pub bounded : (h : History Mark) → EachFollows (MayStand setup) h → EachFollows LeavesDoomed h → EachFollows (FitsIn setup) h → IsBounded setup h
  bounded h m l t =
      let room : (f : FlowId) → is_live setup f h ≡ true → HasRoom setup f h = λ f a. rooms setup ways limited f h l (both_follow (MayStand setup) (FitsIn setup) h m t) a in
      record {
        recv = each_of (λ f. length (recv setup f h) ≤ setup.recv) (live_flows setup h) (λ f a. (room f a).window);
        stages = each_of (λ f. StagesBounded setup f 1 (setup.stages f h) h) (live_flows setup h) (λ f a. (room f a).stages);
        send = under setup.send (λ some. each_of (λ f. length (send setup f h) ≤ setup.send + setup.quantum) (live_flows setup h) (λ f a. (room f a).send some));
        write = under setup.write (λ some. all_numbers (λ c. length (out setup c h) ≤ setup.write + unit_size setup) (connections setup h) (λ c. out_room setup c h m t some));
        together = if_some (λ n. AllByRecursion (λ c. held_from setup c h ≤ n) (open_connections setup h)) setup.together
            (λ n e. all_numbers (λ c. held_from setup c h ≤ n) (open_connections setup h) (λ c. holds setup ways c h l t n e));
      }

  pub bounds_hold : (h : History Mark) → EachFollows (MayStand setup) h → EachFollows LeavesDoomed h → EachFollows (FitsIn setup) h → AtEachMoment (IsBounded setup) h
  bounds_hold [] m l t = bounded [] m l t
  bounds_hold (step ∷ h) m l t = (bounded (step ∷ h) m l t, bounds_hold h m.1 l.1 t.1)
