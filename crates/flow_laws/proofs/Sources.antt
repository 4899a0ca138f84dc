-- The sources of a flow: its Meters, its send buffer and the write buffer that it goes to, each another buffer.
use Rattle.flow_rules.specs.declared.ids.BufferId.{BufferId}
use Rattle.flow_rules.specs.declared.ids.FlowId.{FlowId}
use Rattle.flow_laws.proofs.Lists.{same_number}
use Rattle.flow_laws.specs.Ways.{AreApart}
use Rattle.flow_rules.specs.Kinds.{Send as SendKind}
use Rattle.flow_rules.specs.Sources.{sources_from, write_source}
use Rattle.std.proofs.Common.{ap, arith, refl, ◌∙◌}
use Rattle.std.proofs.lemmas.Bool.Decides.{nat_tests}
use Rattle.std.specs.List.{AllByRecursion, list_any}
use Rattle.std.specs.Prelude.{Bool, List, None, Option, Some, [], false, if◌then◌else◌, length, map, suc, true, ℕ, ◌&&◌, ◌++◌, ◌+◌, ◌<◌, ◌==◌, ◌||◌, ◌∷◌, ◌≡◌, ◌≤◌}
use Rattle.tape_laws.specs.Flows.{same_buffer, same_flow}
use Rattle.tape_laws.specs.History.{History, Step}
use Rattle.tape_laws.specs.Pauses.{place_buffer}
use Rattle.tape_laws.specs.Setup.{Setup}
use Rattle.tape_laws.specs.Sources.{source_buffers}
use Rattle.tape_laws.specs.Units.{Hold, Meter, StageKind, kind_of}
use Rattle.tape_laws.specs.World.{last_place}
use Rattle.flow_rules.specs.declared.ids.BufferId.TheVariants as buffer

-- the buffers behind place q, by the stages from there on and by the connection that the flow goes to
abbrev pub behind : FlowId → ℕ → List StageKind → ℕ → Option ℕ → List BufferId
behind f q ss w to = map (λ s. s.buffer) (sources_from f q (map kind_of ss ++ SendKind ∷ []) ++ write_source w to)

later : (q p k : ℕ) → q + 1 ≤ p → q ≤ p
later q p k le = omega (arith, le)

sooner : (q p k : ℕ) → p < (q + 1) + k → p < q + suc k
sooner q p k le = omega (arith, le)

first : (q k : ℕ) → q < q + suc k
first q k = omega arith

self : (q : ℕ) → q ≤ q
self q = omega arith

along : (P : BufferId → Type 0) (f : FlowId) (q : ℕ) (ss : List StageKind) (w : ℕ) (to : Option ℕ)
    → ((p : ℕ) → q ≤ p → p < q + length ss → P (buffer.Stage f p)) → P (buffer.Send f) → ((c : ℕ) → to ≡ Some c → P (buffer.Write c))
    → AllByRecursion P (behind f q ss w to)
along P f q [] w None st se wr = (se, tt)
along P f q [] w (Some c) st se wr = (se, (wr c refl, tt))
along P f q (Hold l ∷ ss) w to st se wr = along P f (q + 1) ss w to (λ p a b. st p (later q p 0 a) (sooner q p (length ss) b)) se wr
along P f q (Meter l r ∷ ss) w to st se wr =
    (st q (self q) (first q (length ss)), along P f (q + 1) ss w to (λ p a b. st p (later q p 0 a) (sooner q p (length ss) b)) se wr)

stage_apart : (f : FlowId) (i q : ℕ) (ss : List StageKind) (w : ℕ) (to : Option ℕ) → i < q
    → list_any (same_buffer (buffer.Stage f i)) (behind f q ss w to) ≡ false
stage_apart f i q [] w None lt = refl
stage_apart f i q [] w (Some c) lt = refl
stage_apart f i q (Hold l ∷ ss) w to lt = stage_apart f i (q + 1) ss w to (omega (arith, lt))
stage_apart f i q (Meter l r ∷ ss) w to lt = none (same_flow f f) (i == q) _ (differs i q lt) (stage_apart f i (q + 1) ss w to (omega (arith, lt)))
  where
    differs : (a b : ℕ) → a < b → (a == b) ≡ false
    differs a b lt = grind (arith, nat_tests)

    none : (a b k : Bool) → b ≡ false → k ≡ false → ((a && b) || k) ≡ false
    none true true k e f = cc
    none true false k e f = f
    none false b k e f = f

all_apart : (f : FlowId) (q : ℕ) (ss : List StageKind) (w : ℕ) (to : Option ℕ) → AreApart same_buffer (behind f q ss w to)
all_apart f q [] w None = (refl, tt)
all_apart f q [] w (Some c) = (refl, (refl, tt))
all_apart f q (Hold l ∷ ss) w to = all_apart f (q + 1) ss w to
all_apart f q (Meter l r ∷ ss) w to = (stage_apart f q (q + 1) ss w to (omega arith), all_apart f (q + 1) ss w to)

module _ {Mark : Type 0} (setup : Setup Mark) (f : FlowId) (h : History Mark) where
  -- what holds of its stages' buffers, of its send buffer and of the write buffer that it goes to holds of each
  pub each_source : (P : BufferId → Type 0) → ((p : ℕ) → 1 ≤ p → p < last_place setup f h → P (buffer.Stage f p)) → P (buffer.Send f)
      → ((c : ℕ) → setup.goes_to f h ≡ Some c → P (buffer.Write c)) → AllByRecursion P (source_buffers setup f h)
  each_source P st se wr =
      along P f 1 (setup.stages f h) (last_place setup f h + 1) (setup.goes_to f h) (λ p a b. st p a (turned p (length (setup.stages f h)) b)) se wr
    where
      turned : (p k : ℕ) → p < 1 + k → p < k + 1
      turned p k lt = omega (arith, lt)

  pub sources_apart : AreApart same_buffer (source_buffers setup f h)
  sources_apart = all_apart f 1 (setup.stages f h) (last_place setup f h + 1) (setup.goes_to f h)

  -- they stay with its stages and the connection that it goes to
  pub sources_stay : (step : Step Mark) → setup.stages f (step ∷ h) ≡ setup.stages f h → setup.goes_to f (step ∷ h) ≡ setup.goes_to f h
      → source_buffers setup f (step ∷ h) ≡ source_buffers setup f h
  sources_stay step e g =
      ap (λ ss. behind f 1 ss (length ss + 1 + 1) (setup.goes_to f (step ∷ h))) e
      ∙ ap (λ to. behind f 1 (setup.stages f h) (length (setup.stages f h) + 1 + 1) to) g

  -- the buffer of a stage's place, and that of the last
  pub at_stage : (p : ℕ) → (p == 0) ≡ false → (p == last_place setup f h) ≡ false → place_buffer setup f p h ≡ buffer.Stage f p
  at_stage p e d = rw (e, d) refl

  pub at_send : place_buffer setup f (last_place setup f h) h ≡ buffer.Send f
  at_send = two (last_place setup f h == 0) (last_place setup f h == last_place setup f h) (some (length (setup.stages f h))) (same_number (last_place setup f h))
    where
      some : (k : ℕ) → (k + 1 == 0) ≡ false
      some k = grind (arith, nat_tests)

      two : (a b : Bool) → a ≡ false → b ≡ true → (if a then buffer.Recv f else (if b then buffer.Send f else buffer.Stage f (last_place setup f h))) ≡ buffer.Send f
      two true b e d = cc
      two false true e d = refl
      two false false e d = cc
