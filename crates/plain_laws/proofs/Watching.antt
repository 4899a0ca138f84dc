-- Which flows watch a buffer.
use Rattle.std.proofs.lemmas.Bool.{or_parts}
use Rattle.flow_rules.specs.declared.ids.FlowId.{FlowId}
use Rattle.plain_laws.proofs.Rising.{rising_apart}
use Rattle.plain_laws.proofs.Streams.{by_case, differs_back, number_is, same_number}
use Rattle.plain_laws.specs.Regular.{IsRising}
use Rattle.std.proofs.Common.{ap, refl, subst, ◌∙◌}
use Rattle.std.specs.List.{list_any}
use Rattle.std.specs.Prelude.{List, [], false, filter, flat_map, if◌then◌else◌, map, true, ℕ, ◌&&◌, ◌==◌, ◌||◌, ◌∷◌, ◌≡◌}
use Rattle.plain_laws.specs.Words.{Past, Alive}
use Rattle.tape_laws.specs.Dispatches.{has, live}
use Rattle.tape_laws.specs.Flows.{request, same_buffer}
use Rattle.tape_laws.specs.Plain.{plain_setup}
use Rattle.tape_laws.specs.Sources.{watchers}
use Rattle.tape_laws.specs.declared.PlainLimits.{PlainLimits}
use Rattle.flow_rules.specs.declared.ids.BufferId.TheVariants as buffer
use Rattle.plain_laws.proofs.Streams.{or_true as has_was_tail}

pub write_watchers : (limits : PlainLimits) (h : Past) → watchers (plain_setup limits) (buffer.Write 0) h ≡ map request (live h)
write_watchers limits h = each (live h)
  where
    each : (xs : List ℕ) → filter (λ (f : FlowId). list_any (same_buffer (buffer.Write 0)) (buffer.Send f ∷ buffer.Write 0 ∷ [])) (flat_map (λ x. request x ∷ []) xs) ≡ map request xs
    each [] = refl
    each (x ∷ xs) = cc (each xs)

-- the flows of these streams that watch the send buffer of x
abbrev watching : ℕ → List ℕ → List FlowId
watching x xs = filter (λ (f : FlowId). list_any (same_buffer (buffer.Send (request x))) (buffer.Send f ∷ buffer.Write 0 ∷ [])) (flat_map (λ y. request y ∷ []) xs)

none_watching : (x : ℕ) (xs : List ℕ) → has xs x ≡ false → watching x xs ≡ []
none_watching x [] e = refl
none_watching x (y ∷ ys) e =
    let k = or_parts (y == x) (has ys x) e in
    ap (λ b. if (b && true) || false then request y ∷ watching x ys else watching x ys) (differs_back y x k.0) ∙ none_watching x ys k.1

one_watching : (x : ℕ) (xs : List ℕ) → IsRising xs → has xs x ≡ true → watching x xs ≡ request x ∷ []
one_watching x [] r e = cc
one_watching x (y ∷ ys) r e =
    by_case (y == x)
    (λ t. own (number_is y x t) (none_watching y ys (rising_apart y ys r.0)))
    (λ d. cc (differs_back y x d, one_watching x ys r.1 (has_was_tail (y == x) (has ys x) e d)))
  where
    own : y ≡ x → watching y ys ≡ [] → watching x (y ∷ ys) ≡ request x ∷ []
    own e none =
        subst (λ (v : ℕ). watching v (y ∷ ys) ≡ request v ∷ []) e (cc (same_number y))

pub send_watchers : (limits : PlainLimits) (x : ℕ) (h : Past) → IsRising (live h) → Alive h x
    → watchers (plain_setup limits) (buffer.Send (request x)) h ≡ request x ∷ []
send_watchers limits x h r is = one_watching x (live h) r is
