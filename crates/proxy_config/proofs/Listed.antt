-- A cluster that is listed has a number.
use Rattle.std.proofs.Common.{◌≡◌, ℕ, zero, suc, ◌<◌, Bool, true, false, nat_lt, List, [], ◌∷◌, length, Some, None, get_or, refl, sym, subst, inl, inr, arith}
use Rattle.std.proofs.lemmas.Bool.{cases_Bool, false≢true, ltb-false}
use Rattle.std.proofs.lemmas.List.Elements.{All-get_or}
use Rattle.std.specs.List.{All, list_any, position, position_or_len}
use Rattle.std.specs.Str.{bytes_eq}
use Rattle.proxy_config.specs.Clusters.{number_of, IsListed}
use Rattle.proxy_config.specs.declared.config.Cluster.{Cluster}
use Rattle.proxy_config.specs.declared.routes.Route.{Route}

module _ {X : Type 0} (p : X → Bool) where
  place_below : (xs : List X) → list_any p xs ≡ true → position_or_len p xs < length xs
  place_below [] h = absurd (false≢true h)
  place_below (x ∷ xs) h =
      elim (cases_Bool (p x)) [
        | inl here ↦ rw here (omega arith)
        | inr other ↦ let rest : list_any p xs ≡ true = rw other at h in let below = place_below xs rest in rw other (omega (arith, below))
      ]

  -- where one passes, the first that does has a place
  pub has_place : (xs : List X) → list_any p xs ≡ true → position p xs ≡ None → ⊥
  has_place xs h none =
      elim (cases_Bool (nat_lt (position_or_len p xs) (length xs))) [
        | inl below ↦ let found : Some (position_or_len p xs) ≡ None = rw below at none in cc
        | inr beyond ↦ let low = place_below xs h in let high = ltb-false _ _ beyond in omega (arith, low, high)
      ]

-- a route of the list whose cluster has no number
pub listed_has_number : (clusters : List Cluster) (routes : List Route) (row : ℕ) (route : Route) → All (IsListed clusters) routes → row < length routes → route ≡ get_or routes row route → number_of clusters route.cluster ≡ None → ⊥
listed_has_number clusters routes row route listed below here none =
    let there : IsListed clusters (get_or routes row route) = All-get_or (IsListed clusters) routes row route below listed in
    has_place (λ c. bytes_eq route.cluster c.name) clusters (subst (IsListed clusters) (sym here) there) none

-- what stands at a place does not depend on what would stand for it beyond the end
pub read_alike : {X : Type 0} (xs : List X) (i : ℕ) (d e : X) → i < length xs → get_or xs i d ≡ get_or xs i e
read_alike [] i d e h = absurd (omega (arith, h))
read_alike (x ∷ xs) zero d e h = refl
read_alike (x ∷ xs) (suc i) d e h = read_alike xs i d e (omega (arith, h))
