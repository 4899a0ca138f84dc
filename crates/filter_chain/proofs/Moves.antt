-- What a change leaves at each place.
use Rattle.std.proofs.Common.{◌≡◌, ◌≢◌, ◌+◌, ◌-◌, ◌<◌, ◌≤◌, ◌++◌, ◌∙◌, ◌==◌, ℕ, suc, zero, List, [], ◌∷◌, drop, length, map, take, Bool, true, false, refl, sym, ap, subst, arith}
use Rattle.std.proofs.lemmas.List.{append-nil, length-set}
use Rattle.std.proofs.lemmas.Bool.Decides.{nat_tests}
use Rattle.std.proofs.lemmas.Option.{slice_get-get_or, slice_get-map}
use Rattle.std.specs.Option.{option_map, option_map_or}
use Rattle.std.specs.Prelude.{None, Option, Some, if◌then◌else◌, slice_get}
use Rattle.filter_chain.proofs.Changes.{changed_is, changed_none, place_at-changed_other, place_at-changed_same}
use Rattle.filter_chain.specs.Chain.{Chain, octets_at, octets_in, place_at, send_place}
use Rattle.filter_chain.specs.Effects.{changed_at, framed, offered, released, ticked, whole_steps}
use Rattle.filter_chain.specs.Place.{Place, gaining, letting_go, losing, refilled}

-- as many places
count_by : (f : Place → Place) (places : List Place) (i : ℕ) (o : Option Place) → slice_get places i ≡ o → length (changed_at f (suc i) places) ≡ length places
count_by f places i None e = ap length (changed_none f places i e)
count_by f places i (Some x) e = ap length (changed_is f places i x e) ∙ length-set places i (f x)

pub length-changed : (f : Place → Place) (places : List Place) (p : ℕ) → length (changed_at f p places) ≡ length places
length-changed f places zero = refl
length-changed f places (suc i) = count_by f places i (slice_get places i) refl

pub place_at-map : (f : Place → Place) (places : List Place) (p : ℕ) → place_at (map f places) p ≡ option_map f (place_at places p)
place_at-map f places zero = refl
place_at-map f places (suc i) = slice_get-map f places i

-- the octets at the place that changes, where f takes its octets to g of them, and at another
mapped_octets : (f : Place → Place) (g : List ℕ → List ℕ) → g [] ≡ [] → ((x : Place) → (f x).octets ≡ g x.octets) → (o : Option Place) → option_map_or (λ (place : Place). place.octets) (option_map f o) [] ≡ g (option_map_or (λ place. place.octets) o [])
mapped_octets f g none some None = sym none
mapped_octets f g none some (Some x) = some x

octets-changed_same : (f : Place → Place) (g : List ℕ → List ℕ) → g [] ≡ [] → ((x : Place) → (f x).octets ≡ g x.octets) → (places : List Place) (p : ℕ) → octets_in (changed_at f p places) p ≡ g (octets_in places p)
octets-changed_same f g none some places p =
    ap (λ (o : Option Place). option_map_or (λ place. place.octets) o []) (place_at-changed_same f places p) ∙ mapped_octets f g none some (place_at places p)

octets-changed_other : (f : Place → Place) (places : List Place) (p q : ℕ) → q ≢ p → octets_in (changed_at f p places) q ≡ octets_in places q
octets-changed_other f places p q other = ap (λ (o : Option Place). option_map_or (λ place. place.octets) o []) (place_at-changed_other f places p q other)

drop_nil : (n : ℕ) → drop {A = ℕ} n [] ≡ []
drop_nil zero = refl
drop_nil (suc n) = refl

-- octets leave the front of a place
front_left : (f : Place → Place) (n : ℕ) → ((x : Place) → (f x).octets ≡ drop n x.octets) → (places : List Place) (p : ℕ) → octets_in (changed_at f p places) p ≡ drop n (octets_in places p)
front_left f n leaves places p = octets-changed_same f (drop n) (drop_nil n) leaves places p

-- octets come to the end of a place that is there
gained_by : (octets : List ℕ) (places : List Place) (p : ℕ) (x : Place) → place_at places p ≡ Some x → octets_in (changed_at (gaining octets) p places) p ≡ octets_in places p ++ octets
gained_by octets places p x at =
    ap (λ (o : Option Place). option_map_or (λ place. place.octets) o []) (place_at-changed_same (gaining octets) places p ∙ ap (option_map (gaining octets)) at)
    ∙ sym (ap (λ (o : Option Place). option_map_or (λ place. place.octets) o [] ++ octets) at)

is_there : (places : List Place) (p : ℕ) (d : Place) → 1 ≤ p → p ≤ length places → (x : Place) × (place_at places p ≡ Some x)
is_there places zero d first last = absurd (omega arith)
is_there places (suc i) d first last = (_, slice_get-get_or places i d (omega arith))

end_gained : (octets : List ℕ) (places : List Place) (p : ℕ) → 1 ≤ p → p ≤ length places → octets_in (changed_at (gaining octets) p places) p ≡ octets_in places p ++ octets
end_gained octets [] p first last = absurd (omega arith)
end_gained octets (d ∷ places) p first last =
    let there : (x : Place) × (place_at (d ∷ places) p ≡ Some x) = is_there (d ∷ places) p d first last in
    gained_by octets (d ∷ places) p there.0 there.1

-- by whether the place is the one in question
same_or_not : (q p : ℕ) (b : Bool) → (q == p) ≡ b → (P : Bool → Type 0) → (q ≡ p → P true) → (q ≢ p → P false) → P b
same_or_not q p true e P same other = same (grind (arith, nat_tests))
same_or_not q p false e P same other = other (λ h. grind (arith, nat_tests))

pub offered_octets : (chain : Chain) (octets : List ℕ) (recv_empty : Bool) (q : ℕ) → 1 ≤ length chain.places
    → octets_at (offered chain octets recv_empty) q ≡ octets_at chain q ++ (if q == 1 then octets else [])
offered_octets chain octets recv_empty q some =
    same_or_not q 1 (q == 1) refl (λ b. octets_in (changed_at (gaining octets) 1 chain.places) q ≡ octets_in chain.places q ++ (if b then octets else []))
    (λ e. subst (λ k. octets_in (changed_at (gaining octets) 1 chain.places) k ≡ octets_in chain.places k ++ octets) (sym e) (end_gained octets chain.places 1 (omega arith) some))
    (λ other. octets-changed_other (gaining octets) chain.places 1 q other ∙ sym (append-nil (octets_in chain.places q)))

pub framed_octets : (chain : Chain) (n q : ℕ) → octets_at (framed chain n) q ≡ drop (if q == send_place chain then n else 0) (octets_at chain q)
framed_octets chain n q =
    same_or_not q (send_place chain) (q == send_place chain) refl (λ b. octets_in (changed_at (losing n) (length chain.places) chain.places) q ≡ drop (if b then n else 0) (octets_in chain.places q))
    (λ e. subst (λ k. octets_in (changed_at (losing n) (length chain.places) chain.places) k ≡ drop n (octets_in chain.places k)) (sym e) (front_left (losing n) n (λ x. refl) chain.places (length chain.places)))
    (λ other. octets-changed_other (losing n) chain.places (length chain.places) q other)

pub ticked_octets : (chain : Chain) (now q : ℕ) → octets_at (ticked chain now) q ≡ octets_at chain q
ticked_octets chain now q =
    ap (λ (o : Option Place). option_map_or (λ place. place.octets) o []) (place_at-map (refilled (whole_steps chain.started now - whole_steps chain.started chain.time)) chain.places q)
    ∙ mapped_octets (refilled (whole_steps chain.started now - whole_steps chain.started chain.time)) (λ octets. octets) refl (λ x. refl) (place_at chain.places q)

pub released_octets : (chain : Chain) (p n q : ℕ) → 1 ≤ p → p < length chain.places
    → octets_at (released chain p n) q ≡ (if q == p then drop n (octets_at chain q) else if q == p + 1 then octets_at chain q ++ take n (octets_at chain p) else octets_at chain q)
released_octets chain p n q first last =
    let let_go : List Place = changed_at (letting_go n) p chain.places in
    let moved : List ℕ = take n (octets_in chain.places p) in
    let as_many : length (changed_at (letting_go n) p chain.places) ≡ length chain.places = length-changed (letting_go n) chain.places p in
    let next_other : p + 1 ≢ p = λ h. absurd (omega arith) in
    let this_other : p ≢ p + 1 = λ h. absurd (omega arith) in
    same_or_not q p (q == p) refl
    (λ b. octets_in (changed_at (gaining (take n (octets_in chain.places p))) (p + 1) (changed_at (letting_go n) p chain.places)) q
    ≡ (if b then drop n (octets_in chain.places q) else if q == p + 1 then octets_in chain.places q ++ take n (octets_in chain.places p) else octets_in chain.places q))
    (λ e. subst (λ k. octets_in (changed_at (gaining (take n (octets_in chain.places p))) (p + 1) (changed_at (letting_go n) p chain.places)) k ≡ drop n (octets_in chain.places k)) (sym e)
    (octets-changed_other (gaining (take n (octets_in chain.places p))) (changed_at (letting_go n) p chain.places) (p + 1) p this_other
    ∙ front_left (letting_go n) n (λ x. refl) chain.places p))
    (λ other. same_or_not q (p + 1) (q == p + 1) refl
    (λ b. octets_in (changed_at (gaining (take n (octets_in chain.places p))) (p + 1) (changed_at (letting_go n) p chain.places)) q
    ≡ (if b then octets_in chain.places q ++ take n (octets_in chain.places p) else octets_in chain.places q))
    (λ e. subst (λ k. octets_in (changed_at (gaining (take n (octets_in chain.places p))) (p + 1) (changed_at (letting_go n) p chain.places)) k ≡ octets_in chain.places k ++ take n (octets_in chain.places p)) (sym e)
    (end_gained (take n (octets_in chain.places p)) (changed_at (letting_go n) p chain.places) (p + 1) (omega arith) (omega arith)
    ∙ ap (λ octets. octets ++ take n (octets_in chain.places p)) (octets-changed_other (letting_go n) chain.places p (p + 1) next_other)))
    (λ far. octets-changed_other (gaining (take n (octets_in chain.places p))) (changed_at (letting_go n) p chain.places) (p + 1) q far
    ∙ octets-changed_other (letting_go n) chain.places p q other))
