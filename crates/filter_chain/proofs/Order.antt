-- No octet is lost, or overtakes another.
use Rattle.std.proofs.Common.{◌≡◌, ◌≢◌, ◌<◌, ◌≤◌, ◌++◌, ◌∙◌, Bool, ℕ, suc, zero, List, [], ◌∷◌, drop, length, take, refl, sym, ap, arith, append_assoc}
use Rattle.std.proofs.Math.ListN.{get_or, set}
use Rattle.std.proofs.Math.Numerals.{add-one}
use Rattle.std.proofs.lemmas.List.{take-append-drop}
use Rattle.std.proofs.lemmas.Option.{slice_get-get_or}
use Rattle.std.specs.Option.{option_map_or}
use Rattle.std.specs.Prelude.{None, Option, Some, slice_get, slice_set}
use Rattle.filter_chain.proofs.Changes.{changed_is, get-set_other}
use Rattle.filter_chain.specs.Chain.{Chain, octets_at, octets_in, send_place}
use Rattle.filter_chain.specs.Effects.{changed_at, framed, last_loses, offered, on_the_way, passed, released}
use Rattle.filter_chain.specs.Place.{Place, gaining, letting_go, losing}

fed_way : (octets : List ℕ) (places : List Place) → 1 ≤ length places → on_the_way (changed_at (gaining octets) 1 places) ≡ on_the_way places ++ octets
fed_way octets [] some = absurd (omega arith)
fed_way octets (x ∷ places) some = sym (append_assoc (on_the_way places) x.octets octets)

pub offered_way : (chain : Chain) (octets : List ℕ) (recv_empty : Bool) → 1 ≤ length chain.places → on_the_way (offered chain octets recv_empty).places ≡ on_the_way chain.places ++ octets
offered_way chain octets recv_empty some = fed_way octets chain.places some

-- one after the other
shifted : (rest next octets : List ℕ) (n : ℕ) → (rest ++ (next ++ take n octets)) ++ drop n octets ≡ (rest ++ next) ++ octets
shifted rest next octets n =
    ap (λ xs. xs ++ drop n octets) (sym (append_assoc rest next (take n octets)))
    ∙ (append_assoc (rest ++ next) (take n octets) (drop n octets) ∙ ap (λ xs. (rest ++ next) ++ xs) (take-append-drop n octets))

two_first : (n : ℕ) (z w x y : Place) (places : List Place) → Some z ≡ Some x → Some w ≡ Some y
    → on_the_way (letting_go n x ∷ gaining (take n x.octets) y ∷ places) ≡ on_the_way (z ∷ w ∷ places)
two_first n z w x y places e f =
    let this : x.octets ≡ z.octets = ap (λ (o : Option Place). option_map_or (λ place. place.octets) o []) (sym e) in
    let next : y.octets ≡ w.octets = ap (λ (o : Option Place). option_map_or (λ place. place.octets) o []) (sym f) in
    shifted (on_the_way places) y.octets x.octets n
    ∙ (ap (λ octets. (on_the_way places ++ octets) ++ x.octets) next ∙ ap (λ octets. (on_the_way places ++ w.octets) ++ octets) this)

passing_way : (n : ℕ) (places : List Place) (i : ℕ) (x y : Place) → slice_get places i ≡ Some x → slice_get places (suc i) ≡ Some y
    → on_the_way (set (set places i (letting_go n x)) (suc i) (gaining (take n x.octets) y)) ≡ on_the_way places
passing_way n [] i x y e f = cc
passing_way n (z ∷ []) zero x y e f = cc
passing_way n (z ∷ w ∷ places) zero x y e f = two_first n z w x y places e f
passing_way n (z ∷ places) (suc i) x y e f = ap (λ octets. octets ++ z.octets) (passing_way n places i x y e f)

-- a release, place by place
passed_is : (n : ℕ) (places : List Place) (i : ℕ) (x y : Place) → slice_get places i ≡ Some x → slice_get places (suc i) ≡ Some y
    → passed places (suc i) n ≡ set (set places i (letting_go n x)) (suc i) (gaining (take n x.octets) y)
passed_is n places i x y e f =
    let octets : octets_in places (suc i) ≡ x.octets = ap (λ (o : Option Place). option_map_or (λ place. place.octets) o []) e in
    let apart : suc i ≢ i = λ h. absurd (omega arith) in
    let next : slice_get (set places i (letting_go n x)) (suc i) ≡ Some y = get-set_other places i (suc i) (letting_go n x) apart ∙ f in
    ap (λ k. changed_at (gaining (take n (octets_in places (suc i)))) k (changed_at (letting_go n) (suc i) places)) (add-one (suc i))
    ∙ (ap (changed_at (gaining (take n (octets_in places (suc i)))) (suc (suc i))) (changed_is (letting_go n) places i x e)
    ∙ (changed_is (gaining (take n (octets_in places (suc i)))) (set places i (letting_go n x)) (suc i) y next
    ∙ ap (λ octets. set (set places i (letting_go n x)) (suc i) (gaining (take n octets) y)) octets))

released_by : (n : ℕ) (places : List Place) (d : Place) (p : ℕ) → 1 ≤ p → p < length places → on_the_way (passed places p n) ≡ on_the_way places
released_by n places d zero first last = absurd (omega arith)
released_by n places d (suc i) first last =
    let e : slice_get places i ≡ Some (get_or places i d) = slice_get-get_or places i d (omega arith) in
    let f : slice_get places (suc i) ≡ Some (get_or places (suc i) d) = slice_get-get_or places (suc i) d last in
    ap on_the_way (passed_is n places i (get_or places i d) (get_or places (suc i) d) e f)
    ∙ passing_way n places i (get_or places i d) (get_or places (suc i) d) e f

released_all : (n : ℕ) (places : List Place) (p : ℕ) → 1 ≤ p → p < length places → on_the_way (passed places p n) ≡ on_the_way places
released_all n [] p first last = absurd (omega arith)
released_all n (d ∷ places) p first last = released_by n (d ∷ places) d p first last

pub released_way : (chain : Chain) (p n : ℕ) → 1 ≤ p → p < length chain.places → on_the_way (released chain p n).places ≡ on_the_way chain.places
released_way chain p n first last = released_all n chain.places p first last

-- a change behind the first place
behind : (f : Place → Place) (x : Place) (places : List Place) (k : ℕ) (o : Option Place) → option_map_or (λ place. slice_set (x ∷ places) (suc k) (f place)) o (x ∷ places) ≡ x ∷ option_map_or (λ place. slice_set places k (f place)) o places
behind f x places k None = refl
behind f x places k (Some y) = refl

take_nil : (n : ℕ) → take {A = ℕ} n [] ≡ []
take_nil zero = refl
take_nil (suc n) = refl

loses_way : (n : ℕ) (places : List Place) → take n (octets_in places (length places)) ++ on_the_way (last_loses places n) ≡ on_the_way places
loses_way n [] = ap (λ (xs : List ℕ). xs ++ []) (take_nil n)
loses_way n (x ∷ []) = take-append-drop n x.octets
loses_way n (x ∷ y ∷ places) =
    ap (λ ps. take n (octets_in (y ∷ places) (length (y ∷ places))) ++ on_the_way ps) (behind (losing n) x (y ∷ places) (length places) (slice_get (y ∷ places) (length places)))
    ∙ (sym (append_assoc (take n (octets_in (y ∷ places) (length (y ∷ places)))) (on_the_way (last_loses (y ∷ places) n)) x.octets)
    ∙ ap (λ octets. octets ++ x.octets) (loses_way n (y ∷ places)))

pub framed_way : (chain : Chain) (n : ℕ) → take n (octets_at chain (send_place chain)) ++ on_the_way (framed chain n).places ≡ on_the_way chain.places
framed_way chain n = loses_way n chain.places
