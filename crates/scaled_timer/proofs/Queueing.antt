-- What the heap tells of its fronts.
use Rattle.std.proofs.Common.{◌≡◌, ◌==◌, inl, inr, Bool, false, cond, true≢false, List, [], ◌∷◌, map, sym, ap, ◌∙◌, arith}
use Rattle.std.specs.Prelude.{Some, nat_lt}
use Rattle.std.specs.List.{AllByRecursion}
use Rattle.std.specs.BinaryHeap.{IsUpperBound}
use Rattle.std.specs.Ordering.{nat_cmp, ordering_then, is_lt}
use Rattle.std.specs.declared.cmp.Ordering.{Ordering}
use Rattle.std.specs.declared.cmp.Ordering.TheVariants.{Less, Equal, Greater}
use Rattle.std.specs.declared.cmp.Reverse.{Reverse}
use Rattle.std.proofs.lemmas.Bool.{eq-eqb, ltb-true, ltb-false}
use Rattle.link_lists.proofs.Memory.{either}
use Rattle.scaled_timer.specs.declared.fronts.Front.{Front}
use Rattle.scaled_timer.specs.Fronts.{NoLater}
use Rattle.scaled_timer.specs.Queue.{latest_first}

-- one of them is less: by the first number, or where that is the same, by the second
abbrev less_by : Bool → Bool → Bool → Bool → Ordering → Bool
less_by l e m d r = is_lt (ordering_then (cond l Less (cond e Equal Greater)) (ordering_then (cond m Less (cond d Equal Greater)) r))

no_later : (a b : Front) → is_lt (ordering_then (nat_cmp b.due a.due) (ordering_then (nat_cmp b.age a.age) (nat_cmp b.kind a.kind))) ≡ false → NoLater (Some a) (Some b)
no_later a b h =
    let l = nat_lt b.due a.due in let e = b.due == a.due in let m = nat_lt b.age a.age in let d = b.age == a.age in let r = nat_cmp b.kind a.kind in
    either (nat_lt a.due b.due)
    (λ t. inl (ltb-true a.due b.due t))
    (λ f. either l
    (λ t. absurd (true≢false (sym (ap (λ x. less_by x e m d r) t) ∙ h)))
    (λ g. let x = ltb-false a.due b.due f in let y = ltb-false b.due a.due g in let same : a.due ≡ b.due = omega (arith, x, y) in
    either m
    (λ t. absurd (true≢false (sym (λ i. less_by (g i) (eq-eqb b.due a.due (sym same) i) (t i) d r) ∙ h)))
    (λ o. inr (same, ltb-false b.age a.age o))))

-- the greatest of the heap fires no later than any
pub all_later : (x : Reverse Front) (ys : List (Reverse Front)) → IsUpperBound latest_first x ys → AllByRecursion (λ (g : Front). NoLater (Some x.0) (Some g)) (map (λ (r : Reverse Front). r.0) ys)
all_later x [] h = tt
all_later x (y ∷ ys) h = (no_later x.0 y.0 h.0, all_later x ys h.1)
