-- The order of buffers: of two one comes before the other, and what comes before a buffer comes before all behind that.
use Rattle.std.proofs.Common.{ap, arith, inl, inr, refl, sym, ◌∙◌}
use Rattle.flow_rules.specs.declared.ids.FlowId.{FlowId}
use Rattle.std.proofs.lemmas.Bool.{eq-eqb, eqb-true, false≢true, le-ltb, lt-ltb, ltb-false, ltb-true}
use Rattle.std.specs.Prelude.{Bool, false, if◌then◌else◌, nat_lt, not, true, ℕ, ◌&&◌, ◌<◌, ◌==◌, ◌||◌, ◌≡◌, ◌⊎◌}
use Rattle.tape_plot.specs.declared.highest.Buffer.TheVariants as buffer
use Rattle.tape_plot.specs.Highest.{goes_before, is_before, is_higher}
use Rattle.tape_plot.specs.declared.highest.Buffer.{Buffer}
use Rattle.tape_plot.specs.declared.height.Height.{Height}

less_through : (a b c : ℕ) → nat_lt b a ≡ true → nat_lt c b ≡ true → nat_lt c a ≡ true
less_through a b c e f = lt-ltb c a (omega (arith, ltb-true b a e, ltb-true c b f))

less_weak : (a b c : ℕ) → nat_lt b a ≡ true → nat_lt b c ≡ false → nat_lt c a ≡ true
less_weak a b c e f = lt-ltb c a (omega (arith, ltb-true b a e, ltb-false b c f))

weak_less : (a b c : ℕ) → nat_lt a b ≡ false → nat_lt c b ≡ true → nat_lt c a ≡ true
weak_less a b c e f = lt-ltb c a (omega (arith, ltb-false a b e, ltb-true c b f))

weak_weak : (a b c : ℕ) → nat_lt a b ≡ false → nat_lt b c ≡ false → nat_lt a c ≡ false
weak_weak a b c e f = le-ltb a c (omega (arith, ltb-false a b e, ltb-false b c f))

-- by whether each has a limit, and its height
abbrev above : Bool → ℕ → Bool → ℕ → Bool
above true a true b = nat_lt b a
above true a false b = true
above false a true b = false
above false a false b = nat_lt b a

above_through : (k l m : Bool) (a b c : ℕ) → above k a l b ≡ true → above l b m c ≡ true → above k a m c ≡ true
above_through true true true a b c e f = less_through a b c e f
above_through true true false a b c e f = refl
above_through true false true a b c e f = absurd (false≢true f)
above_through true false false a b c e f = refl
above_through false true m a b c e f = absurd (false≢true e)
above_through false false true a b c e f = absurd (false≢true f)
above_through false false false a b c e f = less_through a b c e f

above_weak : (k l m : Bool) (a b c : ℕ) → above k a l b ≡ true → above m c l b ≡ false → above k a m c ≡ true
above_weak true true true a b c e f = less_weak a b c e f
above_weak true true false a b c e f = refl
above_weak true false true a b c e f = absurd (false≢true (sym f))
above_weak true false false a b c e f = refl
above_weak false true m a b c e f = absurd (false≢true e)
above_weak false false true a b c e f = absurd (false≢true (sym f))
above_weak false false false a b c e f = less_weak a b c e f

weak_above : (k l m : Bool) (a b c : ℕ) → above l b k a ≡ false → above l b m c ≡ true → above k a m c ≡ true
weak_above true true true a b c e f = weak_less a b c e f
weak_above true l false a b c e f = refl
weak_above true false true a b c e f = absurd (false≢true f)
weak_above false true m a b c e f = absurd (false≢true (sym e))
weak_above false false true a b c e f = absurd (false≢true f)
weak_above false false false a b c e f = weak_less a b c e f

weak_through : (k l m : Bool) (a b c : ℕ) → above l b k a ≡ false → above m c l b ≡ false → above m c k a ≡ false
weak_through true true true a b c e f = weak_weak a b c e f
weak_through true l false a b c e f = refl
weak_through true false true a b c e f = absurd (false≢true (sym f))
weak_through false true m a b c e f = absurd (false≢true (sym e))
weak_through false false true a b c e f = absurd (false≢true (sym f))
weak_through false false false a b c e f = weak_weak a b c e f

above_is : (a b : Height) → is_higher a b ≡ above a.is_limited a.height b.is_limited b.height
above_is a b = by a.is_limited b.is_limited
  where
    by : (k l : Bool) → (if k then not l || nat_lt b.height a.height else not l && nat_lt b.height a.height) ≡ above k a.height l b.height
    by true true = refl
    by true false = refl
    by false true = refl
    by false false = refl

higher_through : (a b c : Height) → is_higher a b ≡ true → is_higher b c ≡ true → is_higher a c ≡ true
higher_through a b c e f =
    above_is a c ∙ above_through a.is_limited b.is_limited c.is_limited a.height b.height c.height (sym (above_is a b) ∙ e) (sym (above_is b c) ∙ f)

higher_weak : (a b c : Height) → is_higher a b ≡ true → is_higher c b ≡ false → is_higher a c ≡ true
higher_weak a b c e f =
    above_is a c ∙ above_weak a.is_limited b.is_limited c.is_limited a.height b.height c.height (sym (above_is a b) ∙ e) (sym (above_is c b) ∙ f)

weak_higher : (a b c : Height) → is_higher b a ≡ false → is_higher b c ≡ true → is_higher a c ≡ true
weak_higher a b c e f =
    above_is a c ∙ weak_above a.is_limited b.is_limited c.is_limited a.height b.height c.height (sym (above_is b a) ∙ e) (sym (above_is b c) ∙ f)

none_higher : (a b c : Height) → is_higher b a ≡ false → is_higher c b ≡ false → is_higher c a ≡ false
none_higher a b c e f =
    above_is c a ∙ weak_through a.is_limited b.is_limited c.is_limited a.height b.height c.height (sym (above_is b a) ∙ e) (sym (above_is c b) ∙ f)

-- ---- buffers

-- by the height, or by which comes first where none is above the other
goes_by : (above below first : Bool) → above || (not below && first) ≡ true → (above ≡ true) ⊎ ((below ≡ false) × (first ≡ true))
goes_by true below first e = inl refl
goes_by false true first e = absurd (false≢true e)
goes_by false false first e = inr (refl, e)

higher_goes : (above below first : Bool) → above ≡ true → above || (not below && first) ≡ true
higher_goes true below first e = refl
higher_goes false below first e = absurd (false≢true e)

first_goes : (above below first : Bool) → below ≡ false → first ≡ true → above || (not below && first) ≡ true
first_goes true below first e f = refl
first_goes false true first e f = absurd (false≢true (sym e))
first_goes false false first e f = f

-- one that is put behind those that come first: it goes before those that it is above alone
pub later_goes : (height : Buffer → Height) (x y : Buffer) → is_before x y ≡ false → goes_before height x y ≡ is_higher (height x) (height y)
later_goes height x y e = by (is_higher (height x) (height y)) (is_higher (height y) (height x)) (is_before x y) e
  where
    by : (a b c : Bool) → c ≡ false → a || (not b && c) ≡ a
    by true b c e = refl
    by false true c e = refl
    by false false c e = e

pub earlier_goes : (height : Buffer → Height) (x y : Buffer) → is_before y x ≡ true → is_higher (height x) (height y) ≡ false → goes_before height y x ≡ true
earlier_goes height x y e f = first_goes (is_higher (height y) (height x)) (is_higher (height x) (height y)) (is_before y x) f e

-- ---- which come first

-- a place comes before another
data ComesBefore (f : FlowId) (p : ℕ) (g : FlowId) (q : ℕ) : Type 0 where
  EarlierExchange : f.exchange < g.exchange → ComesBefore f p g q
  ItsRequest : f.exchange ≡ g.exchange → f.back ≡ false → g.back ≡ true → ComesBefore f p g q
  EarlierPlace : f.exchange ≡ g.exchange → f.back ≡ g.back → p < q → ComesBefore f p g q

same_side : (a b : Bool) → (if a then b else not b) ≡ true → a ≡ b
same_side true b e = sym e
same_side false true e = absurd (false≢true e)
same_side false false e = refl

side_same : (a b : Bool) → a ≡ b → (if a then b else not b) ≡ true
side_same true true e = refl
side_same true false e = absurd (false≢true (sym e))
side_same false true e = absurd (false≢true e)
side_same false false e = refl

by_parts : (less alike sides less_place : Bool) → less || (alike && (sides || less_place)) ≡ true → (less ≡ true) ⊎ ((alike ≡ true) × ((sides ≡ true) ⊎ (less_place ≡ true)))
by_parts true alike sides less_place e = inl refl
by_parts false true true less_place e = inr (refl, inl refl)
by_parts false true false less_place e = inr (refl, inr e)
by_parts false false sides less_place e = absurd (false≢true e)

both_true : (a b : Bool) → a && b ≡ true → (a ≡ true) × (b ≡ true)
both_true true b e = (refl, e)
both_true false b e = absurd (false≢true e)

request_is : (a b : Bool) → not a && b ≡ true → (a ≡ false) × (b ≡ true)
request_is true b e = absurd (false≢true e)
request_is false b e = (refl, e)

before_is : (f g : FlowId) (p q : ℕ) → is_before (buffer.Place f p) (buffer.Place g q) ≡ true → ComesBefore f p g q
before_is f g p q e = by (by_parts (nat_lt f.exchange g.exchange) (f.exchange == g.exchange) (not f.back && g.back) ((if f.back then g.back else not g.back) && nat_lt p q) e)
  where
    by : (nat_lt f.exchange g.exchange ≡ true) ⊎ (((f.exchange == g.exchange) ≡ true) × ((not f.back && g.back ≡ true) ⊎ ((if f.back then g.back else not g.back) && nat_lt p q ≡ true))) → ComesBefore f p g q
    by (inl less) = EarlierExchange (ltb-true f.exchange g.exchange less)
    by (inr (alike, inl sides)) = let r = request_is f.back g.back sides in ItsRequest (eqb-true f.exchange g.exchange alike) r.0 r.1
    by (inr (alike, inr rest)) =
        let r = both_true (if f.back then g.back else not g.back) (nat_lt p q) rest in
        EarlierPlace (eqb-true f.exchange g.exchange alike) (same_side f.back g.back r.0) (ltb-true p q r.1)

so_before : (f g : FlowId) (p q : ℕ) → ComesBefore f p g q → is_before (buffer.Place f p) (buffer.Place g q) ≡ true
so_before f g p q (EarlierExchange less) = rw (lt-ltb f.exchange g.exchange less) refl
so_before f g p q (ItsRequest alike here there) = by (nat_lt f.exchange g.exchange)
  where
    by : (b : Bool) → b || ((f.exchange == g.exchange) && ((not f.back && g.back) || ((if f.back then g.back else not g.back) && nat_lt p q))) ≡ true
    by true = refl
    by false = rw (eq-eqb f.exchange g.exchange alike, here, there) refl
so_before f g p q (EarlierPlace alike sides less) = by (nat_lt f.exchange g.exchange) (not f.back && g.back)
  where
    by : (b c : Bool) → b || ((f.exchange == g.exchange) && (c || ((if f.back then g.back else not g.back) && nat_lt p q))) ≡ true
    by true c = refl
    by false true = rw (eq-eqb f.exchange g.exchange alike) refl
    by false false = rw (eq-eqb f.exchange g.exchange alike, side_same f.back g.back sides, lt-ltb p q less) refl

pub exchange_before : (f g : FlowId) (p q : ℕ) → f.exchange < g.exchange → is_before (buffer.Place f p) (buffer.Place g q) ≡ true
exchange_before f g p q less = so_before f g p q (EarlierExchange less)

pub request_before : (f g : FlowId) (p q : ℕ) → f.exchange ≡ g.exchange → f.back ≡ false → g.back ≡ true → is_before (buffer.Place f p) (buffer.Place g q) ≡ true
request_before f g p q alike here there = so_before f g p q (ItsRequest alike here there)

pub place_before : (f g : FlowId) (p q : ℕ) → f ≡ g → p < q → is_before (buffer.Place f p) (buffer.Place g q) ≡ true
place_before f g p q e less = so_before f g p q (EarlierPlace (ap (λ (v : FlowId). v.exchange) e) (ap (λ (v : FlowId). v.back) e) less)

pub write_before : (c d : ℕ) → c < d → is_before (buffer.Write c) (buffer.Write d) ≡ true
write_before c d less = lt-ltb c d less

comes_through : (f g k : FlowId) (p q r : ℕ) → ComesBefore f p g q → ComesBefore g q k r → ComesBefore f p k r
comes_through f g k p q r (EarlierExchange a) (EarlierExchange b) = EarlierExchange (omega (arith, a, b))
comes_through f g k p q r (EarlierExchange a) (ItsRequest e h t) = EarlierExchange (omega (arith, a, e))
comes_through f g k p q r (EarlierExchange a) (EarlierPlace e s b) = EarlierExchange (omega (arith, a, e))
comes_through f g k p q r (ItsRequest e h t) (EarlierExchange b) = EarlierExchange (omega (arith, e, b))
comes_through f g k p q r (ItsRequest e h t) (ItsRequest d i u) = absurd (false≢true (sym i ∙ t))
comes_through f g k p q r (ItsRequest e h t) (EarlierPlace d s b) = ItsRequest (e ∙ d) h (sym s ∙ t)
comes_through f g k p q r (EarlierPlace e s a) (EarlierExchange b) = EarlierExchange (omega (arith, e, b))
comes_through f g k p q r (EarlierPlace e s a) (ItsRequest d i u) = ItsRequest (e ∙ d) (s ∙ i) u
comes_through f g k p q r (EarlierPlace e s a) (EarlierPlace d t b) = EarlierPlace (e ∙ d) (s ∙ t) (omega (arith, a, b))

before_through : (a b c : Buffer) → is_before a b ≡ true → is_before b c ≡ true → is_before a c ≡ true
before_through (buffer.Place f p) (buffer.Place g q) (buffer.Place k r) e d = so_before f k p r (comes_through f g k p q r (before_is f g p q e) (before_is g k q r d))
before_through (buffer.Place f p) b (buffer.Write c) e d = refl
before_through (buffer.Place f p) (buffer.Write b) (buffer.Place k r) e d = absurd (false≢true d)
before_through (buffer.Write a) (buffer.Place g q) c e d = absurd (false≢true e)
before_through (buffer.Write a) (buffer.Write b) (buffer.Place k r) e d = absurd (false≢true d)
before_through (buffer.Write a) (buffer.Write b) (buffer.Write c) e d = less_through c b a d e

-- ---- which go before others

pub goes_through : (height : Buffer → Height) (a b c : Buffer) → goes_before height a b ≡ true → goes_before height b c ≡ true → goes_before height a c ≡ true
goes_through height a b c e d =
    by (goes_by (is_higher x y) (is_higher y x) (is_before a b) e) (goes_by (is_higher y z) (is_higher z y) (is_before b c) d)
  where
    x : Height
    x = height a

    y : Height
    y = height b

    z : Height
    z = height c

    by : (is_higher x y ≡ true) ⊎ ((is_higher y x ≡ false) × (is_before a b ≡ true)) → (is_higher y z ≡ true) ⊎ ((is_higher z y ≡ false) × (is_before b c ≡ true)) → goes_before height a c ≡ true
    by (inl h) (inl k) = higher_goes (is_higher x z) (is_higher z x) (is_before a c) (higher_through x y z h k)
    by (inl h) (inr k) = higher_goes (is_higher x z) (is_higher z x) (is_before a c) (higher_weak x y z h k.0)
    by (inr h) (inl k) = higher_goes (is_higher x z) (is_higher z x) (is_before a c) (weak_higher x y z h.0 k)
    by (inr h) (inr k) = first_goes (is_higher x z) (is_higher z x) (is_before a c) (none_higher x y z h.0 k.0) (before_through a b c h.1 k.1)

never_before : (a : Buffer) → is_before a a ≡ true → ⊥
never_before (buffer.Place f p) e = by (before_is f f p p e)
  where
    by : ComesBefore f p f p → ⊥
    by (EarlierExchange less) = omega (arith, less)
    by (ItsRequest same here there) = false≢true (sym here ∙ there)
    by (EarlierPlace same sides less) = omega (arith, less)
never_before (buffer.Write c) e = omega (arith, ltb-true c c e)

-- what comes behind doesn't come before
pub before_flips : (a b : Buffer) → is_before a b ≡ true → is_before b a ≡ false
before_flips a b e = by (is_before b a) refl
  where
    by : (c : Bool) → is_before b a ≡ c → is_before b a ≡ false
    by true d = absurd (never_before a (before_through a b a e d))
    by false d = d
