-- Which streams' receive buffers hold octets, from one history to the next.
use Rattle.exchange_core.specs.Exchanges.{exchange_at}
use Rattle.plain_laws.proofs.Changes.{move_keeps, move_keeps_lists}
use Rattle.plain_laws.proofs.EventChanges.{begin_keeps, begin_live, body_keeps, body_recv}
use Rattle.plain_laws.proofs.Streams.{by_case, has_more, own_or_other, same_number}
use Rattle.plain_laws.specs.Keeping.{KeepsStream}
use Rattle.plain_laws.specs.Regular.{IsUnborn}
use Rattle.std.proofs.lemmas.Bool.{ltb-true}
use Rattle.std.proofs.Math.Bool.{and-false}
use Rattle.std.proofs.Math.Bool.{or-false}
use Rattle.std.proofs.Common.{ap, arith, length-append, refl, sym, ◌∙◌}
use Rattle.std.proofs.lemmas.Bool.Decides.{nat_tests}
use Rattle.std.specs.BTreeSet.{BTreeSet, contains}
use Rattle.std.specs.Ordering.{nat_cmp}
use Rattle.std.specs.Prelude.{Bool, List, false, length, min, nat_lt, not, true, ℕ, ◌&&◌, ◌++◌, ◌+◌, ◌-◌, ◌<◌, ◌==◌, ◌||◌, ◌≡◌}
use Rattle.plain_laws.specs.Words.{Past, Alive, past_begin, past_body, past_move, recv_at}
use Rattle.tape_laws.specs.Dispatches.{has, live}
use Rattle.tape_laws.specs.declared.PlainLimits.{PlainLimits}
use Rattle.plain_core.specs.Flows.{HoldingIs, StreamIs}
use Rattle.plain_core.specs.UnitsOf.{is_emptied}
use Rattle.plain_core.specs.declared.flows.Flows.{Flows}

abbrev holds_some : PlainLimits → ℕ → Past → Bool
holds_some limits x h = nat_lt 0 (length (recv_at limits x h))

alone : (b : Bool) → (b && true) ≡ b
alone true = refl
alone false = refl

-- no receive buffer changed
pub holding_kept : (limits : PlainLimits) (holding : BTreeSet ℕ) (h h' : Past) → HoldingIs limits holding h → live h' ≡ live h
    → ((y : ℕ) → recv_at limits y h' ≡ recv_at limits y h) → HoldingIs limits holding h'
holding_kept limits holding h h' k lives same = record {
  holds = λ y. cc (k.holds y, same y);
}

-- that of one live stream did
pub holding_changed : (limits : PlainLimits) (x : ℕ) (old new : BTreeSet ℕ) (h h' : Past) → HoldingIs limits old h → Alive h x → live h' ≡ live h
    → ((y : ℕ) → (x == y) ≡ false → KeepsStream limits y h h') → contains nat_cmp new x ≡ nat_lt 0 (length (recv_at limits x h'))
    → ((y : ℕ) → (x == y) ≡ false → contains nat_cmp new y ≡ contains nat_cmp old y) → HoldingIs limits new h'
holding_changed limits x old new h h' k is lives others own rest = record {
  holds = λ y. own_or_other (λ v. contains nat_cmp new v ≡ (has (live h') v && holds_some limits v h')) x y
      (cc)
      (λ d. cc (rest y d, k.holds y, (others y d).recv));
}

-- a stream began
pub holding_begun : (limits : PlainLimits) (k x : ℕ) (holding : BTreeSet ℕ) (h : Past) → HoldingIs limits holding h → IsUnborn limits x h
    → HoldingIs limits holding (past_begin limits k x h)
holding_begun limits k x holding h k' u =
    let h' = past_begin limits k x h in
    record {
      holds = λ y. k'.holds y ∙ (ap (λ (o : List ℕ). has (live h) y && nat_lt 0 (length o)) (sym (begin_keeps limits k x h y).recv)
          ∙ sym (ap (λ b. b && holds_some limits y h') (cc (begin_live limits k x h, has_more (live h) x y))
          ∙ own_or_other (λ v. ((has (live h) v || (x == v)) && holds_some limits v h') ≡ (has (live h) v && holds_some limits v h')) x y
          (none _ _ _ (ap (λ (o : List ℕ). nat_lt 0 (length o)) ((begin_keeps limits k x h x).recv ∙ u.recv)))
          (λ d. cc (or-false (has (live h) y)))));
    }
  where
    none : (a b c : Bool) → c ≡ false → (a && c) ≡ (b && c)
    none true true c e = refl
    none false false c e = refl
    none true false c e = e
    none false true c e = sym e

-- octets arrived, some or none
module _ (a c : Bool) (octets : List ℕ) where
  pub held_more : (length octets == 0) ≡ false → (a || c) ≡ ((a && nat_lt 0 (length octets)) || c)
  held_more e = cc (some (length octets) e, alone a)
    where
      some : (l : ℕ) → (l == 0) ≡ false → nat_lt 0 l ≡ true
      some l e = grind (arith, nat_tests)

  pub held_same : (length octets == 0) ≡ true → c ≡ ((a && nat_lt 0 (length octets)) || c)
  held_same e = cc (none (length octets) e, and-false a)
    where
      none : (l : ℕ) → (l == 0) ≡ true → nat_lt 0 l ≡ false
      none l e = grind (arith, nat_tests)

pub holding_arrived : (limits : PlainLimits) (k x : ℕ) (octets : List ℕ) (old new : BTreeSet ℕ) (h : Past) → HoldingIs limits old h → Alive h x
    → ((y : ℕ) → contains nat_cmp new y ≡ (((x == y) && nat_lt 0 (length octets)) || contains nat_cmp old y)) → HoldingIs limits new (past_body k x octets h)
holding_arrived limits k x octets old new h was is made =
    holding_changed limits x old new h (past_body k x octets h) was is refl (λ y d. body_keeps limits k x y octets h d)
    (made x ∙ (ap (λ b. (b && nat_lt 0 (length octets)) || contains nat_cmp old x) (same_number x)
    ∙ (ap (λ b. nat_lt 0 (length octets) || b) (was.holds x ∙ ap (λ b. b && holds_some limits x h) is)
    ∙ (some_of (recv_at limits x h) octets ∙ sym (ap (λ (o : List ℕ). nat_lt 0 (length o)) (body_recv limits k x octets h))))))
    (λ y d. cc (made y))
  where
    some : (a b c : ℕ) → c ≡ a + b → (nat_lt 0 b || nat_lt 0 a) ≡ nat_lt 0 c
    some a b c e = by_case (nat_lt 0 b)
        (λ t. cc (more a b c e t))
        (λ f. cc (same a b c e f))
      where
        more : (a b c : ℕ) → c ≡ a + b → nat_lt 0 b ≡ true → nat_lt 0 c ≡ true
        more a b c e t = grind (arith, nat_tests)

        same : (a b c : ℕ) → c ≡ a + b → nat_lt 0 b ≡ false → a ≡ c
        same a b c e f = grind (arith, nat_tests)

    some_of : (held octets : List ℕ) → (nat_lt 0 (length octets) || nat_lt 0 (length held)) ≡ nat_lt 0 (length (held ++ octets))
    some_of held octets = some (length held) (length octets) (length (held ++ octets)) (length-append held octets)

-- ---- moves
-- some were there
pub some_there : (n q r : ℕ) → 0 < n → n ≡ min q r → nat_lt 0 r ≡ true
some_there n q r p e = test r (more n q r p e)
  where
    more : (n q r : ℕ) → 0 < n → n ≡ min q r → 0 < r
    more n q r p e = omega (arith, p, e)

    test : (r : ℕ) → 0 < r → nat_lt 0 r ≡ true
    test r p = grind (arith, nat_tests)

-- whether a move took all
pub emptied_is : (limits : PlainLimits) (flows : Flows) (x : ℕ) (h : Past) → StreamIs limits x h (exchange_at flows.exchanges x)
    → is_emptied flows x ≡ (length (recv_at limits x h) == 0)
emptied_is limits flows x h s =
    cc

-- a move of n octets, of r that were there, left l
pub left_some : (n q r l : ℕ) → n ≡ min q r → l ≡ r - n → not (nat_lt n q || (l == 0)) ≡ nat_lt 0 l
left_some n q r l e f = by_case (nat_lt n q)
    (λ t. cc (none n q r l e f t))
    (λ t. cc (some l))
  where
    none : (n q r l : ℕ) → n ≡ min q r → l ≡ r - n → nat_lt n q ≡ true → nat_lt 0 l ≡ false
    none n q r l e f t = by_case (nat_lt 0 l) (λ b. absurd (both n q r l e f (ltb-true n q t) (ltb-true 0 l b))) (λ b. b)
      where
        both : (n q r l : ℕ) → n ≡ min q r → l ≡ r - n → n < q → 0 < l → ⊥
        both n q r l e f t b = omega (arith, e, f, t, b)

    some : (l : ℕ) → not (l == 0) ≡ nat_lt 0 l
    some l = grind (arith, nat_tests)

pub holding_moved : (limits : PlainLimits) (x n : ℕ) (took : Bool) (old new : BTreeSet ℕ) (h : Past) → HoldingIs limits old h → Alive h x
    → nat_lt 0 (length (recv_at limits x h)) ≡ true → not took ≡ nat_lt 0 (length (recv_at limits x (past_move limits x n h)))
    → ((y : ℕ) → contains nat_cmp new y ≡ (not ((x == y) && took) && contains nat_cmp old y)) → HoldingIs limits new (past_move limits x n h)
holding_moved limits x n took old new h was is there left made =
    holding_changed limits x old new h (past_move limits x n h) was is (move_keeps_lists limits x n h).lives (λ y d. move_keeps limits x n h y d)
    (made x ∙ (ap (λ b. not (b && took) && contains nat_cmp old x) (same_number x) ∙ (ap (λ b. not took && b) (was.holds x ∙ (ap (λ b. b && holds_some limits x h) is ∙ there)) ∙ (alone (not took) ∙ left))))
    (λ y d. cc (made y))
