-- What the rule says of single views, after a step.
use Rattle.std.proofs.Common.{◌≡◌, ◌≢◌, ℕ, ◌≤◌, true, true≢false, false, List, set, sym, ◌∙◌, subst, ⊎_elim, arith}
use mathlib.Core.Option.{some}
use lib.ListN.{get_elem?}
use Rattle.atomic_table.specs.Table.{State}
use Rattle.atomic_table.proofs.Lists.{at_set}
use Rattle.shared_tokens.specs.declared.token.Token.{Token}
use Rattle.shared_tokens.specs.Rule.{total, owing_of, room_of, FitsPut, FitsTake, Fits, EachFits, IsFilled}
use Rattle.shared_tokens.proofs.Totals.{total_le}

abbrev pub St : Type 0
St = State (Unit {0}) Token

-- all that is owed is at most the number of seats
pub few_owed : (b n : ℕ) (s : St) → IsFilled b n s → total owing_of s.views ≤ n
few_owed b n s r =
    let a = total_le owing_of room_of s.views (λ i v at. let o = (r.each i v at).owes in omega arith) in
    let room = r.room in
    omega arith

-- a view that takes fits by what is said of these alone
pub takes_fit : (b n p put g i : ℕ) (v : Token) → v.puts ≡ false → FitsTake put v → v.owing ≤ v.seats → (v.seats ≡ 0 → v.granted ≡ 0) → Fits b n p put g i v
takes_fit b n p put g i v takes fits owes none = record {
  puts = λ puts. absurd (true≢false (sym puts ∙ takes));
  takes = λ _. fits;
  owes = owes;
  none = none;
}

-- and so does one that puts
pub puts_fit : (b n p put g i : ℕ) (v : Token) → v.puts ≡ true → FitsPut b n p put g i v → v.owing ≤ v.seats → (v.seats ≡ 0 → v.granted ≡ 0) → Fits b n p put g i v
puts_fit b n p put g i v puts fits owes none = record {
  puts = λ _. fits;
  takes = λ takes. absurd (true≢false (sym puts ∙ takes));
  owes = owes;
  none = none;
}

-- where more is granted, a view still fits
pub fits_more : (b n p put g g' i : ℕ) (v : Token) → g ≤ g' → Fits b n p put g i v → Fits b n p put g' i v
fits_more b n p put g g' i v up f = record {
  puts = λ is. let a = f.puts is in let low = a.low in record { one = a.one; total_is = a.total_is; low = omega arith; paid = a.paid; size = a.size };
  takes = f.takes;
  owes = f.owes;
  none = f.none;
}

-- where more is put, each but the one that puts still fits
pub fits_put : (b n p put put' g i : ℕ) (v : Token) → put ≤ put' → i ≢ p → Fits b n p put g i v → Fits b n p put' g i v
fits_put b n p put put' g i v up ne f = record {
  puts = λ is. absurd (ne (f.puts is).one);
  takes = λ is. let a = f.takes is in let low = a.low in record { low = omega arith; one = a.one };
  owes = f.owes;
  none = f.none;
}

pub each_set : (b n p put g : ℕ) (views : List Token) (id : ℕ) (w : Token) → Fits b n p put g id w
    → ((j : ℕ) (u : Token) → j ≢ id → get_elem? views j ≡ some u → Fits b n p put g j u) → EachFits b n p put g (set views id w)
each_set b n p put g views id w here others j u e =
    ⊎_elim (λ (t : (j ≡ id) × (w ≡ u)). subst (λ (y : ℕ × Token). Fits b n p put g y.0 y.1) (λ k. (sym t.0 k, t.1 k)) here)
    (λ (t : (j ≢ id) × (get_elem? views j ≡ some u)). others j u t.0 t.1) (at_set views id j w u e)
