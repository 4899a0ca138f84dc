-- Connections whose numbers rise, once something was given or closed.
use Rattle.metered_wires.specs.Rising.{IsRising, untold}
use Rattle.std.proofs.Common.{ap, arith, inl, inr, refl, sym, ◌∙◌, ◌⊎◌}
use Rattle.std.proofs.lemmas.Bool.{false≢true}
use Rattle.std.proofs.lemmas.Bool.Decides.{nat_tests}
use Rattle.std.specs.List.{list_any}
use Rattle.std.specs.Prelude.{Bool, List, None, [], cond, false, if◌then◌else◌, nat_eq, not, true, ℕ, ◌++◌, ◌<◌, ◌||◌, ◌∷◌, ◌≡◌, ◌≤◌}
use Rattle.worker_ports.specs.Told.{with_last}
use Rattle.worker_ports.specs.declared.wires.WireStep.TheVariants as step
use Rattle.worker_ports.specs.Wires.{Gives, Seen, closed, given, is_live, without}
use Rattle.worker_ports.specs.declared.wires.Wired.{Wired}
use Rattle.worker_ports.specs.declared.wires.Wired.TheVariants as wired

same_is : (m n : ℕ) → nat_eq m n ≡ true → m ≡ n
same_is m n h = grind (arith, nat_tests)

above_apart : (m n : ℕ) → n < m → nat_eq m n ≡ false
above_apart m n h = grind (arith, nat_tests)

here : (n : ℕ) → nat_eq n n ≡ true
here n = grind (arith, nat_tests)

-- each of the numbers is at most n
abbrev pub AreUpTo : ℕ → List ℕ → Type 0
AreUpTo n numbers = (c : ℕ) → list_any (nat_eq c) numbers ≡ true → c ≤ n

or_cases : (a b : Bool) → (a || b) ≡ true → (a ≡ true) ⊎ (b ≡ true)
or_cases true b h = inl refl
or_cases false b h = inr h

or_right : (a b : Bool) → b ≡ true → (a || b) ≡ true
or_right true b h = refl
or_right false b h = h

or_left : (a b : Bool) → a ≡ true → (a || b) ≡ true
or_left true b h = refl
or_left false b h = absurd (false≢true h)

any_cases : (d x : ℕ) (xs : List ℕ) → list_any (nat_eq d) (x ∷ xs) ≡ true → (nat_eq d x ≡ true) ⊎ (list_any (nat_eq d) xs ≡ true)
any_cases d x xs h = or_cases (nat_eq d x) (list_any (nat_eq d) xs) h

any_here : (d x : ℕ) (xs : List ℕ) → nat_eq d x ≡ true → list_any (nat_eq d) (x ∷ xs) ≡ true
any_here d x xs h = or_left (nat_eq d x) (list_any (nat_eq d) xs) h

any_behind : (d x : ℕ) (xs : List ℕ) → list_any (nat_eq d) xs ≡ true → list_any (nat_eq d) (x ∷ xs) ≡ true
any_behind d x xs h = or_right (nat_eq d x) (list_any (nat_eq d) xs) h

-- one more behind
in_behind : (xs : List ℕ) (c d : ℕ) → list_any (nat_eq d) (xs ++ c ∷ []) ≡ true → (list_any (nat_eq d) xs ≡ true) ⊎ (d ≡ c)
in_behind [] c d there = elim (any_cases d c [] there) [ inl e ↦ inr (same_is d c e) | inr e ↦ absurd (false≢true e) ]
in_behind (x ∷ xs) c d there = elim (any_cases d x (xs ++ c ∷ []) there) [
  | inl e ↦ inl (any_here d x xs e)
  | inr e ↦ elim (in_behind xs c d e) [ inl f ↦ inl (any_behind d x xs f) | inr f ↦ inr f ]
]

up_to_behind : (xs : List ℕ) (n c : ℕ) → AreUpTo n xs → n < c → AreUpTo c (xs ++ c ∷ [])
up_to_behind xs n c each less d there = elim (in_behind xs c d there) [ inl e ↦ omega (arith, each d e, less) | inr e ↦ omega (arith, e) ]

-- one less
without_step : (b : Bool) (xs : List ℕ) (c d x : ℕ) → (list_any (nat_eq d) (without c xs) ≡ true → list_any (nat_eq d) xs ≡ true) → list_any (nat_eq d) (cond (not b) (x ∷ without c xs) (without c xs)) ≡ true → list_any (nat_eq d) (x ∷ xs) ≡ true
without_step true xs c d x behind h = any_behind d x xs (behind h)
without_step false xs c d x behind h = elim (any_cases d x (without c xs) h) [ inl e ↦ any_here d x xs e | inr e ↦ any_behind d x xs (behind e) ]

in_without : (xs : List ℕ) (c d : ℕ) → list_any (nat_eq d) (without c xs) ≡ true → list_any (nat_eq d) xs ≡ true
in_without [] c d there = there
in_without (x ∷ xs) c d there = without_step (nat_eq c x) xs c d x (in_without xs c d) there

-- ---- what is given keeps the numbers rising
comes_rises : (c : ℕ) (old new : Seen) → IsRising old → old.greatest < c → new.live ≡ old.live ++ c ∷ [] → new.held ≡ old.held → new.greatest ≡ c → IsRising new
comes_rises c old new rising less live held greatest = record {
  live = λ d there. let within : d ≤ c = up_to_behind old.live old.greatest c rising.live less d (ap (λ xs. list_any (nat_eq d) xs) (sym live) ∙ there) in omega (arith, within, greatest);
  held = λ d there. let within : d ≤ old.greatest = rising.held d (ap (λ xs. list_any (nat_eq d) xs) (sym held) ∙ there) in omega (arith, within, greatest, less);
}

pub same_rises : (old new : Seen) → IsRising old → new.live ≡ old.live → new.held ≡ old.held → new.greatest ≡ old.greatest → IsRising new
same_rises old new rising live held greatest = record {
  live = λ d there. let within : d ≤ old.greatest = rising.live d (ap (λ xs. list_any (nat_eq d) xs) (sym live) ∙ there) in omega (arith, within, greatest);
  held = λ d there. let within : d ≤ old.greatest = rising.held d (ap (λ xs. list_any (nat_eq d) xs) (sym held) ∙ there) in omega (arith, within, greatest);
}

goes_rises : (c : ℕ) (old new : Seen) → IsRising old → new.live ≡ without c old.live → new.held ≡ without c old.held → new.greatest ≡ old.greatest → IsRising new
goes_rises c old new rising live held greatest = record {
  live = λ d there. let within : d ≤ old.greatest = rising.live d (in_without old.live c d (ap (λ xs. list_any (nat_eq d) xs) (sym live) ∙ there)) in omega (arith, within, greatest);
  held = λ d there. let within : d ≤ old.greatest = rising.held d (in_without old.held c d (ap (λ xs. list_any (nat_eq d) xs) (sym held) ∙ there)) in omega (arith, within, greatest);
}

pub given_rises : (old : Seen) (w : Wired) (new : Seen) → IsRising old → Gives old w new → IsRising new
given_rises old (wired.Accept c) new rising g = comes_rises c old new rising g.may (ap (λ s. s.live) g.is) (ap (λ s. s.held) g.is) (ap (λ s. s.greatest) g.is)
given_rises old (wired.Join c k) new rising g = comes_rises c old new rising g.may.0 (ap (λ s. s.live) g.is) (ap (λ s. s.held) g.is) (ap (λ s. s.greatest) g.is)
given_rises old (wired.Read c octets) new rising g = same_rises old new rising (ap (λ s. s.live) g.is) (ap (λ s. s.held) g.is) (ap (λ s. s.greatest) g.is)
given_rises old (wired.Lost c) new rising g = goes_rises c old new rising (ap (λ s. s.live) g.is) (ap (λ s. s.held) g.is) (ap (λ s. s.greatest) g.is)
given_rises old wired.Idle new rising g = same_rises old new rising (ap (λ s. s.live) g.is) (ap (λ s. s.held) g.is) (ap (λ s. s.greatest) g.is)
given_rises old wired.Stop new rising g = same_rises old new rising (ap (λ s. s.live) g.is) (ap (λ s. s.held) g.is) (ap (λ s. s.greatest) g.is)

-- closed, or as it was
abbrev closed_by : Bool → ℕ → Seen → Seen
closed_by b c s = if b then record s { live = without c s.live; held = without c s.held; steps = with_last (step.Closed c) s.steps } else s

closed_by_rises : (b : Bool) (c : ℕ) (s : Seen) → IsRising s → IsRising (closed_by b c s)
closed_by_rises true c s rising = goes_rises c s (closed_by true c s) rising refl refl refl
closed_by_rises false c s rising = rising

pub closed_rises : (c : ℕ) (s : Seen) → IsRising s → IsRising (closed c s)
closed_rises c s rising = closed_by_rises (is_live c s) c s rising

closed_by_greatest : (b : Bool) (c : ℕ) (s : Seen) → (closed_by b c s).greatest ≡ s.greatest
closed_by_greatest true c s = refl
closed_by_greatest false c s = refl

pub closed_greatest : (c : ℕ) (s : Seen) → (closed c s).greatest ≡ s.greatest
closed_greatest c s = closed_by_greatest (is_live c s) c s

untold_by : (b : Bool) (g c : ℕ) (s : Seen) → untold g (closed_by b c s) ≡ closed_by b c (untold g s)
untold_by true g c s = refl
untold_by false g c s = refl

pub closed_untold : (g c : ℕ) (s : Seen) → untold g (closed c s) ≡ closed c (untold g s)
closed_untold g c s = untold_by (is_live c s) g c s

-- ---- a connection that came and was closed at once leaves no trace
apart_kept : (b : Bool) (x : ℕ) (xs ys : List ℕ) → b ≡ false → cond (not b) (x ∷ ys) ys ≡ x ∷ ys
apart_kept true x xs ys e = absurd (false≢true (sym e))
apart_kept false x xs ys e = refl

same_gone : (b : Bool) (c : ℕ) → b ≡ true → cond (not b) (c ∷ []) [] ≡ []
same_gone true c e = refl
same_gone false c e = absurd (false≢true e)

without_none : (xs : List ℕ) (n c : ℕ) → AreUpTo n xs → n < c → without c xs ≡ xs
without_none [] n c each less = refl
without_none (x ∷ xs) n c each less =
    apart_kept (nat_eq c x) x xs (without c xs) (above_apart c x (omega (arith, each x (any_here x x xs (here x)), less)))
    ∙ ap (λ ys. x ∷ ys) (without_none xs n c (λ d there. each d (any_behind d x xs there)) less)

without_last : (xs : List ℕ) (n c : ℕ) → AreUpTo n xs → n < c → without c (xs ++ c ∷ []) ≡ xs
without_last [] n c each less = same_gone (nat_eq c c) c (here c)
without_last (x ∷ xs) n c each less =
    apart_kept (nat_eq c x) x xs (without c (xs ++ c ∷ [])) (above_apart c x (omega (arith, each x (any_here x x xs (here x)), less)))
    ∙ ap (λ ys. x ∷ ys) (without_last xs n c (λ d there. each d (any_behind d x xs there)) less)

live_at_end : (xs : List ℕ) (c : ℕ) → list_any (nat_eq c) (xs ++ c ∷ []) ≡ true
live_at_end [] c = any_here c c [] (here c)
live_at_end (x ∷ xs) c = any_behind c x (xs ++ c ∷ []) (live_at_end xs c)

pub turned_away : (g c : ℕ) (old mid : Seen) → IsRising old → Gives old (wired.Accept c) mid → untold g (closed c mid) ≡ untold g old
turned_away g c old mid rising gives =
    ap (λ s. untold g (closed c s)) gives.is
    ∙ ap (λ b. untold g (closed_by b c (given (wired.Accept c) old))) (live_at_end old.live c)
    ∙ ap (λ xs. record { clusters = old.clusters; live = xs; greatest = g; held = without c old.held; steps = None }) (without_last old.live old.greatest c rising.live gives.may)
    ∙ ap (λ xs. record { clusters = old.clusters; live = old.live; greatest = g; held = xs; steps = None }) (without_none old.held old.greatest c rising.held gives.may)

-- the greatest number doesn't fall
pub given_grows : (old : Seen) (w : Wired) (new : Seen) → Gives old w new → old.greatest ≤ new.greatest
given_grows old (wired.Accept c) new g = let e = ap (λ s. s.greatest) g.is in omega (arith, g.may, e)
given_grows old (wired.Join c k) new g = let e = ap (λ s. s.greatest) g.is in omega (arith, g.may.0, e)
given_grows old (wired.Read c octets) new g = let e = ap (λ s. s.greatest) g.is in omega (arith, e)
given_grows old (wired.Lost c) new g = let e = ap (λ s. s.greatest) g.is in omega (arith, e)
given_grows old wired.Idle new g = let e = ap (λ s. s.greatest) g.is in omega (arith, e)
given_grows old wired.Stop new g = let e = ap (λ s. s.greatest) g.is in omega (arith, e)
