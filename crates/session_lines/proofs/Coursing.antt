-- A stream that begins.
use Rattle.flow_notes.specs.declared.events.Event.{Event}
use Rattle.session_lines.specs.Courses.{Follows, IsFresh, course_of, greatest_of}
use Rattle.tape_laws.specs.Following.{begun, cut, finished, paired}
use Rattle.session_lines.specs.declared.courses.Courses.{Courses}
use Rattle.std.proofs.Common.{ap, arith, refl, subst, sym, ◌∙◌}
use Rattle.std.proofs.lemmas.Bool.Decides.{nat_tests}
use Rattle.std.specs.BTreeMap.{get}
use Rattle.std.specs.List.{list_all}
use Rattle.std.specs.Ordering.{nat_cmp}
use Rattle.std.specs.Prelude.{Bool, List, Ok, Some, [], false, if◌then◌else◌, max, nat_lt, true, ℕ, ◌&&◌, ◌<◌, ◌==◌, ◌||◌, ◌∷◌, ◌≡◌, ◌≤◌}
use Rattle.tape_laws.specs.Dispatches.{has}
use Rattle.tape_laws.specs.Watermark.{above}
use Rattle.flow_notes.specs.declared.events.Event.TheVariants as event
use Rattle.flow_notes.specs.declared.events.PlainEvent.TheVariants as plain

-- each of some numbers is below s where the greatest is
below_all : (xs : List ℕ) (s : ℕ) → 0 < s → list_all (λ t. nat_lt t s) xs ≡ nat_lt (greatest_of xs) s
below_all [] s p = sym (zero_below s p)
  where
    zero_below : (s : ℕ) → 0 < s → nat_lt 0 s ≡ true
    zero_below s p = grind (arith, nat_tests)
below_all (x ∷ xs) s p = ap (λ b. nat_lt x s && b) (below_all xs s p) ∙ both x (greatest_of xs) s
  where
    both : (x g s : ℕ) → (nat_lt x s && nat_lt g s) ≡ nat_lt (max x g) s
    both x g s = grind (arith, nat_tests)

-- a number above the greatest isn't among them
not_among : (xs : List ℕ) (s : ℕ) → greatest_of xs < s → has xs s ≡ false
not_among [] s p = refl
not_among (x ∷ xs) s p = ap (λ b. b || has xs s) (other x s (omega (arith, p))) ∙ not_among xs s (omega (arith, p))
  where
    other : (x s : ℕ) → x < s → (x == s) ≡ false
    other x s p = grind (arith, nat_tests)

pub begin_refused : (c : Courses) (s : ℕ) → 0 < s → s ≤ c.greatest → Follows c (plain.Begin s) c (Ok false)
begin_refused c s p le = record {
  goes = λ es a.
      let g = a.greatest in
      (below_all (begun es) s p ∙ over (greatest_of (begun es)) s (omega (arith, g, le)), a);
}
  where
    over : (g s : ℕ) → s ≤ g → nat_lt g s ≡ false
    over g s le = grind (arith, nat_tests)

fresh_course : (es : List Event) (s q : ℕ) → IsFresh es s → s ≡ q → Some (record { ended = false; cut = false; paired = false }) ≡ course_of (event.Plain (plain.Begin s) ∷ es) q
fresh_course es s q f e =
    let test : (s == q) ≡ true = same s q e in
    let P : ℕ → Type 0 = λ v. (has (finished es) v ≡ false) × (has (cut es) v ≡ false) × (has (paired es) v ≡ false) in
    let at : P q = subst P e (f.finished, f.cut, f.paired) in
    rw (test, at.0, at.1, at.2) refl
  where
    same : (s q : ℕ) → s ≡ q → (s == q) ≡ true
    same s q e = grind (arith, nat_tests)

other_course : (es : List Event) (s q : ℕ) → (s == q) ≡ false → course_of es q ≡ course_of (event.Plain (plain.Begin s) ∷ es) q
other_course es s q e = rw e refl

pub begin_follows : (c : Courses) (new : Courses) (s : ℕ) → 0 < s → c.greatest < s → new.greatest ≡ s
    → ((q : ℕ) → get nat_cmp new.streams q ≡ (if s == q then Some (record { ended = false; cut = false; paired = false }) else get nat_cmp c.streams q))
    → Follows c (plain.Begin s) new (Ok true)
begin_follows c new s p above eg put = record {
  goes = λ es a.
      let g = a.greatest in
      let unbegun = not_among (begun es) s (omega (arith, g, above)) in (
        below_all (begun es) s p ∙ under (greatest_of (begun es)) s (omega (arith, g, above)),
        record {
          greatest = eg ∙ (omega (arith, g, above));
          streams = λ q. put q ∙ pick es c s q (a.fresh s unbegun) (a.streams q);
          fresh = λ q none. let k = either (s == q) (has (begun es) q) none in let f = a.fresh q k in record { finished = f.finished; cut = f.cut; paired = f.paired };
        },
      );
}
  where
    under : (g s : ℕ) → g < s → nat_lt g s ≡ true
    under g s p = grind (arith, nat_tests)

    either : (a b : Bool) → (a || b) ≡ false → b ≡ false
    either true b e = cc
    either false b e = e

    eq_of : (s q : ℕ) → (s == q) ≡ true → s ≡ q
    eq_of s q e = grind (arith, nat_tests)

    pick : (es : List Event) (c : Courses) (s q : ℕ) → IsFresh es s → get nat_cmp c.streams q ≡ course_of es q
        → (if s == q then Some (record { ended = false; cut = false; paired = false }) else get nat_cmp c.streams q) ≡ course_of (event.Plain (plain.Begin s) ∷ es) q
    pick es c s q f e = by_test (s == q) refl
      where
        by_test : (b : Bool) → (s == q) ≡ b → (if b then Some (record { ended = false; cut = false; paired = false }) else get nat_cmp c.streams q) ≡ course_of (event.Plain (plain.Begin s) ∷ es) q
        by_test true t = fresh_course es s q f (eq_of s q t)
        by_test false t = e ∙ other_course es s q t
