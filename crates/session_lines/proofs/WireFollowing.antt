-- What came in a wire session goes on.
use Rattle.flow_notes.specs.declared.events.Event.{Event}
use Rattle.session_lines.specs.Courses.{greatest_of}
use Rattle.session_lines.specs.WireOrder.{gone, is_there, named, obeyed}
use Rattle.session_lines.specs.WireOrders.{FollowsWire, WireOrderIs, kept_posts}
use Rattle.session_lines.specs.declared.wire_order.WireOrder.{WireOrder}
use Rattle.std.proofs.Common.{ap, arith, refl, subst, sym, ◌∙◌}
use Rattle.std.proofs.lemmas.Bool.Decides.{nat_tests}
use Rattle.std.specs.BTreeMap.{get}
use Rattle.std.specs.BTreeSet.{contains}
use Rattle.std.specs.List.{list_all}
use Rattle.std.specs.Ordering.{nat_cmp}
use Rattle.std.specs.Prelude.{Bool, List, Ok, [], false, if◌then◌else◌, length, max, nat_le, nat_lt, not, true, ℕ, ◌&&◌, ◌<◌, ◌==◌, ◌||◌, ◌∷◌, ◌≡◌, ◌≤◌}
use Rattle.tape_laws.specs.Dispatches.{has}
use Rattle.flow_notes.specs.declared.events.Event.TheVariants as event

-- ---- numbers

-- each of some numbers is below n, which is above 0, where the greatest is
all_below : (xs : List ℕ) (n : ℕ) → (nat_lt 0 n && list_all (λ x. nat_lt x n) xs) ≡ nat_lt (greatest_of xs) n
all_below [] n = none (nat_lt 0 n)
  where
    none : (b : Bool) → (b && true) ≡ b
    none true = refl
    none false = refl
all_below (x ∷ xs) n = turned (nat_lt 0 n) (nat_lt x n) (list_all (λ y. nat_lt y n) xs) ∙ ap (λ b. nat_lt x n && b) (all_below xs n) ∙ both x (greatest_of xs) n
  where
    turned : (a b c : Bool) → (a && (b && c)) ≡ (b && (a && c))
    turned true true c = refl
    turned true false c = refl
    turned false true c = refl
    turned false false c = refl

    both : (x g n : ℕ) → (nat_lt x n && nat_lt g n) ≡ nat_lt (max x g) n
    both x g n = grind (arith, nat_tests)

from_one : (xs : List ℕ) (n : ℕ) → (nat_le 1 n && list_all (λ x. nat_lt x n) xs) ≡ nat_lt (greatest_of xs) n
from_one xs n = ap (λ b. b && list_all (λ x. nat_lt x n) xs) (same n) ∙ all_below xs n
  where
    same : (n : ℕ) → nat_le 1 n ≡ nat_lt 0 n
    same n = grind (arith, nat_tests)

-- a number above the greatest isn't among them
not_among : (xs : List ℕ) (n : ℕ) → greatest_of xs < n → has xs n ≡ false
not_among [] n p = refl
not_among (x ∷ xs) n p = ap (λ b. b || has xs n) (other x n (omega (arith, p))) ∙ not_among xs n (omega (arith, p))
  where
    other : (x n : ℕ) → x < n → (x == n) ≡ false
    other x n p = grind (arith, nat_tests)

under : (g n : ℕ) → g < n → nat_lt g n ≡ true
under g n p = grind (arith, nat_tests)

over : (g n : ℕ) → n ≤ g → nat_lt g n ≡ false
over g n le = grind (arith, nat_tests)

either : (a b : Bool) → (a || b) ≡ false → b ≡ false
either true b e = cc
either false b e = e

-- ---- events that change nothing

-- ---- a connection that comes

-- what is there, with one more
come_there : (es : List Event) (c d : ℕ) → has (gone es) c ≡ false → (if c == d then true else is_there es d) ≡ ((c == d) || has (named es) d) && not (has (gone es) d)
come_there es c d f = by (c == d) refl
  where
    same : (c d : ℕ) → (c == d) ≡ true → c ≡ d
    same c d t = grind (arith, nat_tests)

    by : (b : Bool) → (c == d) ≡ b → (if b then true else is_there es d) ≡ (b || has (named es) d) && not (has (gone es) d)
    by true t = let P : ℕ → Type 0 = λ v. true ≡ not (has (gone es) v) in subst P (same c d t) (ap not (sym f))
    by false t = refl

come_fresh : (es : List Event) (c d : ℕ) → ((q : ℕ) → has (named es) q ≡ false → has (gone es) q ≡ false) → ((c == d) || has (named es) d) ≡ false → has (gone es) d ≡ false
come_fresh es c d f n = f d (either (c == d) (has (named es) d) n)

accept_more : (o new : WireOrder) (r : ℕ) (es : List Event) (c : ℕ) → WireOrderIs o r es → o.greatest < c → new.resources ≡ o.resources → new.greatest ≡ c → new.posts ≡ o.posts → new.version ≡ o.version
    → ((q : ℕ) → contains nat_cmp new.there q ≡ (if c == q then true else contains nat_cmp o.there q)) → WireOrderIs new r (event.Accept c ∷ es)
accept_more o new r es c k lt er eg ep ev put = record {
  resources_are = er ∙ k.resources_are;
  greatest_is = eg ∙ omega (arith, k.greatest_is, lt);
  there_are = λ q. put q ∙ ap (λ b. if c == q then true else b) (k.there_are q) ∙ come_there es c q (k.fresh c (not_among (named es) c (omega (arith, k.greatest_is, lt))));
  posts_are = λ p. ap (λ m. kept_posts (get nat_cmp m p)) ep ∙ k.posts_are p;
  version_is = ev ∙ k.version_is;
  fresh = λ q n. come_fresh es c q k.fresh n;
}

join_more : (o new : WireOrder) (r : ℕ) (es : List Event) (c cluster : ℕ) → WireOrderIs o r es → o.greatest < c → new.resources ≡ o.resources → new.greatest ≡ c → new.posts ≡ o.posts → new.version ≡ o.version
    → ((q : ℕ) → contains nat_cmp new.there q ≡ (if c == q then true else contains nat_cmp o.there q)) → WireOrderIs new r (event.Join c cluster ∷ es)
join_more o new r es c cluster k lt er eg ep ev put =
    let a = accept_more o new r es c k lt er eg ep ev put in
    record { resources_are = a.resources_are; greatest_is = a.greatest_is; there_are = a.there_are; posts_are = a.posts_are; version_is = a.version_is; fresh = a.fresh }

-- what coming does, for a client's connection and for one to a cluster
pub record Comes (old : WireOrder) (c : ℕ) (new : WireOrder) (came : Bool) : Type 0 where
  pub accept : FollowsWire old (event.Accept c) new (Ok came)
  pub join : (cluster : ℕ) → FollowsWire old (event.Join c cluster) new (Ok came)

pub came_on : (o new : WireOrder) (c : ℕ) → o.greatest < c → new.resources ≡ o.resources → new.greatest ≡ c → new.posts ≡ o.posts → new.version ≡ o.version
    → ((q : ℕ) → contains nat_cmp new.there q ≡ (if c == q then true else contains nat_cmp o.there q)) → Comes o c new true
came_on o new c lt er eg ep ev put = record {
  accept = record { goes = λ r es k. (all_below (named es) c ∙ under (greatest_of (named es)) c (omega (arith, k.greatest_is, lt)), accept_more o new r es c k lt er eg ep ev put) };
  join = λ cluster. record { goes = λ r es k. (all_below (named es) c ∙ under (greatest_of (named es)) c (omega (arith, k.greatest_is, lt)), join_more o new r es c cluster k lt er eg ep ev put) };
}

pub came_late : (o : WireOrder) (c : ℕ) → c ≤ o.greatest → Comes o c o false
came_late o c le = record {
  accept = record { goes = λ r es k. (all_below (named es) c ∙ over (greatest_of (named es)) c (omega (arith, k.greatest_is, le)), k) };
  join = λ cluster. record { goes = λ r es k. (all_below (named es) c ∙ over (greatest_of (named es)) c (omega (arith, k.greatest_is, le)), k) };
}

-- ---- a connection that goes

-- ---- a post

-- ---- a version

regroup : (a b c : Bool) → (a && b && c) ≡ ((a && b) && c)
regroup true true c = refl
regroup true false c = refl
regroup false b c = refl

pub obeyed_on : (o new : WireOrder) (v : ℕ) (pressures : List ℕ) → o.version < v → length pressures ≡ o.resources → new.resources ≡ o.resources → new.greatest ≡ o.greatest → new.there ≡ o.there → new.posts ≡ o.posts → new.version ≡ v
    → FollowsWire o (event.Obey v pressures) new (Ok true)
obeyed_on o new v pressures lt en er eg et ep ev = record {
  goes = λ r es k. (
    regroup (nat_le 1 v) (list_all (λ w. nat_lt w v) (obeyed es)) (length pressures == r) ∙ ap (λ b. b && (length pressures == r)) (from_one (obeyed es) v ∙ under (greatest_of (obeyed es)) v (omega (arith, k.version_is, lt))) ∙ equal (length pressures) r (en ∙ k.resources_are),
    record {
      resources_are = er ∙ k.resources_are;
      greatest_is = eg ∙ k.greatest_is;
      there_are = λ q. ap (λ s. contains nat_cmp s q) et ∙ k.there_are q;
      posts_are = λ q. ap (λ m. kept_posts (get nat_cmp m q)) ep ∙ k.posts_are q;
      version_is = ev ∙ omega (arith, k.version_is, lt);
      fresh = k.fresh;
    },
  );
}
  where
    equal : (m n : ℕ) → m ≡ n → (m == n) ≡ true
    equal m n e = grind (arith, nat_tests)

pub obeyed_late : (o : WireOrder) (v : ℕ) (pressures : List ℕ) → v ≤ o.version → FollowsWire o (event.Obey v pressures) o (Ok false)
obeyed_late o v pressures le = record {
  goes = λ r es k. (regroup (nat_le 1 v) (list_all (λ w. nat_lt w v) (obeyed es)) (length pressures == r) ∙ ap (λ b. b && (length pressures == r)) (from_one (obeyed es) v ∙ over (greatest_of (obeyed es)) v (omega (arith, k.version_is, le))), k);
}

-- ---- an event of a plain session
