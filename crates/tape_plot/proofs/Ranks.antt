-- Buffers that are put in order one by one, each behind those that come first.
use Rattle.std.proofs.Common.{ap, append_assoc, arith, inl, inr, refl, subst, sym, ◌∙◌}
use Rattle.std.proofs.lemmas.List.Elements.{All-contains, All-head, All-map, All-nil, All-tail, All-take, All-weaker, Contains-append_left, Contains-push, Contains-push_cases}
use Rattle.std.proofs.lemmas.List.{append-nil, get_or-map, length-map, map-append}
use Rattle.std.specs.List.{Contains}
use Rattle.std.specs.Prelude.{All, Bool, List, [], false, if◌then◌else◌, length, map, take, true, ◌++◌, ◌∷◌, ◌≡◌, ◌⊎◌}
use Rattle.tape_plot.proofs.Choosing.{AreFirst, behind_all, first_of, in_head, put_all, put_by, put_has, put_in_order, put_keeps, take_put}
use Rattle.tape_plot.proofs.Heights.{before_flips, earlier_goes, goes_through, later_goes}
use Rattle.tape_plot.specs.Highest.{AreInOrder, ArePicked, goes_before, is_before, is_higher}
use Rattle.tape_plot.specs.Ranking.{kept_of, puts}
use Rattle.tape_plot.specs.declared.highest.Buffer.{Buffer}
use Rattle.tape_plot.specs.declared.height.Height.{Height}
use Rattle.tape_plot.specs.declared.highest.Ranked.{Ranked}

abbrev by_height : Ranked → Ranked → Bool
by_height a b = is_higher a.height b.height

abbrev pub goes : (Buffer → Height) → Ranked → Ranked → Bool
goes height a b = goes_before height a.buffer b.buffer

puts_by : (next : Ranked) (rs : List Ranked) → puts next rs ≡ put_by by_height next rs
puts_by next [] = refl
puts_by next (r ∷ rs) = ap (λ v. if is_higher next.height r.height then next ∷ r ∷ rs else r ∷ v) (puts_by next rs)

-- its height is the buffer's, and it comes before another
abbrev pub IsRight : (Buffer → Height) → Ranked → Type 0
IsRight height r = r.height ≡ height r.buffer

abbrev IsFirst : Buffer → Ranked → Type 0
IsFirst b r = is_before r.buffer b ≡ true

same_puts : (height : Buffer → Height) (next : Ranked) (rs : List Ranked) → IsRight height next → All (IsRight height) rs → All (IsFirst next.buffer) rs → put_by by_height next rs ≡ put_by (goes height) next rs
same_puts height next [] e right first = refl
same_puts height next (r ∷ rs) e right first =
    ap (λ (b : Bool). if b then next ∷ r ∷ rs else r ∷ put_by by_height next rs) test
    ∙ ap (λ v. if goes height next r then next ∷ r ∷ rs else r ∷ v) (same_puts height next rs e (All-tail (IsRight height) r rs right) (All-tail (IsFirst next.buffer) r rs first))
  where
    test : is_higher next.height r.height ≡ goes height next r
    test =
        ap (λ (h : Height). is_higher h r.height) e ∙ ap (λ (h : Height). is_higher (height next.buffer) h) (All-head (IsRight height) r rs right)
        ∙ sym (later_goes height next.buffer r.buffer (before_flips r.buffer next.buffer (All-head (IsFirst next.buffer) r rs first)))

-- these buffers were put, of which the first 40 are kept
pub record ArePut (height : Buffer → Height) (seen : List Buffer) (kept : List Ranked) : Type 0 where
  pub all : List Ranked
  pub is : kept ≡ take 40 all
  pub right : All (IsRight height) all
  pub within : All (λ r. Contains seen r.buffer) all
  pub has : (b : Buffer) → Contains seen b → (r : Ranked) × Contains all r × (r.buffer ≡ b)
  pub order : AreInOrder (goes height) all

pub none_put : (height : Buffer → Height) (kept : List Ranked) → kept ≡ [] → ArePut height [] kept
none_put height kept e = record {
  all = [];
  is = e;
  right = All-nil (IsRight height);
  within = All-nil (λ r. Contains [] r.buffer);
  has = λ b there. absurd (none b there);
  order = tt;
}
  where
    none : (b : Buffer) → Contains [] b → ⊥
    none b there = omega (arith, there.1)

pub put_next : (height : Buffer → Height) (seen : List Buffer) (old new : List Ranked) (next : Ranked) → ArePut height seen old → IsRight height next → All (λ b. is_before b next.buffer ≡ true) seen
    → new ≡ take 40 (puts next old) → ArePut height (seen ++ next.buffer ∷ []) new
put_next height seen old new next s e last is = record {
  all = put_by (goes height) next s.all;
  is = is ∙ ap (λ v. take 40 (puts next v)) s.is ∙ ap (take 40) (puts_by next (take 40 s.all)) ∙ take_put by_height 40 next s.all ∙ ap (take 40) (same_puts height next s.all e s.right first);
  right = put_all (IsRight height) (goes height) next s.all s.right e;
  within = put_all (λ r. Contains (seen ++ next.buffer ∷ []) r.buffer) (goes height) next s.all
      (All-weaker (λ r. Contains seen r.buffer) (λ r. Contains (seen ++ next.buffer ∷ []) r.buffer) (λ r there. Contains-append_left seen (next.buffer ∷ []) r.buffer there) s.all s.within)
      (Contains-push seen next.buffer);
  has = λ b there. found b (Contains-push_cases seen next.buffer b there);
  order = put_in_order (goes height) next s.all (λ a b c. goes_through height a.buffer b.buffer c.buffer) meets s.order;
}
  where
    first : All (IsFirst next.buffer) s.all
    first = All-weaker (λ r. Contains seen r.buffer) (IsFirst next.buffer) (λ r there. All-contains (λ b. is_before b next.buffer ≡ true) seen r.buffer last there) s.all s.within

    meets : All (λ r. goes height next r ≡ false → goes height r next ≡ true) s.all
    meets = All-weaker (IsFirst next.buffer) (λ r. goes height next r ≡ false → goes height r next ≡ true)
        (λ r before none. earlier_goes height next.buffer r.buffer before (sym (later_goes height next.buffer r.buffer (before_flips r.buffer next.buffer before)) ∙ none)) s.all first

    found : (b : Buffer) → Contains seen b ⊎ (next.buffer ≡ b) → (r : Ranked) × Contains (put_by (goes height) next s.all) r × (r.buffer ≡ b)
    found b (inl there) = let f = s.has b there in (f.0, put_keeps (goes height) next s.all f.0 f.1, f.2)
    found b (inr e) = (next, put_has (goes height) next s.all, e)

-- ---- many that are put

-- the one buffer comes before the other
abbrev pub comes_first : Ranked → Ranked → Bool
comes_first a b = is_before a.buffer b.buffer

abbrev pub buffers_in : List Ranked → List Buffer
buffers_in rs = map (λ r. r.buffer) rs

put_each : (height : Buffer → Height) (done rs kept : List Ranked) → ArePut height (buffers_in done) kept → All (IsRight height) rs → AreInOrder comes_first (done ++ rs) → ArePut height (buffers_in (done ++ rs)) (kept_of rs kept)
put_each height done [] kept s right order = subst (λ (v : List Ranked). ArePut height (buffers_in v) kept) (sym (append-nil done)) s
put_each height done (r ∷ rs) kept s right order =
    subst (λ (v : List Ranked). ArePut height (buffers_in v) (kept_of rs next)) (append_assoc done (r ∷ []) rs)
    (put_each height (done ++ r ∷ []) rs next (subst (λ (v : List Buffer). ArePut height v next) (sym (map-append (λ (t : Ranked). t.buffer) done (r ∷ []))) one)
    (All-tail (IsRight height) r rs right) (subst (AreInOrder comes_first) (sym (append_assoc done (r ∷ []) rs)) order))
  where
    next : List Ranked
    next = take 40 (puts r kept)

    last : All (λ b. is_before b r.buffer ≡ true) (buffers_in done)
    last = All-map (λ b. is_before b r.buffer ≡ true) (λ t. t.buffer) done (behind_all comes_first done (r ∷ rs) r order (in_head r rs))

    one : ArePut height (buffers_in done ++ r.buffer ∷ []) next
    one = put_next height (buffers_in done) kept next r s (All-head (IsRight height) r rs right) last refl

pub all_put : (height : Buffer → Height) (rs : List Ranked) → All (IsRight height) rs → AreInOrder comes_first rs → ArePut height (buffers_in rs) (kept_of rs [])
all_put height rs right order = put_each height [] rs [] (none_put height [] refl) right order

-- ---- what is kept of all

contains_map : {X Y : Type 0} (f : X → Y) (xs : List X) (x : X) → Contains xs x → Contains (map f xs) (f x)
contains_map f xs x there = (there.0, omega (arith, there.1, length-map xs f), get_or-map f xs there.0 x (f x) there.1 ∙ ap f there.2)

in_order_of : (height : Buffer → Height) (rs : List Ranked) → AreInOrder (goes height) rs → AreInOrder (goes_before height) (map (λ r. r.buffer) rs)
in_order_of height [] order = tt
in_order_of height (r ∷ rs) order = (All-map (λ b. goes_before height r.buffer b ≡ true) (λ s. s.buffer) rs order.0, in_order_of height rs order.1)

pub picked_of : (height : Buffer → Height) (WasFilled : Buffer → Type 0) (seen : List Buffer) (kept : List Ranked) → ArePut height seen kept → ((b : Buffer) → WasFilled b → Contains seen b) → All WasFilled seen
    → ArePicked height WasFilled (map (λ r. r.buffer) kept)
picked_of height WasFilled seen kept s each filled =
    subst (λ (v : List Ranked). ArePicked height WasFilled (map (λ r. r.buffer) v)) (sym s.is) (record {
      few = omega (arith, length-map front (λ r. r.buffer), f.few);
      enough = enough f.enough;
      filled = All-map WasFilled (λ r. r.buffer) front
          (All-take (λ r. WasFilled r.buffer) 40 s.all (All-weaker (λ r. Contains seen r.buffer) (λ r. WasFilled r.buffer) (λ r there. All-contains WasFilled seen r.buffer filled there) s.all s.within));
      order = in_order_of height front f.order;
      others = λ b was. let r = s.has b (each b was) in other b r.0 r.2 (f.others r.0 r.1);
    })
  where
    front : List Ranked
    front = take 40 s.all

    f : AreFirst (goes height) 40 s.all front
    f = first_of (goes height) 40 s.all s.order

    there : (r : Ranked) (b : Buffer) → r.buffer ≡ b → Contains front r → Contains (map (λ r. r.buffer) front) b
    there r b e in_it = subst (Contains (map (λ r. r.buffer) front)) e (contains_map (λ r. r.buffer) front r in_it)

    enough : (length front ≡ 40) ⊎ ((r : Ranked) → Contains s.all r → Contains front r) → (length (map (λ r. r.buffer) front) ≡ 40) ⊎ ((b : Buffer) → WasFilled b → Contains (map (λ r. r.buffer) front) b)
    enough (inl e) = inl (length-map front (λ r. r.buffer) ∙ e)
    enough (inr all) = inr (λ b was. let r = s.has b (each b was) in there r.0 b r.2 (all r.0 r.1))

    other : (b : Buffer) (r : Ranked) → r.buffer ≡ b → Contains front r ⊎ All (λ y. goes height y r ≡ true) front
        → Contains (map (λ r. r.buffer) front) b ⊎ All (λ a. goes_before height a b ≡ true) (map (λ r. r.buffer) front)
    other b r e (inl in_it) = inl (there r b e in_it)
    other b r e (inr behind) = inr (subst (λ (v : Buffer). All (λ a. goes_before height a v ≡ true) (map (λ r. r.buffer) front)) e (All-map (λ a. goes_before height a r.buffer ≡ true) (λ r. r.buffer) front behind))
