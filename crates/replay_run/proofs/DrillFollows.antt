-- Each event of a drill may follow those before it.
use Rattle.flow_notes.specs.Event.{IsEvent}
use Rattle.flow_notes.specs.Fields.{FitsEvent}
use Rattle.flow_notes.specs.declared.events.Event.{Event}
use Rattle.replay_run.specs.DrillEvents.{amount, draw, drill, ended, fed, fed_in, let_out, opened, stream_at}
use Rattle.replay_run.specs.GoingOn.{MayGoOn}
use Rattle.tape_laws.specs.Following.{begun, cut, finished}
use Rattle.std.proofs.Common.{ap, arith, refl, subst, sym, ◌∙◌}
use Rattle.std.proofs.Math.Nat.{mod-lt}
use Rattle.std.proofs.lemmas.Bool.Decides.{nat_tests}
use Rattle.std.proofs.lemmas.List.{length-replicate}
use Rattle.std.specs.List.{AllByRecursion, list_all, range_with_len}
use Rattle.std.specs.Prelude.{Bool, List, [], false, flat_map, length, map, nat_lt, not, replicate, slice_index, suc, true, zero, ℕ, ◌%◌, ◌&&◌, ◌*◌, ◌++◌, ◌+◌, ◌<◌, ◌==◌, ◌^◌, ◌||◌, ◌∷◌, ◌≡◌, ◌≤◌}
use Rattle.tape_laws.specs.Dispatches.{has}
use Rattle.flow_notes.specs.declared.events.Event.TheVariants as event
use Rattle.flow_notes.specs.declared.events.PlainEvent.TheVariants as plain

-- ---- lists of events

-- these events, the first of them first, after those
abbrev back : List Event → List Event → List Event
back [] es = es
back (x ∷ xs) es = back xs (x ∷ es)

follows_both : (xs ys es : List Event) → MayGoOn es xs → MayGoOn (back xs es) ys → MayGoOn es (xs ++ ys)
follows_both [] ys es p q = q
follows_both (x ∷ xs) ys es p q = (p.0, follows_both xs ys (x ∷ es) p.1 q)

-- ---- the streams of a drill

-- the first i streams, the last of them first
abbrev below : ℕ → List ℕ
below zero = []
below (suc i) = stream_at i ∷ below i

all_less : (i k : ℕ) → i ≤ k → list_all (λ t. nat_lt t (stream_at k)) (below i) ≡ true
all_less zero k le = refl
all_less (suc i) k le = ap (λ v. v && list_all (λ t. nat_lt t (stream_at k)) (below i)) (less i k (omega (arith, le))) ∙ all_less i k (omega (arith, le))
  where
    less : (i k : ℕ) → i < k → nat_lt (2 * i + 1) (2 * k + 1) ≡ true
    less i k lt = grind (arith, nat_tests)

not_below : (i k : ℕ) → i ≤ k → has (below i) (stream_at k) ≡ false
not_below zero k le = refl
not_below (suc i) k le = ap (λ v. v || has (below i) (stream_at k)) (other i k (omega (arith, le))) ∙ not_below i k (omega (arith, le))
  where
    other : (i k : ℕ) → i < k → (2 * i + 1 == 2 * k + 1) ≡ false
    other i k lt = grind (arith, nat_tests)

is_below : (i k : ℕ) → k < i → has (below i) (stream_at k) ≡ true
is_below zero k lt = absurd (omega (arith, lt))
is_below (suc i) k lt = by (stream_at i == stream_at k) refl (λ le. is_below i k le)
  where
    apart : (2 * i + 1 == 2 * k + 1) ≡ false → k < suc i → k < i
    apart e lt = grind (arith, nat_tests)

    by : (b : Bool) → (stream_at i == stream_at k) ≡ b → (k < i → has (below i) (stream_at k) ≡ true) → ((stream_at i == stream_at k) || has (below i) (stream_at k)) ≡ true
    by true e later = ap (λ v. v || has (below i) (stream_at k)) e
    by false e later = ap (λ v. v || has (below i) (stream_at k)) e ∙ later (apart e lt)

in_stream_range : (i : ℕ) → i < 1000 → (1 ≤ stream_at i) × (stream_at i ≤ 2147483647)
in_stream_range i lt = (omega arith, omega (arith, lt))

fits_stream : (i : ℕ) → i < 1000 → stream_at i < 2 ^ 32
fits_stream i lt = omega (arith, lt)

-- what stands of the events so far
record Stands (b f : List ℕ) (es : List Event) : Type 0 where
  pub begun : begun es ≡ b
  pub finished : finished es ≡ f
  pub cut : cut es ≡ []

-- ---- the streams are opened

record Opened (i : ℕ) (xs es : List Event) : Type 0 where
  pub follows : MayGoOn es xs
  pub stands : Stands (below i) [] (back xs es)

opens : (m i : ℕ) (es : List Event) → i + m ≤ 1000 → Stands (below i) [] es → Opened (i + m) (map opened (range_with_len i m)) es
opens zero i es le s = record { follows = tt; stands = (let P : ℕ → Type 0 = λ v. Stands (below v) [] es in subst P (let z : i ≡ i + 0 = omega arith in z) s) }
opens (suc m) i es le s =
    let less : list_all (λ t. nat_lt t (stream_at i)) (begun es) ≡ true = ap (list_all (λ t. nat_lt t (stream_at i))) s.begun ∙ all_less i i (omega arith) in
    let one : i + 1 ≡ suc i = omega arith in
    let S : Stands (below (i + 1)) [] (opened i ∷ es) = record {
      begun = ap (λ (v : List ℕ). stream_at i ∷ v) s.begun ∙ ap below (sym one);
      finished = s.finished;
      cut = s.cut;
    } in
    let later = opens m (i + 1) (opened i ∷ es) (omega (arith, le)) S in
    let P : ℕ → Type 0 = λ v. Stands (below v) [] (back (map opened (range_with_len i (suc m))) es) in
    record {
      follows = ((in_stream_range i (omega (arith, le)), fits_stream i (omega (arith, le)), less), later.follows);
      stands = subst P (let z : i + 1 + m ≡ i + suc m = omega arith in z) later.stands;
    }

-- ---- they are fed

-- what keeps all streams as they are
abbrev IsFeed : List ℕ → Event → Type 0
IsFeed b (event.Plain (plain.Body s o)) = IsEvent [] (event.Plain (plain.Body s o)) × FitsEvent (event.Plain (plain.Body s o)) × (has b s ≡ true)
IsFeed b (event.Plain (plain.Room n)) = IsEvent [] (event.Plain (plain.Room n)) × FitsEvent (event.Plain (plain.Room n))
IsFeed b e = ⊥

flows : (b f c : Bool) → b ≡ true → f ≡ false → c ≡ false → (b && not f && not c) ≡ true
flows b f c p q r = rw (p, q, r) refl

record Fed (b f : List ℕ) (xs es : List Event) : Type 0 where
  pub follows : MayGoOn es xs
  pub stands : Stands b f (back xs es)

feeds : (b : List ℕ) (xs es : List Event) → AllByRecursion (IsFeed b) xs → Stands b [] es → Fed b [] xs es
feeds b [] es a s = record { follows = tt; stands = s }
feeds b (event.Plain (plain.Body x o) ∷ xs) es a s =
    let S : Stands b [] (event.Plain (plain.Body x o) ∷ es) = record { begun = s.begun; finished = s.finished; cut = s.cut } in
    let later = feeds b xs (event.Plain (plain.Body x o) ∷ es) a.1 S in
    record {
      follows = ((a.0.0, a.0.1, flows (has (begun es) x) (has (finished es) x) (has (cut es) x) (ap (λ (v : List ℕ). has v x) s.begun ∙ a.0.2) (ap (λ (v : List ℕ). has v x) s.finished) (ap (λ (v : List ℕ). has v x) s.cut)), later.follows);
      stands = later.stands;
    }
feeds b (event.Plain (plain.Room n) ∷ xs) es a s =
    let S : Stands b [] (event.Plain (plain.Room n) ∷ es) = record { begun = s.begun; finished = s.finished; cut = s.cut } in
    let later = feeds b xs (event.Plain (plain.Room n) ∷ es) a.1 S in
    record { follows = ((a.0.0, a.0.1, refl), later.follows); stands = later.stands }
feeds b (event.Plain (plain.Begin x) ∷ xs) es a s = absurd a.0
feeds b (event.Plain (plain.Pair x y) ∷ xs) es a s = absurd a.0
feeds b (event.Plain (plain.Finish x) ∷ xs) es a s = absurd a.0
feeds b (event.Plain (plain.Cut x) ∷ xs) es a s = absurd a.0
feeds b (event.Accept c ∷ xs) es a s = absurd a.0
feeds b (event.Join c k ∷ xs) es a s = absurd a.0
feeds b (event.Read c o ∷ xs) es a s = absurd a.0
feeds b (event.Gone c ∷ xs) es a s = absurd a.0
feeds b (event.Room c n ∷ xs) es a s = absurd a.0
feeds b (event.Tick t ∷ xs) es a s = absurd a.0
feeds b (event.Post p n j ∷ xs) es a s = absurd a.0
feeds b (event.Obey v p ∷ xs) es a s = absurd a.0

-- an amount is 1 to 1,024
amount_bounds : (d : ℕ) → (1 ≤ amount d) × (amount d ≤ 1024)
amount_bounds d = let m : d % 1024 < 1024 = mod-lt d (let z : 0 < 1024 = omega arith in z) in (omega arith, omega (arith, m))

same_bytes : (n v i : ℕ) → v < 256 → slice_index (replicate n v) i < 256
same_bytes zero v i lt = omega arith
same_bytes (suc n) v zero lt = lt
same_bytes (suc n) v (suc i) lt = same_bytes n v i lt

is_fed : (b : List ℕ) (i d : ℕ) → i < 1000 → has b (stream_at i) ≡ true → IsFeed b (fed i d)
is_fed b i d lt h =
    let a = amount_bounds d in
    let len : length (replicate (amount d) (stream_at i % 256)) ≡ amount d = length-replicate (amount d) (stream_at i % 256) in
    let v : stream_at i % 256 < 256 = mod-lt (stream_at i) (let z : 0 < 256 = omega arith in z) in
    ((in_stream_range i lt, (omega (arith, a.0, len), omega (arith, a.1, len))), (fits_stream i lt, λ j. same_bytes (amount d) (stream_at i % 256) j v), h)

is_let_out : (b : List ℕ) (n : ℕ) → 1 ≤ n → n ≤ 1000000 → IsFeed b (let_out n)
is_let_out b n lo hi = ((lo, omega (arith, hi)), omega (arith, hi))

all_both : (P : Event → Type 0) (xs ys : List Event) → AllByRecursion P xs → AllByRecursion P ys → AllByRecursion P (xs ++ ys)
all_both P [] ys p q = q
all_both P (x ∷ xs) ys p q = (p.0, all_both P xs ys p.1 q)

all_flat : (P : Event → Type 0) (f : ℕ → List Event) (m i n : ℕ) → i + m ≤ n → ((k : ℕ) → k < n → AllByRecursion P (f k)) → AllByRecursion P (flat_map f (range_with_len i m))
all_flat P f zero i n le each = tt
all_flat P f (suc m) i n le each = all_both P (f i) (flat_map f (range_with_len (i + 1) m)) (each i (omega (arith, le))) (all_flat P f m (i + 1) n (omega (arith, le)) each)

rounds_feed : (n : ℕ) → n ≤ 1000 → AllByRecursion (IsFeed (below n)) (flat_map (λ r. flat_map (fed_in n r) (range_with_len 0 n)) (range_with_len 0 32))
rounds_feed n few =
    all_flat (IsFeed (below n)) (λ r. flat_map (fed_in n r) (range_with_len 0 n)) 32 0 32 (omega arith)
    (λ r in_r. all_flat (IsFeed (below n)) (fed_in n r) n 0 n (omega arith) (λ i lt. one r i lt))
  where
    one : (r i : ℕ) → i < n → AllByRecursion (IsFeed (below n)) (fed_in n r i)
    one r i lt =
        let k : ℕ = 2 * (r * n + i) in
        let a = amount_bounds (draw n (k + 1)) in
        (is_fed (below n) i (draw n k) (omega (arith, lt, few)) (is_below n i lt), (is_let_out (below n) (amount (draw n (k + 1))) a.0 (omega (arith, a.1)), tt))

-- ---- they end

ends : (n m i : ℕ) (es : List Event) → i + m ≡ n → n ≤ 1000 → Stands (below n) (below i) es → Fed (below n) (below (i + m)) (map ended (range_with_len i m)) es
ends n zero i es e few s = record { follows = tt; stands = (let P : ℕ → Type 0 = λ v. Stands (below n) (below v) es in subst P (let z : i ≡ i + 0 = omega arith in z) s) }
ends n (suc m) i es e few s =
    let one : i + 1 ≡ suc i = omega arith in
    let S : Stands (below n) (below (i + 1)) (ended i ∷ es) = record {
      begun = s.begun;
      finished = ap (λ (v : List ℕ). stream_at i ∷ v) s.finished ∙ ap below (sym one);
      cut = s.cut;
    } in
    let later = ends n m (i + 1) (ended i ∷ es) (omega (arith, e)) few S in
    let P : ℕ → Type 0 = λ v. Stands (below n) (below v) (back (map ended (range_with_len i (suc m))) es) in
    let x = stream_at i in
    record {
      follows = (
        (
          in_stream_range i (omega (arith, e, few)),
          fits_stream i (omega (arith, e, few)),
          flows (has (begun es) x) (has (finished es) x) (has (cut es) x) (ap (λ (v : List ℕ). has v x) s.begun ∙ is_below n i (omega (arith, e)))
              (ap (λ (v : List ℕ). has v x) s.finished ∙ not_below i i (omega arith)) (ap (λ (v : List ℕ). has v x) s.cut),
        ),
        later.follows,
      );
      stands = subst P (let z : i + 1 + m ≡ i + suc m = omega arith in z) later.stands;
    }

-- ---- and are let out

drains : (m : ℕ) (es : List Event) → MayGoOn es (replicate m (let_out 1000000))
drains zero es = tt
drains (suc m) es = (((omega arith, omega arith), omega arith, refl), drains m (let_out 1000000 ∷ es))

pub drill_follows : (n : ℕ) → n ≤ 1000 → MayGoOn [] (drill n)
drill_follows n few =
    let none : Stands (below 0) [] [] = record { begun = refl; finished = refl; cut = refl } in
    let xs : List Event = map opened (range_with_len 0 n) in
    let ys : List Event = flat_map (λ r. flat_map (fed_in n r) (range_with_len 0 n)) (range_with_len 0 32) in
    let zs : List Event = map ended (range_with_len 0 n) in
    let a = opens n 0 [] (omega (arith, few)) none in
    let S : ℕ → Type 0 = λ v. Stands (below v) [] (back xs []) in
    let b = feeds (below n) ys (back xs []) (rounds_feed n few) (subst S (let z : 0 + n ≡ n = omega arith in z) a.stands) in
    let c = ends n n 0 (back ys (back xs [])) (let z : 0 + n ≡ n = omega arith in z) few b.stands in
    follows_both xs _ [] a.follows (follows_both ys _ (back xs []) b.follows (follows_both zs _ (back ys (back xs [])) c.follows (drains (3 * n) (back zs (back ys (back xs []))))))
