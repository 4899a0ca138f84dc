-- The places of flows and buffers, and what is kept of each.
use Rattle.tape_summary.proofs.Spots.{eq_spots, number_is, same_spot, spot_is, spot_itself, spots_equal}
use Rattle.tape_summary.specs.Placing.{Adds, ArePlaced, ChangedAt, Changes, PlacedAt, Places, kept_of, spot_cmp, track_at}
use Rattle.tape_summary.specs.Tracking.{Lone, nothing, track_of}
use Rattle.tape_summary.specs.declared.pauses.Spot.{Spot}
use Rattle.tape_summary.specs.declared.track.Track.{Track}
use Rattle.tape_summary.specs.declared.tracks.Tracks.{Tracks}
use Rattle.std.proofs.Common.{ap, arith, inl, inr, refl, subst, sym, ◌∙◌}
use Rattle.std.proofs.lemmas.Bool.Decides.{nat_tests}
use Rattle.std.proofs.lemmas.List.{length-append, length-set}
use Rattle.std.proofs.lemmas.Option.{slice_get_within}
use Rattle.std.specs.BTreeMap.{Updates, get}
use Rattle.std.specs.Ordering.{is_eq}
use Rattle.std.specs.Prelude.{Bool, List, None, Option, Some, [], false, length, slice_get, slice_set, suc, true, zero, ℕ, ◌++◌, ◌+◌, ◌<◌, ◌==◌, ◌∷◌, ◌≡◌, ◌≤◌, ◌⊎◌}
use Rattle.tape_summary.specs.contracts.pauses.SpotPartialEq.TheImpl as spot_eq

-- ---- lists

end_at : {A : Type 0} (xs : List A) (x : A) → slice_get (xs ++ x ∷ []) (length xs) ≡ Some x
end_at [] x = refl
end_at (y ∷ ys) x = end_at ys x

front_at : {A : Type 0} (xs : List A) (x : A) (i : ℕ) → i < length xs → slice_get (xs ++ x ∷ []) i ≡ slice_get xs i
front_at [] x i e = absurd (omega (arith, e))
front_at (y ∷ ys) x zero e = refl
front_at (y ∷ ys) x (suc i) e = front_at ys x i (omega (arith, e))

-- what stands there stood there before, or is the new one
either_at : {A : Type 0} (xs : List A) (x : A) (i : ℕ) (y : A) → slice_get (xs ++ x ∷ []) i ≡ Some y → (slice_get xs i ≡ Some y) ⊎ ((i ≡ length xs) × (x ≡ y))
either_at [] x zero y e = inr (refl, cc)
either_at [] x (suc zero) y e = cc
either_at [] x (suc (suc i)) y e = cc
either_at (z ∷ zs) x zero y e = inl e
either_at (z ∷ zs) x (suc i) y e = next (either_at zs x i y e)
  where
    next : (slice_get zs i ≡ Some y) ⊎ ((i ≡ length zs) × (x ≡ y)) → (slice_get zs i ≡ Some y) ⊎ ((suc i ≡ suc (length zs)) × (x ≡ y))
    next (inl p) = inl p
    next (inr p) = inr (ap suc p.0, p.1)

set_here : {A : Type 0} (xs : List A) (i : ℕ) (x y : A) → slice_get xs i ≡ Some x → slice_get (slice_set xs i y) i ≡ Some y
set_here [] zero x y e = cc
set_here [] (suc i) x y e = cc
set_here (z ∷ zs) zero x y e = refl
set_here (z ∷ zs) (suc i) x y e = set_here zs i x y e

true_is : true ≡ false → ⊥
true_is e = cc

set_there : {A : Type 0} (xs : List A) (i j : ℕ) (y : A) → (i == j) ≡ false → slice_get (slice_set xs i y) j ≡ slice_get xs j
set_there [] i j y e = refl
set_there (z ∷ zs) zero zero y e = absurd (true_is e)
set_there (z ∷ zs) zero (suc j) y e = refl
set_there (z ∷ zs) (suc i) zero y e = refl
set_there (z ∷ zs) (suc i) (suc j) y e = set_there zs i j y (next_equal i j ∙ e)
  where
    next_equal : (m n : ℕ) → (m == n) ≡ (suc m == suc n)
    next_equal m n = grind (arith, nat_tests)

some_is : (m n : ℕ) → Some m ≡ Some n → m ≡ n
some_is m n e = cc

none_is : (m : ℕ) → None ≡ Some m → ⊥
none_is m e = cc

-- ---- a place is found

-- the place that is tried first
pub tried : (t : Tracks) (k s : Spot) (n : ℕ) → slice_get t.spots.items n ≡ Some s → (spot_eq.ghosts).eq s k ≡ true → ArePlaced t → Some n ≡ get spot_cmp t.places k
tried t k s n e is a = sym (a.placed n k (e ∙ ap Some (spot_is s k (sym (eq_spots s k) ∙ is))))

-- the next place to be tried is no matter of the places
pub next_set : (old t : Tracks) (k : Spot) (i n : ℕ) → PlacedAt old k i t → PlacedAt old k i (record t { next = n })
next_set old t k i n p = record {
  placed = record { long = p.placed.long; placed = p.placed.placed; found = p.placed.found };
  here = p.here;
  kept = p.kept;
}

pub place_known : (old m : Tracks) (k : Spot) (o : Option ℕ) (i at n : ℕ) → (ArePlaced old → o ≡ get spot_cmp old.places k) → o ≡ Some i → m ≡ old → at ≡ i → Places old k at (record m { next = n })
place_known old m k o i at n known is em ei =
    let P : Tracks → Type 0 = λ v. Places old k at (record v { next = n }) in
    let Q : ℕ → Type 0 = λ v. Places old k v (record old { next = n }) in
    subst P (sym em) (subst Q (sym ei) (record { goes = λ a. next_set old old k i n (record { placed = a; here = sym (known a) ∙ is; kept = λ s. refl }) }))

pub place_added : (old t m : Tracks) (k : Spot) (o : Option ℕ) (i at n : ℕ) → (ArePlaced old → o ≡ get spot_cmp old.places k) → o ≡ None → Adds old k i t → m ≡ t → at ≡ i → Places old k at (record m { next = n })
place_added old t m k o i at n known none adds em ei =
    let P : Tracks → Type 0 = λ v. Places old k at (record v { next = n }) in
    let Q : ℕ → Type 0 = λ v. Places old k v (record t { next = n }) in
    subst P (sym em) (subst Q (sym ei) (record { goes = λ a. next_set old t k i n (adds.goes a (sym (known a) ∙ none)) }))

-- ---- a place is added

pub added : (old new : Tracks) (k : Spot) (t : Track) (n : ℕ) → n ≡ length old.spots.items → new.spots.items ≡ old.spots.items ++ k ∷ [] → new.tracks.items ≡ old.tracks.items ++ t ∷ []
    → t.waiting.items ≡ [] → t.early.items ≡ [] → Updates spot_cmp old.places new.places k (Some n) → Adds old k n new
added old new k t n en es et ew ee u = record { goes = goes }
  where
    goes : ArePlaced old → get spot_cmp old.places k ≡ None → PlacedAt old k n new
    goes a none = record {
      placed = record {
        long =
            ap length et ∙ length-append old.tracks.items (t ∷ []) ∙ ap (λ m. m + 1) a.long ∙ sym (length-append old.spots.items (k ∷ [])) ∙ ap length (sym es);
        placed = λ i s e. placed i s (either_at old.spots.items k i s (ap (λ (v : List Spot). slice_get v i) (sym es) ∙ e));
        found = λ s i e. found s i (same_spot k s) refl e;
      };
      here = u.1;
      kept = λ s. kept s (same_spot k s) refl;
    }
      where
        other : (s : Spot) → same_spot k s ≡ false → get spot_cmp new.places s ≡ get spot_cmp old.places s
        other s c = u.2 s (spots_equal k s ∙ c)

        at_spot : (s : Spot) → same_spot k s ≡ true → get spot_cmp old.places s ≡ None
        at_spot s c = ap (get spot_cmp old.places) (sym (spot_is k s c)) ∙ none

        before : (i : ℕ) (s : Spot) (c : Bool) → same_spot k s ≡ c → get spot_cmp old.places s ≡ Some i → get spot_cmp new.places s ≡ Some i
        before i s true c e = absurd (none_is i (sym (at_spot s c) ∙ e))
        before i s false c e = other s c ∙ e

        placed : (i : ℕ) (s : Spot) → (slice_get old.spots.items i ≡ Some s) ⊎ ((i ≡ length old.spots.items) × (k ≡ s)) → get spot_cmp new.places s ≡ Some i
        placed i s (inl p) = before i s (same_spot k s) refl (a.placed i s p)
        placed i s (inr p) = ap (get spot_cmp new.places) (sym p.1) ∙ u.1 ∙ ap Some (en ∙ sym p.0)

        found : (s : Spot) (i : ℕ) (c : Bool) → same_spot k s ≡ c → get spot_cmp new.places s ≡ Some i → slice_get new.spots.items i ≡ Some s
        found s i true c e =
            let is : n ≡ i = some_is n i (sym u.1 ∙ ap (get spot_cmp new.places) (spot_is k s c) ∙ e) in
            ap (λ (v : List Spot). slice_get v i) es ∙ ap (slice_get (old.spots.items ++ k ∷ [])) (sym is ∙ en) ∙ end_at old.spots.items k ∙ ap Some (spot_is k s c)
        found s i false c e =
            let was = a.found s i (sym (other s c) ∙ e) in
            ap (λ (v : List Spot). slice_get v i) es ∙ front_at old.spots.items k i (slice_get_within old.spots.items i s was) ∙ was

        -- what stood before stands
        stays : (s : Spot) (o : Option ℕ) → get spot_cmp old.places s ≡ o → track_of (track_at new.tracks.items o) ≡ track_of (track_at old.tracks.items o)
        stays s None e = refl
        stays s (Some i) e =
            let within = slice_get_within old.spots.items i s (a.found s i e) in
            let long = a.long in
            ap track_of (ap (λ (v : List Track). slice_get v i) et ∙ front_at old.tracks.items t i (omega (arith, within, long)))

        kept : (s : Spot) (c : Bool) → same_spot k s ≡ c → kept_of new s ≡ kept_of old s
        kept s true c =
            ap (λ (o : Option ℕ). track_of (track_at new.tracks.items o)) (ap (get spot_cmp new.places) (sym (spot_is k s c)) ∙ u.1 ∙ ap Some (en ∙ sym a.long))
            ∙ ap track_of (ap (λ (v : List Track). slice_get v (length old.tracks.items)) et ∙ end_at old.tracks.items t)
            ∙ fresh
            ∙ sym (ap (λ (o : Option ℕ). track_of (track_at old.tracks.items o)) (at_spot s c))
          where
            fresh : track_of (Some t) ≡ nothing
            fresh = ap (λ (v : List ℕ). let l : Lone = record { waiting = v; early = t.early.items } in l) ew ∙ ap (λ (v : List ℕ). let l : Lone = record { waiting = []; early = v } in l) ee
        kept s false c =
            ap (λ (o : Option ℕ). track_of (track_at new.tracks.items o)) (other s c) ∙ stays s (get spot_cmp old.places s) refl

-- ---- what is kept of one flow and buffer changes

pub changed : (old mid new : Tracks) (k : Spot) (i : ℕ) (t u : Track) (C : Lone → Lone → Type 0) → Places old k i mid → slice_get mid.tracks.items i ≡ Some t
    → new.tracks.items ≡ slice_set mid.tracks.items i u → new.spots ≡ mid.spots → new.places ≡ mid.places → C (track_of (Some t)) (track_of (Some u)) → Changes old k C new
changed old mid new k i t u C pl at et es ep c = record { goes = goes }
  where
    goes : ArePlaced old → ChangedAt old k C new
    goes a = record {
      placed = record {
        long = ap length et ∙ length-set mid.tracks.items i u ∙ p.placed.long ∙ ap (λ v. length v.items) (sym es);
        placed = λ j s e. ap (λ m. get spot_cmp m s) ep ∙ p.placed.placed j s (ap (λ v. slice_get v.items j) (sym es) ∙ e);
        found = λ s j e. ap (λ v. slice_get v.items j) es ∙ p.placed.found s j (ap (λ m. get spot_cmp m s) (sym ep) ∙ e);
      };
      here =
          let P : Lone → Type 0 = λ v. C v (kept_of new k) in
          let Q : Lone → Type 0 = λ v. C (track_of (Some t)) v in
          subst P (was ∙ p.kept k) (subst Q is c);
      others = λ s e. ap (λ m. track_of (track_at new.tracks.items (get spot_cmp m s))) ep ∙ stays s e (get spot_cmp mid.places s) refl ∙ p.kept s;
    }
      where
        p : PlacedAt old k i mid
        p = pl.goes a

        was : track_of (Some t) ≡ kept_of mid k
        was = sym (ap (λ (o : Option ℕ). track_of (track_at mid.tracks.items o)) p.here ∙ ap track_of at)

        is : track_of (Some u) ≡ kept_of new k
        is = sym (ap (λ m. track_of (track_at new.tracks.items (get spot_cmp m k))) ep ∙ ap (λ (o : Option ℕ). track_of (track_at new.tracks.items o)) p.here
            ∙ ap track_of (ap (λ (v : List Track). slice_get v i) et ∙ set_here mid.tracks.items i t u at))

        stays : (s : Spot) → is_eq (spot_cmp k s) ≡ false → (o : Option ℕ) → get spot_cmp mid.places s ≡ o → track_of (track_at new.tracks.items o) ≡ track_of (track_at mid.tracks.items o)
        stays s e None is = refl
        stays s e (Some j) is = by (i == j) refl
          where
            by : (d : Bool) → (i == j) ≡ d → track_of (slice_get new.tracks.items j) ≡ track_of (slice_get mid.tracks.items j)
            by false d = ap track_of (ap (λ (v : List Track). slice_get v j) et ∙ set_there mid.tracks.items i j u d)
            by true d =
                let same : Some k ≡ Some s = sym (p.placed.found k i p.here) ∙ ap (slice_get mid.spots.items) (number_is i j d) ∙ p.placed.found s j is in
                let eq : k ≡ s = cc in
                absurd (true_is (sym (spots_equal k k ∙ spot_itself k) ∙ ap (λ v. is_eq (spot_cmp k v)) eq ∙ e))

-- a place that was found is never past the end
pub never : (old mid new : Tracks) (k : Spot) (i : ℕ) (C : Lone → Lone → Type 0) → Places old k i mid → length mid.tracks.items ≤ i → Changes old k C new
never old mid new k i C pl past = record { goes = λ a. absurd (beyond (pl.goes a)) }
  where
    beyond : PlacedAt old k i mid → ⊥
    beyond p = let within = slice_get_within mid.spots.items i k (p.placed.found k i p.here) in let long = p.placed.long in omega (arith, within, long, past)
