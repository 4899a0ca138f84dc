-- What a live flow received is what it sent, then what lies in its places.
use Rattle.flow_rules.specs.declared.ids.FlowId.{FlowId}
use Rattle.flow_laws.proofs.Lists.{by_case, flow_same, number_is, same_number}
use Rattle.flow_laws.specs.Octets.{lying}
use Rattle.std.proofs.Common.{ap, append_assoc, arith, refl, sym, ◌∙◌}
use Rattle.std.proofs.lemmas.Bool.Decides.{nat_tests}
use Rattle.std.proofs.lemmas.List.{append-nil, take-append-drop}
use Rattle.std.specs.Prelude.{Bool, List, [], drop, false, if◌then◌else◌, suc, take, true, zero, ℕ, ◌&&◌, ◌++◌, ◌+◌, ◌<◌, ◌==◌, ◌∷◌, ◌≡◌}
use Rattle.tape_laws.specs.Flows.{same_flow}
use Rattle.tape_laws.specs.History.{History, Noted, Step}
use Rattle.tape_laws.specs.Setup.{Setup}
use Rattle.tape_laws.specs.World.{last_place, place}
use Rattle.flow_notes.specs.declared.notes.Note.TheVariants as note

module _ {Mark : Type 0} (setup : Setup Mark) (f : FlowId) where
  -- where no place changes, what lies there stays
  pub same_lying : (step : Step Mark) (h : History Mark) → ((p : ℕ) → place setup f p (step ∷ h) ≡ place setup f p h) → (p : ℕ) → lying setup f p (step ∷ h) ≡ lying setup f p h
  same_lying step h e zero = e 0
  same_lying step h e (suc p) = ap (λ xs. xs ++ lying setup f p (step ∷ h)) (e (suc p)) ∙ ap (λ xs. place setup f (suc p) h ++ xs) (same_lying step h e p)

  pub none_lying : (h : History Mark) → ((p : ℕ) → place setup f p h ≡ []) → (p : ℕ) → lying setup f p h ≡ []
  none_lying h e zero = e 0
  none_lying h e (suc p) = ap (λ xs. xs ++ lying setup f p h) (e (suc p)) ∙ none_lying h e p

  -- ---- octets that arrive come behind all others
  module _ (octets : List ℕ) (h : History Mark) where
    abbrev arrival : Step Mark
    arrival = Noted (note.Arrive f octets)

    pub arrived_lying : (p : ℕ) → lying setup f p (arrival ∷ h) ≡ lying setup f p h ++ octets
    arrived_lying zero = rw (flow_same f) refl
    arrived_lying (suc p) =
        ap (λ xs. xs ++ lying setup f p (arrival ∷ h)) (later (same_flow f f) (suc p == 0) (not_first p)) ∙ ap (λ xs. place setup f (suc p) h ++ xs) (arrived_lying p)
        ∙ sym (append_assoc (place setup f (suc p) h) (lying setup f p h) octets)
      where
        not_first : (p : ℕ) → (suc p == 0) ≡ false
        not_first p = grind (arith, nat_tests)

        later : (a b : Bool) → b ≡ false → place setup f (suc p) h ++ (if a && b then octets else []) ≡ place setup f (suc p) h
        later a true e = cc
        later true false e = append-nil (place setup f (suc p) h)
        later false false e = append-nil (place setup f (suc p) h)

  -- ---- a move takes octets one place on
  module _ (q n : ℕ) (h : History Mark) where
    abbrev move : Step Mark
    move = Noted (note.Move f q n)

    moved_place : (p : ℕ) → place setup f p (move ∷ h)
        ≡ (if p == q then drop n (place setup f p h) else (if p == q + 1 then place setup f p h ++ take n (place setup f q h) else place setup f p h))
    moved_place p = rw (flow_same f) refl

    differs : (a b : ℕ) → a < b → (a == b) ≡ false
    differs a b lt = grind (arith, nat_tests)

    exceeds : (a b : ℕ) → b < a → (a == b) ≡ false
    exceeds a b lt = grind (arith, nat_tests)

    same_if : (p : ℕ) → (p == q) ≡ false → (p == q + 1) ≡ false → place setup f p (move ∷ h) ≡ place setup f p h
    same_if p a b = moved_place p ∙ picks (p == q) (p == q + 1) a b
      where
        picks : (a b : Bool) → a ≡ false → b ≡ false
            → (if a then drop n (place setup f p h) else (if b then place setup f p h ++ take n (place setup f q h) else place setup f p h)) ≡ place setup f p h
        picks true b e i = cc
        picks false true e i = cc
        picks false false e i = refl

    left_behind : place setup f q (move ∷ h) ≡ drop n (place setup f q h)
    left_behind = moved_place q ∙ picks (q == q) (same_number q)
      where
        picks : (a : Bool) → a ≡ true → (if a then drop n (place setup f q h) else (if q == q + 1 then place setup f q h ++ take n (place setup f q h) else place setup f q h)) ≡ drop n (place setup f q h)
        picks true e = refl
        picks false e = cc

    came_to : place setup f (suc q) (move ∷ h) ≡ place setup f (suc q) h ++ take n (place setup f q h)
    came_to = moved_place (suc q) ∙ picks (suc q == q) (suc q == q + 1) (exceeds (suc q) q (next q)) (is_next q)
      where
        next : (q : ℕ) → q < suc q
        next q = omega arith

        is_next : (q : ℕ) → (suc q == q + 1) ≡ true
        is_next q = grind (arith, nat_tests)

        picks : (a b : Bool) → a ≡ false → b ≡ true
            → (if a then drop n (place setup f (suc q) h) else (if b then place setup f (suc q) h ++ take n (place setup f q h) else place setup f (suc q) h))
            ≡ place setup f (suc q) h ++ take n (place setup f q h)
        picks true b e i = cc
        picks false true e i = refl
        picks false false e i = cc

    -- below the place nothing changes
    below : (p : ℕ) → p < q → lying setup f p (move ∷ h) ≡ lying setup f p h
    below zero lt = same_if 0 (differs 0 q lt) (differs 0 (q + 1) (further 0 q lt))
      where
        further : (p q : ℕ) → p < q → p < q + 1
        further p q lt = omega (arith, lt)
    below (suc p) lt =
        ap (λ xs. xs ++ lying setup f p (move ∷ h)) (same_if (suc p) (differs (suc p) q lt) (differs (suc p) (q + 1) (further (suc p) q lt)))
        ∙ ap (λ xs. place setup f (suc p) h ++ xs) (below p (less p q lt))
      where
        further : (p q : ℕ) → p < q → p < q + 1
        further p q lt = omega (arith, lt)

        less : (p q : ℕ) → suc p < q → p < q
        less p q lt = omega (arith, lt)

    -- what it holds then, behind what was taken, is what it held
    at_place : (p : ℕ) → p ≡ q → take n (place setup f q h) ++ lying setup f p (move ∷ h) ≡ lying setup f p h
    at_place zero e =
        ap (λ v. take n (place setup f v h) ++ place setup f 0 (move ∷ h)) (sym e)
        ∙ (ap (λ xs. take n (place setup f 0 h) ++ xs) (here 0 e) ∙ take-append-drop n (place setup f 0 h))
      where
        here : (p : ℕ) → p ≡ q → place setup f p (move ∷ h) ≡ drop n (place setup f p h)
        here p e = ap (λ v. place setup f v (move ∷ h)) e ∙ (left_behind ∙ ap (λ v. drop n (place setup f v h)) (sym e))
    at_place (suc p) e =
        ap (λ v. take n (place setup f v h) ++ (place setup f (suc p) (move ∷ h) ++ lying setup f p (move ∷ h))) (sym e)
        ∙ (ap (λ xs. take n (place setup f (suc p) h) ++ (xs ++ lying setup f p (move ∷ h))) (here (suc p) e)
        ∙ (ap (λ xs. take n (place setup f (suc p) h) ++ (drop n (place setup f (suc p) h) ++ xs)) (below p (less p q e))
        ∙ (sym (append_assoc (take n (place setup f (suc p) h)) (drop n (place setup f (suc p) h)) (lying setup f p h))
        ∙ ap (λ xs. xs ++ lying setup f p h) (take-append-drop n (place setup f (suc p) h)))))
      where
        here : (p : ℕ) → p ≡ q → place setup f p (move ∷ h) ≡ drop n (place setup f p h)
        here p e = ap (λ v. place setup f v (move ∷ h)) e ∙ (left_behind ∙ ap (λ v. drop n (place setup f v h)) (sym e))

        less : (p q : ℕ) → suc p ≡ q → p < q
        less p q e = omega (arith, e)

    -- from the next place on nothing is lost
    pub moved_lying : (p : ℕ) → q < p → lying setup f p (move ∷ h) ≡ lying setup f p h
    moved_lying zero lt = absurd (omega (arith, lt))
    moved_lying (suc p) lt = by_case (p == q) (λ t. next (number_is p q t)) (λ d. beyond (later p q lt d) (moved_lying p (later p q lt d)))
      where
        later : (p q : ℕ) → q < suc p → (p == q) ≡ false → q < p
        later p q lt d = grind (arith, nat_tests)

        next : p ≡ q → lying setup f (suc p) (move ∷ h) ≡ lying setup f (suc p) h
        next e =
            ap (λ xs. xs ++ lying setup f p (move ∷ h)) (ap (λ v. place setup f (suc v) (move ∷ h)) e ∙ (came_to ∙ ap (λ v. place setup f (suc v) h ++ take n (place setup f q h)) (sym e)))
            ∙ (append_assoc (place setup f (suc p) h) (take n (place setup f q h)) (lying setup f p (move ∷ h))
            ∙ ap (λ xs. place setup f (suc p) h ++ xs) (at_place p e))

        beyond : q < p → lying setup f p (move ∷ h) ≡ lying setup f p h → lying setup f (suc p) (move ∷ h) ≡ lying setup f (suc p) h
        beyond lt i =
            ap (λ xs. xs ++ lying setup f p (move ∷ h)) (same_if (suc p) (exceeds (suc p) q (up p q lt)) (exceeds (suc p) (q + 1) (over p q lt)))
            ∙ ap (λ xs. place setup f (suc p) h ++ xs) i
          where
            up : (p q : ℕ) → q < p → q < suc p
            up p q lt = omega (arith, lt)

            over : (p q : ℕ) → q < p → q + 1 < suc p
            over p q lt = omega (arith, lt)

  -- ---- a frame takes the first octets of the last place
  module _ (c n : ℕ) (last : Bool) (h : History Mark) where
    abbrev frame : Step Mark
    frame = Noted (note.Frame c f n last)

    framed_below : (p : ℕ) → p < last_place setup f h → lying setup f p (frame ∷ h) ≡ lying setup f p h
    framed_below zero lt = kept 0 lt
      where
        kept : (p : ℕ) → p < last_place setup f h → place setup f p (frame ∷ h) ≡ place setup f p h
        kept p lt = none (same_flow f f) (p == last_place setup f h) (other p (last_place setup f h) lt)
          where
            other : (p l : ℕ) → p < l → (p == l) ≡ false
            other p l lt = grind (arith, nat_tests)

            none : (a b : Bool) → b ≡ false → drop (if a && b then n else 0) (place setup f p h) ≡ place setup f p h
            none a true e = cc
            none true false e = refl
            none false false e = refl
    framed_below (suc p) lt =
        ap (λ xs. xs ++ lying setup f p (frame ∷ h)) (kept (suc p) lt) ∙ ap (λ xs. place setup f (suc p) h ++ xs) (framed_below p (less p _ lt))
      where
        less : (p q : ℕ) → suc p < q → p < q
        less p q lt = omega (arith, lt)

        kept : (p : ℕ) → p < last_place setup f h → place setup f p (frame ∷ h) ≡ place setup f p h
        kept p lt = none (same_flow f f) (p == last_place setup f h) (other p (last_place setup f h) lt)
          where
            other : (p l : ℕ) → p < l → (p == l) ≡ false
            other p l lt = grind (arith, nat_tests)

            none : (a b : Bool) → b ≡ false → drop (if a && b then n else 0) (place setup f p h) ≡ place setup f p h
            none a true e = cc
            none true false e = refl
            none false false e = refl

    pub framed_lying : (k : ℕ) → suc k ≡ last_place setup f h → take n (place setup f (last_place setup f h) h) ++ lying setup f (suc k) (frame ∷ h) ≡ lying setup f (suc k) h
    framed_lying k e =
        ap (λ v. take n (place setup f v h) ++ (place setup f (suc k) (frame ∷ h) ++ lying setup f k (frame ∷ h))) (sym e)
        ∙ (ap (λ xs. take n (place setup f (suc k) h) ++ (xs ++ lying setup f k (frame ∷ h))) here
        ∙ (ap (λ xs. take n (place setup f (suc k) h) ++ (drop n (place setup f (suc k) h) ++ xs)) (framed_below k (less k _ e))
        ∙ (sym (append_assoc (take n (place setup f (suc k) h)) (drop n (place setup f (suc k) h)) (lying setup f k h))
        ∙ ap (λ xs. xs ++ lying setup f k h) (take-append-drop n (place setup f (suc k) h)))))
      where
        less : (p q : ℕ) → suc p ≡ q → p < q
        less p q e = omega (arith, e)

        is_last : (p l : ℕ) → p ≡ l → (p == l) ≡ true
        is_last p l e = grind (arith, nat_tests)

        here : place setup f (suc k) (frame ∷ h) ≡ drop n (place setup f (suc k) h)
        here = all (same_flow f f) (suc k == last_place setup f h) (flow_same f) (is_last (suc k) (last_place setup f h) e)
          where
            all : (a b : Bool) → a ≡ true → b ≡ true → drop (if a && b then n else 0) (place setup f (suc k) h) ≡ drop n (place setup f (suc k) h)
            all true true a b = refl
            all true false a b = cc
            all false b a i = cc
