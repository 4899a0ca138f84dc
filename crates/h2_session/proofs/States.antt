-- How the state of a stream moves.
use Rattle.std.proofs.Common.{◌≡◌, ℕ, Bool, true, false, cond, eqb, List, ◌∷◌, length, Option, Some, None, refl, sym, ap, ◌∙◌, arith}
use Rattle.std.specs.Prelude.{count_by, is_some, not, ◌&&◌, ◌||◌}
use Rattle.std.proofs.lemmas.Bool.{eqb-true}
use Rattle.h2_session.specs.Happened.{Happening, Side, was_ended}
use Rattle.h2_session.specs.Streams.{count_of, head_stands, is_among, is_over, open_count, opened, peer_ended, state_of, was_closed}
use Rattle.h2_session.specs.Summary.{AreDifferent}
use Rattle.h2_session.specs.Table.{Puts, after_block, after_data, after_end, after_interim, one_if, stream_at}
use Rattle.h2_session.specs.declared.streams.Stream.{Stream}
use Rattle.h2_session.proofs.Counts.{count_moved}

-- a stream that was opened or not, is closed or not, was ended by the peer and by this side or not, and has a head or not
abbrev pub state_with : Bool → Bool → Bool → Bool → Bool → Option Stream
state_with opened closed peer ended head =
    cond (opened && not (closed || (peer && ended))) (Some (record { peer_ended = peer; ended = ended; head = head })) None

pub some_state : (a c p e h : Bool) → is_some (state_with a c p e h) ≡ a && not (c || (p && e))
some_state false c p e h = refl
some_state true true p e h = refl
some_state true false true true h = refl
some_state true false true false h = refl
some_state true false false e h = refl

pub after_data_is : (last a c p e h : Bool) → after_data last (state_with a c p e h) ≡ state_with a c (last || p) e h
after_data_is last false c p e h = refl
after_data_is last true true p e h = refl
after_data_is true true false true true h = refl
after_data_is true true false true false h = refl
after_data_is true true false false true h = refl
after_data_is true true false false false h = refl
after_data_is false true false true true h = refl
after_data_is false true false true false h = refl
after_data_is false true false false true h = refl
after_data_is false true false false false h = refl

pub after_block_is : (last a c p e h : Bool) → after_block last (state_with a c p e h) ≡ state_with a c (last || p) e true
after_block_is last false c p e h = refl
after_block_is last true true p e h = refl
after_block_is true true false true true h = refl
after_block_is true true false true false h = refl
after_block_is true true false false true h = refl
after_block_is true true false false false h = refl
after_block_is false true false true true h = refl
after_block_is false true false true false h = refl
after_block_is false true false false true h = refl
after_block_is false true false false false h = refl

pub after_end_is : (a c p e h : Bool) → after_end (state_with a c p e h) ≡ state_with a c p true h
after_end_is false c p e h = refl
after_end_is true true p e h = refl
after_end_is true false true true h = refl
after_end_is true false true false h = refl
after_end_is true false false true h = refl
after_end_is true false false false h = refl

pub after_interim_is : (a c p e h : Bool) → after_interim (state_with a c p e h) ≡ state_with a c p e false
after_interim_is false c p e h = refl
after_interim_is true true p e h = refl
after_interim_is true false true true h = refl
after_interim_is true false true false h = refl
after_interim_is true false false true h = refl
after_interim_is true false false false h = refl

pub closed_is : (a p e h : Bool) → None ≡ state_with a true p e h
closed_is true p e h = refl
closed_is false p e h = refl

-- a happening says nothing of the other streams
pub record IsOf (s : ℕ) (x : Happening) (past : List Happening) : Type 0 where
  pub closed : (q : ℕ) → eqb q s ≡ false → was_closed q (x ∷ past) ≡ was_closed q past
  pub peer : (q : ℕ) → eqb q s ≡ false → peer_ended q (x ∷ past) ≡ peer_ended q past
  pub ended : (q : ℕ) → eqb q s ≡ false → was_ended q (x ∷ past) ≡ was_ended q past
  pub head : (q : ℕ) → eqb q s ≡ false → head_stands q (x ∷ past) ≡ head_stands q past

-- and opens none
pub record MovesOne (side : Side) (s : ℕ) (x : Happening) (past : List Happening) : Type 0 where
  pub opened_as : opened side (x ∷ past) ≡ opened side past
  pub of : IsOf s x past

same_state : (side : Side) (s : ℕ) (x : Happening) (past : List Happening) → MovesOne side s x past → (q : ℕ) → eqb q s ≡ false → state_of side q (x ∷ past) ≡ state_of side q past
same_state side s x past m q e =
    ap (λ (l : List ℕ). state_with (is_among q l) (was_closed q (x ∷ past)) (peer_ended q (x ∷ past)) (was_ended q (x ∷ past)) (head_stands q (x ∷ past))) m.opened_as
    ∙ same (is_among q (opened side past)) (m.of.closed q e) (m.of.peer q e) (m.of.ended q e) (m.of.head q e)
  where
    same : (a : Bool) {c d p r f g h k : Bool} → c ≡ d → p ≡ r → f ≡ g → h ≡ k → state_with a c p f h ≡ state_with a d r g k
    same a i j k l = cc

-- what a table has after one stream moved
pub table_moves : (side : Side) (s : ℕ) (x : Happening) (past : List Happening) (target : Option Stream) (old new : List (ℕ × Stream))
    → ((q : ℕ) → stream_at q old ≡ state_of side q past) → MovesOne side s x past → Puts s target old new → target ≡ state_of side s (x ∷ past)
    → (q : ℕ) → stream_at q new ≡ state_of side q (x ∷ past)
table_moves side s x past target old new was m put is q = cases (eqb q s) refl
  where
    cases : (b : Bool) → eqb q s ≡ b → stream_at q new ≡ state_of side q (x ∷ past)
    cases true e = put.at q ∙ rw e (is ∙ ap (λ (n : ℕ). state_of side n (x ∷ past)) (sym (eqb-true q s e)))
    cases false e = put.at q ∙ rw e (was q ∙ sym (same_state side s x past m q e))

-- and how many streams it has
pub count_moves : (side : Side) (s : ℕ) (x : Happening) (past : List Happening) (target : Option Stream) (old new : List (ℕ × Stream))
    → ((q : ℕ) → stream_at q old ≡ state_of side q past) → AreDifferent (opened side past) → length old ≡ open_count side past
    → MovesOne side s x past → Puts s target old new → target ≡ state_of side s (x ∷ past)
    → length new ≡ open_count side (x ∷ past)
count_moves side s x past target old new was different count m put is =
    let streams = opened side past in
    let live : ℕ → Bool = λ t. not (is_over t past) in
    let lives : ℕ → Bool = λ t. not (is_over t (x ∷ past)) in
    let moved = count_moved live lives s streams different (λ t e. over (m.of.closed t e) (m.of.peer t e) (m.of.ended t e)) in
    let here : is_some (stream_at s old) ≡ is_among s streams && live s = ap is_some (was s) ∙ some_state (is_among s streams) (was_closed s past) (peer_ended s past) (was_ended s past) (head_stands s past) in
    let there : is_some target ≡ is_among s streams && lives s =
    ap is_some is ∙ some_state (is_among s (opened side (x ∷ past))) (was_closed s (x ∷ past)) (peer_ended s (x ∷ past)) (was_ended s (x ∷ past)) (head_stands s (x ∷ past)) ∙ ap (λ (l : List ℕ). is_among s l && lives s) m.opened_as in
    let all : open_count side (x ∷ past) ≡ count_by lives streams = ap (count_of (x ∷ past)) m.opened_as in
    omega (arith, moved, put.len, ap one_if here, ap one_if there, all, count)
  where
    over : {c d p r f g : Bool} → c ≡ d → p ≡ r → f ≡ g → not (c || (p && f)) ≡ not (d || (r && g))
    over i j k = cc
