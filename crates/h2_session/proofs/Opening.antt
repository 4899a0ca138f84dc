-- What a session stands for after a happening that opens a stream.
use Rattle.std.proofs.Common.{◌≡◌, ℕ, ◌+◌, Bool, true, false, eqb, List, ◌∷◌, length, Some, None, refl, sym, ap, subst, ◌∙◌, arith}
use Rattle.std.specs.Prelude.{IfSome, count_by, is_some, not, ◌&&◌, ◌||◌}
use Rattle.std.proofs.lemmas.Bool.{eqb-true}
use Rattle.h2_session.specs.Blocks.{open_block}
use Rattle.h2_session.specs.Happened.{Happening, Side, was_ended, was_opened}
use Rattle.h2_session.specs.Streams.{count_of, head_stands, is_among, is_new, is_over, open_count, opened, peer_ended, state_of, was_closed}
use Rattle.h2_session.specs.Summary.{AreDifferent, IsUntouched, StandsFor, Summary}
use Rattle.h2_session.specs.Table.{Puts, one_if, stream_at}
use Rattle.h2_session.specs.declared.streams.Stream.{Stream}
use Rattle.h2_session.proofs.Counts.{count_cons, count_moved}
use Rattle.h2_session.proofs.Standing.{Keeps, still}
use Rattle.h2_session.proofs.States.{IsOf, some_state, state_with}

-- the other way round
pub apart_too : (a b : ℕ) → eqb a b ≡ false → eqb b a ≡ false
apart_too a b e = grind arith

-- a new stream isn't among those that were opened
pub not_among : (past : List Happening) (v : Summary) (s : ℕ) → StandsFor past v → is_new v.side.client_side s past ≡ true → is_among s (opened v.side past) ≡ false
not_among past v s h new = cases (is_among s (opened v.side past)) refl
  where
    no : (b : Bool) → b ≡ true → b ≡ false → ⊥
    no b e f = cc

    cases : (b : Bool) → is_among s (opened v.side past) ≡ b → b ≡ false
    cases true e = absurd (no (is_new v.side.client_side s past) new (h.begun s e))
    cases false e = refl

-- so it has no state
pub no_state : (past : List Happening) (v : Summary) (s : ℕ) → StandsFor past v → is_new v.side.client_side s past ≡ true → stream_at s v.streams ≡ None
no_state past v s h new =
    h.streams s ∙ ap (λ (a : Bool). state_with a (was_closed s past) (peer_ended s past) (was_ended s past) (head_stands s past)) (not_among past v s h new)

-- what a happening that opens a stream says
pub record Opens (side : Side) (s : ℕ) (x : Happening) (past : List Happening) (state : Stream) : Type 0 where
  pub opened_as : opened side (x ∷ past) ≡ s ∷ opened side past
  pub of : IsOf s x past
  pub new_before : is_new side.client_side s past ≡ true
  pub new_after : is_new side.client_side s (x ∷ past) ≡ false
  pub state_is : Some state ≡ state_of side s (x ∷ past)

other_state : (side : Side) (s : ℕ) (x : Happening) (past : List Happening) (state : Stream) → Opens side s x past state → (q : ℕ) → eqb q s ≡ false → state_of side q (x ∷ past) ≡ state_of side q past
other_state side s x past state o q e =
    ap (λ (l : List ℕ). state_with (is_among q l) (was_closed q (x ∷ past)) (peer_ended q (x ∷ past)) (was_ended q (x ∷ past)) (head_stands q (x ∷ past))) o.opened_as
    ∙ same (ap (λ (b : Bool). b || is_among q (opened side past)) (apart_too q s e)) (o.of.closed q e) (o.of.peer q e) (o.of.ended q e) (o.of.head q e)
  where
    same : {a b c d p r f g h k : Bool} → a ≡ b → c ≡ d → p ≡ r → f ≡ g → h ≡ k → state_with a c p f h ≡ state_with b d r g k
    same t i j k l = cc

count_opens : (past : List Happening) (v : Summary) (s : ℕ) (x : Happening) (state : Stream) (new : List (ℕ × Stream))
    → StandsFor past v → Opens v.side s x past state → Puts s (Some state) v.streams new → length new ≡ open_count v.side (x ∷ past)
count_opens past v s x state new h o put =
    let streams = opened v.side past in
    let live : ℕ → Bool = λ t. not (is_over t past) in
    let lives : ℕ → Bool = λ t. not (is_over t (x ∷ past)) in
    let away = not_among past v s h o.new_before in
    let moved = count_moved live lives s streams h.different (λ t e. over (o.of.closed t e) (o.of.peer t e) (o.of.ended t e)) in
    let others : count_by lives streams + 0 ≡ count_by live streams + 0 = subst (λ (b : Bool). count_by lives streams + one_if (b && live s) ≡ count_by live streams + one_if (b && lives s)) away moved in
    let here : is_some (stream_at s v.streams) ≡ false = ap is_some (no_state past v s h o.new_before) in
    let there : lives s ≡ true = both (is_among s (opened v.side (x ∷ past))) (lives s) (ap is_some o.state_is ∙ some_state (is_among s (opened v.side (x ∷ past))) (was_closed s (x ∷ past)) (peer_ended s (x ∷ past)) (was_ended s (x ∷ past)) (head_stands s (x ∷ past))) in
    let all : open_count v.side (x ∷ past) ≡ one_if (lives s) + count_by lives streams = ap (count_of (x ∷ past)) o.opened_as ∙ count_cons lives s streams in
    omega (arith, others, put.len, ap one_if here, ap one_if there, all, h.count)
  where
    over : {c d p r f g : Bool} → c ≡ d → p ≡ r → f ≡ g → not (c || (p && f)) ≡ not (d || (r && g))
    over i j k = cc

    both : (a b : Bool) → true ≡ a && b → b ≡ true
    both true b e = sym e
    both false b e = absurd cc

pub stands_opened : (x : Happening) (past : List Happening) (v w : Summary) (s : ℕ) (state : Stream)
    → StandsFor past v → w.side ≡ v.side → Keeps v.side x past w → Opens v.side s x past state
    → Puts s (Some state) v.streams w.streams → StandsFor (x ∷ past) w
stands_opened x past v w s state h same k o put = record {
  failed = k.failed;
  started = k.started;
  block = k.block;
  greatest = k.greatest_as;
  next = k.next;
  numbered = k.numbered;
  empties = k.empties;
  streams = λ q. at q (eqb q s) refl ∙ ap (λ (side : Side). state_of side q (x ∷ past)) (sym same);
  count = count_opens past v s x state w.streams h o put ∙ ap (λ (side : Side). open_count side (x ∷ past)) (sym same);
  different = subst (λ (side : Side). AreDifferent (opened side (x ∷ past))) (sym same) (subst AreDifferent (sym o.opened_as) (not_among past v s h o.new_before, h.different));
  begun = subst (λ (side : Side). (q : ℕ) → is_among q (opened side (x ∷ past)) ≡ true → is_new side.client_side q (x ∷ past) ≡ false) (sym same)
      (λ q e. known q (eqb s q) refl (ap (is_among q) (sym o.opened_as) ∙ e));
  untouched = subst (λ (side : Side). (q : ℕ) → is_new side.client_side q (x ∷ past) ≡ true → IsUntouched q (x ∷ past)) (sym same) k.untouched;
  within = subst (λ (side : Side). side.client_side ≡ true → IfSome (open_block (x ∷ past)) (λ b. was_opened b.stream (x ∷ past) ≡ true)) (sym same) k.within;
}
  where
    at : (q : ℕ) (b : Bool) → eqb q s ≡ b → stream_at q w.streams ≡ state_of v.side q (x ∷ past)
    at q true e = put.at q ∙ rw e (o.state_is ∙ ap (λ (n : ℕ). state_of v.side n (x ∷ past)) (sym (eqb-true q s e)))
    at q false e = put.at q ∙ rw e (h.streams q ∙ sym (other_state v.side s x past state o q e))

    known : (q : ℕ) (b : Bool) → eqb s q ≡ b → eqb s q || is_among q (opened v.side past) ≡ true → is_new v.side.client_side q (x ∷ past) ≡ false
    known q true e f = subst (λ (n : ℕ). is_new v.side.client_side n (x ∷ past) ≡ false) (eqb-true s q e) o.new_after
    known q false e f =
        still (is_new v.side.client_side q (x ∷ past)) (is_new v.side.client_side q past) (k.new q)
        (h.begun q (ap (λ (b : Bool). b || is_among q (opened v.side past)) (sym e) ∙ f))
