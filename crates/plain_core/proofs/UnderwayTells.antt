-- What is under way while flows are told that the write buffer drained.
use Rattle.flow_rules.specs.declared.ids.FlowId.{FlowId}
use Rattle.plain_laws.proofs.Counting.{one_if}
use Rattle.plain_laws.proofs.Counts.{tell_count}
use Rattle.plain_laws.proofs.Keepings.{resume_keeps, write_resume_high, write_resume_lows}
use Rattle.plain_laws.proofs.Steps.{settled_count, tell_step}
use Rattle.plain_laws.proofs.Streams.{by_case, not_both, number_is}
use Rattle.plain_laws.specs.Settled.{Settled}
use Rattle.std.proofs.lemmas.Bool.{and_left}
use Rattle.std.proofs.Common.{ap, arith, inl, inr, refl, subst, sym, ◌∙◌}
use Rattle.std.proofs.lemmas.Bool.Decides.{nat_tests}
use Rattle.std.specs.List.{AllByRecursion}
use Rattle.std.specs.Prelude.{Bool, IfNone, List, None, Option, Some, [], drop, false, length, nat_lt, option_to_list, true, ℕ, ◌&&◌, ◌++◌, ◌+◌, ◌==◌, ◌∷◌, ◌≡◌, ◌≤◌, ◌⊎◌}
use Rattle.plain_laws.specs.Words.{Past, Alive, conn_high, conn_lows, recv_at}
use Rattle.tape_laws.specs.Flows.{request}
use Rattle.tape_laws.specs.History.{Noted}
use Rattle.tape_laws.specs.Pauses.{count}
use Rattle.tape_laws.specs.declared.PlainLimits.{PlainLimits}
use Rattle.plain_core.proofs.Agendas.{after_telling, grounds_run, grounds_same, holds_run, holds_same, run_is, runs_run, top_is}
use Rattle.plain_core.proofs.Tellings.{first_is, tell_settled, with_all_told, with_told}
use Rattle.plain_core.proofs.UnderwayMoves.{LeavesWork, moves_back, same_length, underway_end_tell, underway_of, unswept_rounded}
use Rattle.plain_core.specs.Agenda.{Agenda, is_rounded, with_run}
use Rattle.plain_core.specs.Carries.{IsStill, may_move}
use Rattle.plain_core.specs.Progress.{Pairs, Underway}
use Rattle.flow_rules.specs.declared.ids.BufferId.TheVariants as buffer
use Rattle.flow_notes.specs.declared.notes.Note.TheVariants as note
use Rattle.plain_core.specs.declared.agenda.Task.TheVariants as task
use Rattle.plain_core.specs.Words.{OnTop}

pub tell_leaves_work : (limits : PlainLimits) (x : ℕ) (h : Past) → LeavesWork limits h (Noted (note.Resume (request x) (buffer.Write 0)) ∷ h)
tell_leaves_work limits x h = record {
  lives = λ y l. l;
  unswept = λ e. refl;
  told = λ e. cc (write_resume_lows limits (request x) h);
  must = λ y l e. e;
  ends = record { framed = λ y e. e; before = refl; paired = λ y. refl };
}

still_none : (a b : ℕ) (w : Bool) → a + one_if w ≡ b → w ≡ false → a ≡ 0 → b ≡ 0
still_none a b true e f g = cc
still_none a b false e f g = omega arith

-- where the write buffer is above each stream is held back
some_count : (c a w m : ℕ) → c ≡ (a + w) + m → w ≡ 1 → 1 ≤ c
some_count c a w m e f = omega (arith, e, f)

not_zero : (n : ℕ) → 1 ≤ n → (n == 0) ≡ false
not_zero n l = grind (arith, nat_tests)

pub still_above : (limits : PlainLimits) (x : ℕ) (h : Past) → Settled limits h → Alive h x → conn_high limits h ≡ true → may_move limits x h ≡ false
still_above limits x h s l e =
    and_left (count (request x) h == 0) (nat_lt 0 (length (recv_at limits x h)))
    (not_zero (count (request x) h) (some_count _ _ _ _ (settled_count limits x h s l) (ap one_if e)))

-- nothing of it moves where it is told
module _ (limits : PlainLimits) (f : FlowId) where
  still_told : (y : ℕ) (h : Past) → IsStill limits y h → IsStill limits y (with_told f h)
  still_told y h s = record {
    still = elim s.still as (λ t. (conn_high limits (with_told f h) ≡ true) ⊎ (nat_lt 0 (length (recv_at limits y (with_told f h))) ≡ false))
        [ inl e ↦ inl (write_resume_high limits f h ∙ e) | inr e ↦ inr e ];
  }

  all_still_told : (gs : List FlowId) (h : Past) → AllByRecursion (λ g. IsStill limits g.exchange h) gs
      → AllByRecursion (λ g. IsStill limits g.exchange (with_told f h)) gs
  all_still_told [] h a = tt
  all_still_told (g ∷ gs) h a = (still_told g.exchange h a.0, all_still_told gs h a.1)

empty_still : (a b : Bool) → b ≡ false → (a && b) ≡ false
empty_still true b e = e
empty_still false b e = refl

still_stays : (limits : PlainLimits) (x : ℕ) (h : Past) → Settled limits h → Alive h x → IsStill limits x h → may_move limits x h ≡ false
still_stays limits x h s l t =
    elim t.still as (λ v. may_move limits x h ≡ false)
    [ inl e ↦ still_above limits x h s l e | inr e ↦ empty_still (count (request x) h == 0) (nat_lt 0 (length (recv_at limits x h))) e ]

-- what may move once x was told could move before, or is of x
told_moves : (limits : PlainLimits) (x y : ℕ) (rest : List FlowId) (h : Past) → Settled limits h → conn_lows limits h ≡ request x ∷ rest
    → Alive h y → (x == y) ≡ false → may_move limits y (with_told (request x) h) ≡ true → may_move limits y h ≡ true
told_moves limits x y rest h s first l d m =
    moves_back limits y h (with_told (request x) h) (still_none _ _ _ (tell_count limits x y rest h s l first) d) (same_length _ _ (resume_keeps limits y (request x) (buffer.Write 0) h).recv) m

module _ (limits : PlainLimits) (pairs : Pairs) (a : Agenda) (x : ℕ) (rest : List FlowId) (h : Past) where
  underway_told : Settled limits h
      → conn_lows limits h ≡ request x ∷ rest → is_rounded a ≡ true → IsStill limits x h
      → Underway limits pairs a h → Underway limits pairs a (with_told (request x) h)
  underway_told s first r still u =
      let k : Past = with_told (request x) h in
      let at : (y : ℕ) → (x == y) ≡ true → IsStill limits y k = λ y e. (rw (← number_is x y e) (still_told limits (request x) x h still)) in
      underway_of limits pairs a a h k (holds_same a) (grounds_same a) (tell_leaves_work limits x h) r
      (λ y l m. by_case (x == y) (λ e. not_both (may_move limits y k) m (still_stays limits y k (tell_step limits x rest h s (unswept_rounded a h r u.unswept) first) l (at y e)))
      (λ d. u.runs y l (told_moves limits x y rest h s first l d m))) u

  underway_woken : Settled limits h
      → conn_lows limits h ≡ request x ∷ rest → is_rounded a ≡ true
      → Underway limits pairs a h → Underway limits pairs (with_run (request x) a) (with_told (request x) h)
  underway_woken s first r u =
      underway_of limits pairs a (with_run (request x) a) h (with_told (request x) h) (holds_run (request x) a) (grounds_run (request x) a) (tell_leaves_work limits x h) r
      (λ y l m. by_case (x == y) (λ e. rw (← number_is x y e) (run_is x a))
      (λ d. (runs_run (request x) a).runs (request y) (u.runs y l (told_moves limits x y rest h s first l d m)))) u

-- flows of which nothing moves are told, and then one that is run, or none is left
pub underway_telling : (limits : PlainLimits) (pairs : Pairs) (c : ℕ) (a : Agenda) (fs : List FlowId) (next : Option FlowId) (rest : List FlowId) (h : Past) → Settled limits h
    → conn_lows limits h ≡ (fs ++ option_to_list next) ++ rest → IfNone next (rest ≡ []) → OnTop (task.Tell c) a → is_rounded a ≡ true
    → AllByRecursion (λ f. IsStill limits f.exchange h) fs
    → Underway limits pairs a h → Underway limits pairs (after_telling next a) (with_all_told (fs ++ option_to_list next) h)
underway_telling limits pairs c a [] None rest h s lows last top r still u =
    let P : Agenda → Type 0 = λ v. Underway limits pairs v h in
    underway_end_tell limits pairs c (drop 1 a) h (lows ∙ last) (rw (← top_is (task.Tell c) a top) u)
underway_telling limits pairs c a [] (Some f) rest h s lows last top r still u =
    let is = (first_is limits f rest h s lows).is in
    let P : FlowId → Type 0 = λ g. Underway limits pairs (with_run g a) (with_told g h) in
    subst P (sym is) (underway_woken limits pairs a f.exchange rest h s (cc) r u)
underway_telling limits pairs c a (f ∷ fs) next rest h s lows last top r still u =
    let more = (fs ++ option_to_list next) ++ rest in
    let is = (first_is limits f more h s lows).is in
    let one : Underway limits pairs a (with_told f h) =
    subst (λ (g : FlowId). Underway limits pairs a (with_told g h)) (sym is) (underway_told limits pairs a f.exchange more h s (cc) r still.0 u) in
    underway_telling limits pairs c a fs next rest (with_told f h) (tell_settled limits f more h s (unswept_rounded a h r u.unswept) lows) (cc) last top r (all_still_told limits f fs h still.1) one
