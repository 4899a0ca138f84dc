-- What is under way, from one history to the next.
use Rattle.std.proofs.lemmas.Bool.{and_parts, or_left, or_right, and_parts as and_is}
use Rattle.plain_laws.proofs.Unswept.{frame_unswept, move_unswept}
use Rattle.plain_laws.specs.Words.{Past, Alive, conn_high, conn_lows, end_out, frame_of, past_frame, past_move, recv_at, send_drains}
use Rattle.tape_laws.specs.Doomed.{is_swept}
use Rattle.plain_laws.proofs.Changes.{frame_before, frame_end_framed, frame_here, frame_keeps, frame_keeps_lists, frame_must, frame_paired, frame_recv, frame_write_lows, move_before, move_end_framed, move_keeps, move_keeps_lists, move_keeps_write, move_must, move_paired, move_recv}
use Rattle.plain_laws.proofs.Counting.{one_if}
use Rattle.plain_laws.proofs.Counts.{frame_count, move_count}
use Rattle.plain_laws.proofs.Pairing.{must_frame_is}
use Rattle.plain_laws.proofs.Rotation.{next_is_unit, none_next}
use Rattle.plain_laws.proofs.Streams.{by_case, not_both, number_is, own_or_other}
use Rattle.plain_laws.specs.Next.{is_ready}
use Rattle.plain_laws.specs.Settled.{Settled}
use Rattle.std.proofs.Common.{ap, arith, inl, inr, length-drop, refl, subst, sym, ◌∙◌}
use Rattle.std.proofs.lemmas.Bool.Decides.{nat_tests}
use Rattle.std.specs.BTreeMap.{get}
use Rattle.std.specs.List.{AllByRecursion, list_any}
use Rattle.std.specs.Ordering.{nat_cmp}
use Rattle.std.specs.Prelude.{Bool, List, [], drop, false, length, nat_lt, true, ℕ, ◌&&◌, ◌+◌, ◌==◌, ◌||◌, ◌∷◌, ◌≡◌, ◌≤◌, ◌⊎◌}
use Rattle.flow_rules.specs.declared.ids.FlowId.{FlowId}
use Rattle.tape_laws.specs.Dispatches.{before_dispatch, has, is_some_of, live}
use Rattle.flow_rules.specs.declared.unit.Unit.TheVariants.{Body as BodyUnit}
use Rattle.tape_laws.specs.Flows.{request}
use Rattle.tape_laws.specs.Pauses.{count}
use Rattle.tape_laws.specs.Plain.{paired_with}
use Rattle.tape_laws.specs.PlainSession.{plain_must_end}
use Rattle.tape_laws.specs.declared.PlainLimits.{PlainLimits}
use Rattle.plain_core.proofs.Agendas.{Grounds, Holds, Runs, drained_runs, ended_dooms, frame_reasons, holds_end_drain, holds_end_run, holds_frame, runs_end_drain, runs_end_run, runs_frame, top_is}
use Rattle.plain_core.specs.Agenda.{Agenda, after_frame, is_rounded, is_run_of, is_telling}
use Rattle.plain_core.specs.Carries.{NextIs, NoNext, may_move}
use Rattle.plain_core.specs.Progress.{EndedHere, HasFramed, HasReason, Pairs, Underway, will_doom}
use Rattle.plain_core.specs.declared.agenda.Task.{Task}
use Rattle.plain_core.specs.declared.flows.Framed.{Framed}
use Rattle.plain_core.specs.declared.flows.NextFrame.{NextFrame}
use Rattle.plain_core.specs.declared.agenda.Task.TheVariants as task
use Rattle.plain_core.specs.Words.{OnTop}

-- where something is under way, the round is at the bottom
module _ (limits : PlainLimits) (pairs : Pairs) (t : Task) where
  pub rounded_top : (a : Agenda) (h : Past) → Underway limits pairs (t ∷ a) h → is_rounded (t ∷ a) ≡ true
  rounded_top a h u = elim u.rested as (λ s. is_rounded (t ∷ a) ≡ true) [ inl e ↦ e | inr e ↦ cc ]

  pub rounded_at : (a : Agenda) (h : Past) → OnTop t a → Underway limits pairs a h → is_rounded a ≡ true
  rounded_at a h top u =
      rw (top_is t a top) (rounded_top (drop 1 a) h (subst (λ (v : Agenda). Underway limits pairs v h) (top_is t a top) u))

-- ---- the ends that were framed, and what they doom
pub record KeepsEnds (limits : PlainLimits) (old new : Past) : Type 0 where
  pub framed : (x : ℕ) → end_out limits x old ≡ true → end_out limits x new ≡ true
  pub before : before_dispatch new ≡ before_dispatch old
  pub paired : (x : ℕ) → paired_with x new ≡ paired_with x old

module _ (limits : PlainLimits) where
  ended_kept : (s : ℕ) (h k : Past) → KeepsEnds limits h k → EndedHere limits s h → EndedHere limits s k
  ended_kept s h k e r = record { framed = e.framed s r.framed; here = cc }

  reason_kept : (t : Task) (h k : Past) → KeepsEnds limits h k → HasReason limits h t → HasReason limits k t
  reason_kept task.Round h k e r = tt
  reason_kept (task.Drain c) h k e r = tt
  reason_kept (task.Tell c) h k e r = tt
  reason_kept (task.Run f) h k e r = tt
  reason_kept (task.End s) h k e r = ended_kept s h k e r
  reason_kept (task.EarlyEnd x) h k e r = record { first = r.first; paired = cc (e.paired x); ended = ended_kept r.first h k e r.ended }

  pub reasons_kept : (a : Agenda) (h k : Past) → KeepsEnds limits h k → AllByRecursion (HasReason limits h) a → AllByRecursion (HasReason limits k) a
  reasons_kept [] h k e r = tt
  reasons_kept (t ∷ a) h k e r = (reason_kept t h k e r.0, reasons_kept a h k e r.1)

-- ---- what a step leaves of what is under way
pub record LeavesWork (limits : PlainLimits) (old new : Past) : Type 0 where
  pub lives : (x : ℕ) → Alive new x → Alive old x
  pub told : conn_lows limits old ≡ [] → conn_lows limits new ≡ []
  pub must : (x : ℕ) → Alive new x → plain_must_end x new ≡ true → plain_must_end x old ≡ true
  pub ends : KeepsEnds limits old new
  pub unswept : is_swept old ≡ false → is_swept new ≡ false

module _ (limits : PlainLimits) (h : Past) where
  pub keeps_ends_same : KeepsEnds limits h h
  keeps_ends_same = record { framed = λ x e. e; before = refl; paired = λ x. refl }

  pub leaves_same : LeavesWork limits h h
  leaves_same = record { lives = λ x e. e; told = λ e. e; must = λ x l e. e; ends = keeps_ends_same; unswept = λ e. e }

-- what is under way isn't the sweep
pub unswept_at : (a : Agenda) (t : Task) (h : Past) → OnTop t a → (a ≡ []) ⊎ (is_swept h ≡ false) → is_swept h ≡ false
unswept_at [] t h top u = cc
unswept_at (s ∷ ss) t h top (inl e) = cc
unswept_at (s ∷ ss) t h top (inr e) = e

pub unswept_rounded : (a : Agenda) (h : Past) → is_rounded a ≡ true → (a ≡ []) ⊎ (is_swept h ≡ false) → is_swept h ≡ false
unswept_rounded [] h r u = cc
unswept_rounded (s ∷ ss) h r (inl e) = cc
unswept_rounded (s ∷ ss) h r (inr e) = e

-- ---- from one agenda to the next
pub told_kept : (limits : PlainLimits) (a b : Agenda) (h k : Past) → Holds a b → LeavesWork limits h k
    → (conn_lows limits h ≡ []) ⊎ (list_any (is_telling 0) a ≡ true)
    → (conn_lows limits k ≡ []) ⊎ (list_any (is_telling 0) b ≡ true)
told_kept limits a b h k c w t =
    elim t as (λ s. (conn_lows limits k ≡ []) ⊎ (list_any (is_telling 0) b ≡ true)) [ inl e ↦ inl (w.told e) | inr e ↦ inr (c.tells e) ]

module _ (limits : PlainLimits) (pairs : Pairs) (a b : Agenda) (h : Past) where
  pub underway_of : (k : Past) → Holds a b → Grounds a b → LeavesWork limits h k → is_rounded a ≡ true
      → ((x : ℕ) → Alive k x → may_move limits x k ≡ true → list_any (is_run_of (request x)) b ≡ true)
      → Underway limits pairs a h → Underway limits pairs b k
  underway_of k c g w r runs u = record {
    runs = runs;
    tells = told_kept limits a b h k c w u.tells;
    ends = λ x l e. c.dooms pairs x (u.ends x (w.lives x l) (w.must x l e));
    reasons = g.reasons limits k (reasons_kept limits a h k w.ends u.reasons);
    unswept = inr (w.unswept (unswept_rounded a h r u.unswept));
    rested = inl (c.rounds r);
  }

  -- what may move could move before, and all runs go on
  pub underway_kept : (k : Past) → Holds a b → Grounds a b → Runs a b → LeavesWork limits h k → is_rounded a ≡ true
      → ((x : ℕ) → Alive k x → may_move limits x k ≡ true → may_move limits x h ≡ true)
      → Underway limits pairs a h → Underway limits pairs b k
  underway_kept k c g s w r moves u =
      underway_of k c g w r (λ x l m. s.runs (request x) (u.runs x (w.lives x l) (moves x l m))) u

  -- nothing happened but that other tasks are under way
  pub underway_same : Holds a b → Grounds a b → Runs a b → is_rounded a ≡ true → Underway limits pairs a h
      → Underway limits pairs b h
  underway_same c g s r u = underway_kept h c g s (leaves_same limits h) r (λ x l m. m) u

-- the run ends of a flow that may not move
module _ (limits : PlainLimits) where
  pub underway_end_run : (pairs : Pairs) (f : FlowId) (a : Agenda) (h : Past) → ((x : ℕ) → f ≡ request x → Alive h x → may_move limits x h ≡ true → ⊥)
      → Underway limits pairs (task.Run f ∷ a) h → Underway limits pairs a h
  underway_end_run pairs f a h still u =
      underway_of limits pairs (task.Run f ∷ a) a h h (holds_end_run f a) (record { reasons = λ l k r. r.1 }) (leaves_same limits h) (rounded_top limits pairs (task.Run f) a h u)
      (λ x l m. runs_end_run f a x (λ e. still x e l m) (u.runs x l m)) u

  -- a drain ends
  pub underway_end_drain : (pairs : Pairs) (c : ℕ) (a : Agenda) (h : Past) → Underway limits pairs (task.Drain c ∷ a) h → Underway limits pairs a h
  underway_end_drain pairs c a h u =
      underway_same limits pairs (task.Drain c ∷ a) a h (holds_end_drain c a) (record { reasons = λ l k r. r.1 }) (runs_end_drain c a) (rounded_top limits pairs (task.Drain c) a h u) u

  -- nothing may be framed where no frame goes next
  pub has_framed : (h : Past) → NoNext limits h → HasFramed limits h
  has_framed h n = record {
    none = elim n.none as (λ s. (conn_high limits h ≡ true) ⊎ ((x : ℕ) → Alive h x → is_ready limits x h ≡ false))
        [ inl e ↦ inl e | inr e ↦ inr (λ x l. none_next limits x h e l) ];
  }

  -- the round ends
  pub underway_end_round : (pairs : Pairs) (a : Agenda) (h : Past) → NoNext limits h → Underway limits pairs (task.Round ∷ a) h → Underway limits pairs a h
  underway_end_round pairs a h n u = record {
    runs = u.runs;
    tells = u.tells;
    ends = u.ends;
    reasons = u.reasons.1;
    unswept = inr (unswept_at (task.Round ∷ a) task.Round h refl u.unswept);
    rested = rest a (rounded_top limits pairs task.Round a h u);
  }
    where
      rest : (b : Agenda) → is_rounded (task.Round ∷ b) ≡ true → (is_rounded b ≡ true) ⊎ ((b ≡ []) × HasFramed limits h)
      rest [] e = inr (refl, has_framed h n)
      rest (t ∷ ts) e = inl e

  -- the telling ends
  pub underway_end_tell : (pairs : Pairs) (c : ℕ) (a : Agenda) (h : Past) → conn_lows limits h ≡ []
      → Underway limits pairs (task.Tell c ∷ a) h → Underway limits pairs a h
  underway_end_tell pairs c a h none u = record {
    runs = u.runs;
    tells = inl none;
    ends = u.ends;
    reasons = u.reasons.1;
    unswept = inr (unswept_at (task.Tell c ∷ a) (task.Tell c) h refl u.unswept);
    rested = inl (rounded_top limits pairs (task.Tell c) a h u);
  }

-- ---- what may move
both : (a b : Bool) → a ≡ true → b ≡ true → (a && b) ≡ true
both true b e f = f
both false b e f = cc

is_zero : (n : ℕ) → n ≡ 0 → (n == 0) ≡ true
is_zero n e = grind (arith, nat_tests)

some_more : (m n : ℕ) → m ≤ n → nat_lt 0 m ≡ true → nat_lt 0 n ≡ true
some_more m n l e = grind (arith, nat_tests)

-- what may move may have moved where its count was 0, and its buffer held as much
pub moves_back : (limits : PlainLimits) (x : ℕ) (h k : Past) → (count (request x) k ≡ 0 → count (request x) h ≡ 0)
    → length (recv_at limits x k) ≤ length (recv_at limits x h) → may_move limits x k ≡ true → may_move limits x h ≡ true
moves_back limits x h k c l m =
    let p = and_parts (count (request x) k == 0) (nat_lt 0 (length (recv_at limits x k))) m in
    both (count (request x) h == 0) (nat_lt 0 (length (recv_at limits x h))) (is_zero (count (request x) h) (c (number_is (count (request x) k) 0 p.0)))
    (some_more _ _ l p.1)

-- ---- a move
live_of : (h k : Past) (x : ℕ) → live k ≡ live h → Alive k x → Alive h x
live_of h k x e l = cc

pub move_leaves_work : (limits : PlainLimits) (x n : ℕ) (h : Past) → LeavesWork limits h (past_move limits x n h)
move_leaves_work limits x n h = record {
  lives = λ y l. live_of h (past_move limits x n h) y (move_keeps_lists limits x n h).lives l;
  unswept = λ e. move_unswept limits x n h;
  told = λ e. (move_keeps_write limits x n h).lows ∙ e;
  must = λ y l e. sym (move_must limits x n h y) ∙ e;
  ends = record {
    framed = λ y e. move_end_framed limits x n h y ∙ e;
    before = move_before limits x n h;
    paired = λ y. move_paired limits x n h y;
  };
}

shorter : (xs ys : List ℕ) (n : ℕ) → xs ≡ drop n ys → length xs ≤ length ys
shorter xs ys n e = let l = length-drop n ys in let m = ap length e in omega (arith, l, m)

pub same_length : (xs ys : List ℕ) → xs ≡ ys → length xs ≤ length ys
same_length xs ys e = let m = ap length e in omega (arith, m)

was_none : (a b c : ℕ) → a ≡ c + b → a ≡ 0 → b ≡ 0
was_none a b c e f = omega arith

module _ (limits : PlainLimits) (x : ℕ) where
  pub moves_after_move : (y n : ℕ) (h : Past) → Settled limits h → Alive h y → may_move limits y (past_move limits x n h) ≡ true
      → may_move limits y h ≡ true
  moves_after_move y n h s l m =
      moves_back limits y h (past_move limits x n h) (was_none _ _ _ (move_count limits x y n h s l))
      (own_or_other (λ v. length (recv_at limits v (past_move limits x n h)) ≤ length (recv_at limits v h)) x y
      (shorter _ _ n (move_recv limits x n h)) (λ d. same_length _ _ (move_keeps limits x n h y d).recv)) m

  -- ---- a frame
  frame_ended_kept : (y n : ℕ) (last : Bool) (h : Past) → end_out limits y h ≡ true
      → end_out limits y (past_frame limits x n last h) ≡ true
  frame_ended_kept y n last h =
      own_or_other (λ v. end_out limits v h ≡ true → end_out limits v (past_frame limits x n last h) ≡ true) x y
      (λ e. frame_end_framed limits x n last h ∙ or_right last (end_out limits x h) e) (λ d e. (frame_keeps limits x n last h y d).framed ∙ e)

  pub frame_keeps_ends : (n : ℕ) (last : Bool) (h : Past) → KeepsEnds limits h (past_frame limits x n last h)
  frame_keeps_ends n last h = record {
    framed = λ y e. frame_ended_kept y n last h e;
    before = frame_before limits x n last h;
    paired = λ y. frame_paired limits x n last h y;
  }

none_left : (a b c d : ℕ) → a + d ≡ c + b → d ≡ 0 → a ≡ 0 → b ≡ 0
none_left a b c d e f g = omega arith

-- a flow that may move after a frame is that whose send buffer drained, or might have moved before
pub moves_after_frame : (limits : PlainLimits) (x y n : ℕ) (last : Bool) (h : Past) → Settled limits h → Alive h x → Alive h y
    → ((x == y) && send_drains limits x (frame_of x n last) h) ≡ false
    → may_move limits y (past_frame limits x n last h) ≡ true → may_move limits y h ≡ true
moves_after_frame limits x y n last h s lx ly d m =
    moves_back limits y h (past_frame limits x n last h) (none_left _ _ _ _ (frame_count limits x y n last h s lx ly) (ap one_if d))
    (own_or_other (λ v. length (recv_at limits v (past_frame limits x n last h)) ≤ length (recv_at limits v h)) x y
    (same_length _ _ (frame_recv limits x n last h)) (λ e. same_length _ _ (frame_keeps limits x n last h y e).recv)) m

or_is : {A : Type 0} (a b : Bool) → (a || b) ≡ true → (a ≡ true → A) → (b ≡ true → A) → A
or_is true b e f g = f refl
or_is false b e f g = g e

module _ (limits : PlainLimits) (pairs : Pairs) (a : Agenda) (next : NextFrame) where
  pub frame_runs : (framed : Framed) (y : ℕ) (h : Past) → Settled limits h
      → Alive h next.exchange → Alive h y
      → framed.drained ≡ send_drains limits next.exchange (frame_of next.exchange next.n next.last) h
      → Underway limits pairs a h → may_move limits y (past_frame limits next.exchange next.n next.last h) ≡ true
      → list_any (is_run_of (request y)) (after_frame next framed a) ≡ true
  frame_runs framed y h s lx ly drained u m =
      let x = next.exchange in
      let w = send_drains limits x (frame_of x next.n next.last) h in
      by_case ((x == y) && w)
      (λ e. rw (← number_is x y (and_is (x == y) w e).0) (drained_runs next framed a (drained ∙ (and_is (x == y) w e).1)))
      (λ d. (runs_frame next framed a).runs (request y) (u.runs y ly (moves_after_frame limits x y next.n next.last h s lx ly d m)))

  -- the write buffer isn't above, and its turn is that of a flow: the round isn't over
  pub rounded_next : (h : Past) → NextIs next limits h → Underway limits pairs a h → is_rounded a ≡ true
  rounded_next h i u =
      elim u.rested as (λ s. is_rounded a ≡ true) [
        | inl e ↦ e
        | inr e ↦ elim e.1.none as (λ s. is_rounded a ≡ true) [
          | inl t ↦ not_both (conn_high limits h) t i.low
          | inr f ↦ not_both (is_ready limits next.exchange h) (ready_next limits next h i) (f next.exchange i.live)
        ]
      ]
    where
      ready_next : (limits : PlainLimits) (next : NextFrame) (h : Past) → NextIs next limits h → is_ready limits next.exchange h ≡ true
      ready_next limits next h i = rw (next_is_unit limits (request next.exchange) (BodyUnit next.n next.last) h i.turn) refl

  -- who must end after a frame is about to be doomed
  pub frame_ends : (framed : Framed) (y : ℕ) (h : Past) → ((s x : ℕ) → has (paired_with x h) s ≡ is_some_of (get nat_cmp pairs s) x) → Alive h y → Underway limits pairs a h
      → plain_must_end y (past_frame limits next.exchange next.n next.last h) ≡ true → list_any (will_doom pairs y) (after_frame next framed a) ≡ true
  frame_ends framed y h books l u e =
      let x = next.exchange in
      let must : (((next.last && ((y == x) || has (paired_with y h) x)) || plain_must_end y h) ≡ true) =
      sym (must_frame_is 0 x y next.n next.last h) ∙ sym (frame_must limits x next.n next.last h y) ∙ e in
      or_is (next.last && ((y == x) || has (paired_with y h) x)) (plain_must_end y h) must
      (λ t. let p = and_is next.last ((y == x) || has (paired_with y h) x) t in
      ended_dooms next framed a pairs y p.0
      (or_is (y == x) (has (paired_with y h) x) p.1 (λ q. or_left (x == y) (is_some_of (get nat_cmp pairs x) y) (turned y x q))
      (λ q. or_right (x == y) (is_some_of (get nat_cmp pairs x) y) (sym (books x y) ∙ q))))
      (λ t. (holds_frame next framed a).dooms pairs y (u.ends y l t))
    where
      turned : (a b : ℕ) → (a == b) ≡ true → (b == a) ≡ true
      turned a b e = grind (arith, nat_tests)

pub underway_frame : (limits : PlainLimits) (pairs : Pairs) (a : Agenda) (next : NextFrame) (framed : Framed) (h : Past) → Settled limits h → NextIs next limits h
    → framed.drained ≡ send_drains limits next.exchange (frame_of next.exchange next.n next.last) h
    → ((s x : ℕ) → has (paired_with x h) s ≡ is_some_of (get nat_cmp pairs s) x)
    → Underway limits pairs a h → Underway limits pairs (after_frame next framed a) (past_frame limits next.exchange next.n next.last h)
underway_frame limits pairs a next framed h s i drained books u =
    let x = next.exchange in
    let k = past_frame limits x next.n next.last h in
    let lives : (y : ℕ) → Alive k y → Alive h y = λ y l. live_of h k y (frame_keeps_lists limits x next.n next.last h).lives l in
    record {
      runs = λ y l m. frame_runs limits pairs a next framed y h s i.live (lives y l) drained u m;
      tells = elim u.tells as (λ s. (conn_lows limits k ≡ []) ⊎ (list_any (is_telling 0) (after_frame next framed a) ≡ true))
          [ inl e ↦ inl (frame_write_lows limits x next.n next.last h ∙ e) | inr e ↦ inr ((holds_frame next framed a).tells e) ];
      ends = λ y l e. frame_ends limits pairs a next framed y h books (lives y l) u e;
      reasons = frame_reasons next framed a limits k (ended_now limits x next.n next.last h s i.live)
          (reasons_kept limits a h k (frame_keeps_ends limits x next.n next.last h) u.reasons);
      unswept = inr (frame_unswept limits x next.n next.last h);
      rested = inl ((holds_frame next framed a).rounds (rounded_next limits pairs a next h i u));
    }
  where
    ended_now : (limits : PlainLimits) (x n : ℕ) (last : Bool) (h : Past) → Settled limits h → Alive h x → last ≡ true
        → EndedHere limits x (past_frame limits x n last h)
    ended_now limits x n last h s l e = record {
      framed = frame_end_framed limits x n last h ∙ or_left last (end_out limits x h) e;
      here = frame_here limits x n last h s l;
    }
