-- Agendas: what goes on where a task is begun, ended or goes on as another.
use Rattle.std.proofs.lemmas.Bool.{or_left, or_right}
use Rattle.flow_rules.specs.declared.ids.FlowId.{FlowId}
use Rattle.plain_laws.proofs.Streams.{flow_is, same_request}
use Rattle.std.proofs.Common.{ap, arith, refl, ◌∙◌}
use Rattle.std.proofs.lemmas.List.Sums.{sum_by-cons}
use Rattle.std.specs.BTreeMap.{get}
use Rattle.std.specs.List.{AllByRecursion, list_any, sum_by}
use Rattle.std.specs.Ordering.{nat_cmp}
use Rattle.std.specs.Prelude.{Bool, None, Option, Some, [], drop, false, if◌then◌else◌, true, ℕ, ◌+◌, ◌==◌, ◌||◌, ◌∷◌, ◌≡◌, ◌≤◌}
use Rattle.plain_laws.specs.Words.{Past}
use Rattle.tape_laws.specs.Dispatches.{is_some_of}
use Rattle.tape_laws.specs.Flows.{request, same_flow}
use Rattle.tape_laws.specs.declared.PlainLimits.{PlainLimits}
use Rattle.plain_core.specs.Agenda.{Agenda, after_frame, after_move, is_drain_of, is_rounded, is_run_of, is_telling, with_drain, with_run}
use Rattle.plain_core.specs.Measure.{weight}
use Rattle.plain_core.specs.Progress.{EndedHere, HasReason, Pairs, will_doom}
use Rattle.plain_core.specs.declared.agenda.Task.{Task}
use Rattle.plain_core.specs.declared.flows.Framed.{Framed}
use Rattle.plain_core.specs.declared.flows.NextFrame.{NextFrame}
use Rattle.plain_core.specs.declared.agenda.Task.TheVariants as task
use Rattle.plain_core.specs.Words.{OnTop}

-- a flow that was told and goes on is run, and the telling on top ends where there is none
abbrev pub after_telling : Option FlowId → Agenda → Agenda
after_telling (Some f) agenda = with_run f agenda
after_telling None agenda = drop 1 agenda

-- what is told and doomed goes on to be, and the round stays at the bottom
pub record Holds (old new : Agenda) : Type 0 where
  pub tells : list_any (is_telling 0) old ≡ true → list_any (is_telling 0) new ≡ true
  pub dooms : (pairs : Pairs) (x : ℕ) → list_any (will_doom pairs x) old ≡ true → list_any (will_doom pairs x) new ≡ true
  pub rounds : is_rounded old ≡ true → is_rounded new ≡ true

-- no doom is new
pub record Grounds (old new : Agenda) : Type 0 where
  pub reasons : (limits : PlainLimits) (h : Past) → AllByRecursion (HasReason limits h) old → AllByRecursion (HasReason limits h) new

-- each flow that is run goes on to be
pub record Runs (old new : Agenda) : Type 0 where
  pub runs : (f : FlowId) → list_any (is_run_of f) old ≡ true → list_any (is_run_of f) new ≡ true

pub holds_same : (a : Agenda) → Holds a a
holds_same a = record { tells = λ e. e; dooms = λ p x e. e; rounds = λ e. e }

pub grounds_same : (a : Agenda) → Grounds a a
grounds_same a = record { reasons = λ l h r. r }

pub grounds_more : (a b c : Agenda) → Grounds a b → Grounds b c → Grounds a c
grounds_more a b c p q = record { reasons = λ l h r. q.reasons l h (p.reasons l h r) }

pub holds_more : (a b c : Agenda) → Holds a b → Holds b c → Holds a c
holds_more a b c p q = record {
  tells = λ e. q.tells (p.tells e);
  dooms = λ pairs x e. q.dooms pairs x (p.dooms pairs x e);
  rounds = λ e. q.rounds (p.rounds e);
}

pub runs_same : (a : Agenda) → Runs a a
runs_same a = record { runs = λ f e. e }

pub runs_more : (a b c : Agenda) → Runs a b → Runs b c → Runs a c
runs_more a b c p q = record { runs = λ f e. q.runs f (p.runs f e) }

-- ---- a task is begun
pub rounds_push : (t : Task) (a : Agenda) → is_rounded a ≡ true → is_rounded (t ∷ a) ≡ true
rounds_push t [] e = cc
rounds_push task.Round (u ∷ us) e = e
rounds_push (task.Drain c) (u ∷ us) e = e
rounds_push (task.Tell c) (u ∷ us) e = e
rounds_push (task.Run f) (u ∷ us) e = e
rounds_push (task.End x) (u ∷ us) e = e
rounds_push (task.EarlyEnd x) (u ∷ us) e = e

pub holds_push : (t : Task) (a : Agenda) → Holds a (t ∷ a)
holds_push t a = record {
  tells = λ e. or_right (is_telling 0 t) (list_any (is_telling 0) a) e;
  dooms = λ p x e. or_right (will_doom p x t) (list_any (will_doom p x) a) e;
  rounds = rounds_push t a;
}

pub runs_push : (t : Task) (a : Agenda) → Runs a (t ∷ a)
runs_push t a = record { runs = λ f e. or_right (is_run_of f t) (list_any (is_run_of f) a) e }

module _ (c : ℕ) (a : Agenda) where
  pub grounds_push_drain : Grounds a (task.Drain c ∷ a)
  grounds_push_drain = record { reasons = λ l h rs. (tt, rs) }

  -- ---- a connection is drained, or a flow run
  pub holds_drain : Holds a (with_drain c a)
  holds_drain = by (list_any (is_drain_of c) a)
    where
      by : (b : Bool) → Holds a (if b then a else task.Drain c ∷ a)
      by true = holds_same a
      by false = holds_push (task.Drain c) a

  pub grounds_drain : Grounds a (with_drain c a)
  grounds_drain = by (list_any (is_drain_of c) a)
    where
      by : (b : Bool) → Grounds a (if b then a else task.Drain c ∷ a)
      by true = grounds_same a
      by false = record { reasons = λ l h rs. (tt, rs) }

  pub runs_drain : Runs a (with_drain c a)
  runs_drain = by (list_any (is_drain_of c) a)
    where
      by : (b : Bool) → Runs a (if b then a else task.Drain c ∷ a)
      by true = runs_same a
      by false = runs_push (task.Drain c) a

module _ (f : FlowId) (a : Agenda) where
  pub holds_run : Holds a (with_run f a)
  holds_run = by (list_any (is_run_of f) a)
    where
      by : (b : Bool) → Holds a (if b then a else task.Run f ∷ a)
      by true = holds_same a
      by false = holds_push (task.Run f) a

  pub grounds_run : Grounds a (with_run f a)
  grounds_run = by (list_any (is_run_of f) a)
    where
      by : (b : Bool) → Grounds a (if b then a else task.Run f ∷ a)
      by true = grounds_same a
      by false = record { reasons = λ l h rs. (tt, rs) }

  pub runs_run : Runs a (with_run f a)
  runs_run = by (list_any (is_run_of f) a)
    where
      by : (b : Bool) → Runs a (if b then a else task.Run f ∷ a)
      by true = runs_same a
      by false = runs_push (task.Run f) a

-- the flow is run
pub run_is : (x : ℕ) (a : Agenda) → list_any (is_run_of (request x)) (with_run (request x) a) ≡ true
run_is x a = by (list_any (is_run_of (request x)) a) refl
  where
    by : (b : Bool) → list_any (is_run_of (request x)) a ≡ b → list_any (is_run_of (request x)) (if b then a else task.Run (request x) ∷ a) ≡ true
    by true e = e
    by false e = or_left (same_flow (request x) (request x)) (list_any (is_run_of (request x)) a) (same_request x)

-- ---- the task on top ends
pub holds_end_run : (f : FlowId) (a : Agenda) → Holds (task.Run f ∷ a) a
holds_end_run f a = record { tells = λ t. t; dooms = λ p x t. t; rounds = λ t. t }

pub grounds_end : (t : Task) (a : Agenda) → Grounds (t ∷ a) a
grounds_end t a = record { reasons = λ l h r. r.1 }

-- every other flow is still run
pub runs_end_run : (f : FlowId) (a : Agenda) (x : ℕ) → (f ≡ request x → ⊥) → list_any (is_run_of (request x)) (task.Run f ∷ a) ≡ true → list_any (is_run_of (request x)) a ≡ true
runs_end_run f a x other e = by (same_flow f (request x)) refl e
  where
    by : (b : Bool) → same_flow f (request x) ≡ b → (b || list_any (is_run_of (request x)) a) ≡ true → list_any (is_run_of (request x)) a ≡ true
    by true s e = absurd (other (flow_is f (request x) s))
    by false s e = e

pub holds_end_drain : (c : ℕ) (a : Agenda) → Holds (task.Drain c ∷ a) a
holds_end_drain c a = record { tells = λ t. t; dooms = λ p x t. t; rounds = λ t. t }

pub runs_end_drain : (c : ℕ) (a : Agenda) → Runs (task.Drain c ∷ a) a
runs_end_drain c a = record { runs = λ f t. t }

-- ---- after a frame
module _ (next : NextFrame) (framed : Framed) (a : Agenda) where
  pub holds_frame : Holds a (after_frame next framed a)
  holds_frame = by next.last framed.drained
    where
      ran : (d : Bool) (b : Agenda) → Holds b (if d then with_run (request next.exchange) b else b)
      ran true b = holds_run (request next.exchange) b
      ran false b = holds_same b

      by : (l d : Bool) → Holds a (let ended : Agenda = if l then task.End next.exchange ∷ a else a in if d then with_run (request next.exchange) ended else ended)
      by true d = holds_more a (task.End next.exchange ∷ a) (if d then with_run (request next.exchange) (task.End next.exchange ∷ a) else task.End next.exchange ∷ a) (holds_push (task.End next.exchange) a) (ran d (task.End next.exchange ∷ a))
      by false d = ran d a

  pub runs_frame : Runs a (after_frame next framed a)
  runs_frame = by next.last framed.drained
    where
      ran : (d : Bool) (b : Agenda) → Runs b (if d then with_run (request next.exchange) b else b)
      ran true b = runs_run (request next.exchange) b
      ran false b = runs_same b

      by : (l d : Bool) → Runs a (let ended : Agenda = if l then task.End next.exchange ∷ a else a in if d then with_run (request next.exchange) ended else ended)
      by true d = runs_more a (task.End next.exchange ∷ a) (if d then with_run (request next.exchange) (task.End next.exchange ∷ a) else task.End next.exchange ∷ a) (runs_push (task.End next.exchange) a) (ran d (task.End next.exchange ∷ a))
      by false d = ran d a

  -- the flow whose send buffer drained is run
  pub drained_runs : framed.drained ≡ true → list_any (is_run_of (request next.exchange)) (after_frame next framed a) ≡ true
  drained_runs e = by framed.drained e
    where
      by : (d : Bool) → d ≡ true → list_any (is_run_of (request next.exchange)) (let ended : Agenda = if next.last then task.End next.exchange ∷ a else a in if d then with_run (request next.exchange) ended else ended) ≡ true
      by true e = run_is next.exchange (if next.last then task.End next.exchange ∷ a else a)
      by false e = cc

  -- the end of a stream is seen to, and that of the stream that it dooms
  pub ended_dooms : (pairs : Pairs) (x : ℕ) → next.last ≡ true
      → ((next.exchange == x) || is_some_of (get nat_cmp pairs next.exchange) x) ≡ true → list_any (will_doom pairs x) (after_frame next framed a) ≡ true
  ended_dooms pairs x last e = by next.last framed.drained last
    where
      ran : (d : Bool) (b : Agenda) → list_any (will_doom pairs x) b ≡ true → list_any (will_doom pairs x) (if d then with_run (request next.exchange) b else b) ≡ true
      ran true b t = (holds_run (request next.exchange) b).dooms pairs x t
      ran false b t = t

      by : (l d : Bool) → l ≡ true → list_any (will_doom pairs x) (let ended : Agenda = if l then task.End next.exchange ∷ a else a in if d then with_run (request next.exchange) ended else ended) ≡ true
      by true d t = ran d (task.End next.exchange ∷ a) (or_left (will_doom pairs x (task.End next.exchange)) (list_any (will_doom pairs x) a) e)
      by false d t = cc

  pub frame_reasons : (limits : PlainLimits) (h : Past) → (next.last ≡ true → EndedHere limits next.exchange h)
      → AllByRecursion (HasReason limits h) a → AllByRecursion (HasReason limits h) (after_frame next framed a)
  frame_reasons limits h ended rs = by next.last framed.drained ended
    where
      ran : (d : Bool) (b : Agenda) → AllByRecursion (HasReason limits h) b → AllByRecursion (HasReason limits h) (if d then with_run (request next.exchange) b else b)
      ran true b t = (grounds_run (request next.exchange) b).reasons limits h t
      ran false b t = t

      by : (l d : Bool) → (l ≡ true → EndedHere limits next.exchange h)
          → AllByRecursion (HasReason limits h) (let ended : Agenda = if l then task.End next.exchange ∷ a else a in if d then with_run (request next.exchange) ended else ended)
      by true d e = ran d (task.End next.exchange ∷ a) (e refl, rs)
      by false d e = ran d a rs

-- ---- weights
pub weight_top : (t : Task) (a : Agenda) → OnTop t a → sum_by weight a ≡ weight t + sum_by weight (drop 1 a)
weight_top t [] e = cc
weight_top t (u ∷ us) e = let is : u ≡ t = cc in sum_by-cons weight u us ∙ ap (λ (v : Task). weight v + sum_by weight us) is

pub top_is : (t : Task) (a : Agenda) → OnTop t a → a ≡ t ∷ drop 1 a
top_is t [] e = cc
top_is t (u ∷ us) e = let is : u ≡ t = cc in ap (λ (v : Task). v ∷ us) is

pub weight_drain : (c : ℕ) (a : Agenda) → sum_by weight (with_drain c a) ≤ 1 + sum_by weight a
weight_drain c a = by (list_any (is_drain_of c) a)
  where
    by : (b : Bool) → sum_by weight (if b then a else task.Drain c ∷ a) ≤ 1 + sum_by weight a
    by true = omega arith
    by false = let e = sum_by-cons weight (task.Drain c) a in omega (arith, e)

pub weight_run : (f : FlowId) (a : Agenda) → sum_by weight (with_run f a) ≤ 1 + sum_by weight a
weight_run f a = by (list_any (is_run_of f) a)
  where
    by : (b : Bool) → sum_by weight (if b then a else task.Run f ∷ a) ≤ 1 + sum_by weight a
    by true = omega arith
    by false = let e = sum_by-cons weight (task.Run f) a in omega (arith, e)

weight_rest : (a : Agenda) → sum_by weight (drop 1 a) ≤ sum_by weight a
weight_rest [] = omega arith
weight_rest (t ∷ ts) = let e = sum_by-cons weight t ts in omega (arith, e)

pub weight_move : (is_all : Bool) (a : Agenda) → sum_by weight (after_move is_all a) ≤ 1 + sum_by weight a
weight_move true a = let d = weight_drain 0 (drop 1 a) in let r = weight_rest a in omega (arith, d, r)
weight_move false a = weight_drain 0 a

pub weight_frame : (next : NextFrame) (framed : Framed) (a : Agenda) → sum_by weight (after_frame next framed a) ≤ (if next.last then 2 else 0) + (1 + sum_by weight a)
weight_frame next framed a = by next.last framed.drained
  where
    ran : (b : Bool) (c : Agenda) → sum_by weight (if b then with_run (request next.exchange) c else c) ≤ 1 + sum_by weight c
    ran true c = weight_run (request next.exchange) c
    ran false c = omega arith

    by : (l d : Bool) → (let ended = if l then task.End next.exchange ∷ a else a in sum_by weight (if d then with_run (request next.exchange) ended else ended)) ≤ (if l then 2 else 0) + (1 + sum_by weight a)
    by true d = let e = sum_by-cons weight (task.End next.exchange) a in let r = ran d (task.End next.exchange ∷ a) in omega (arith, e, r)
    by false d = let r = ran d a in omega (arith, r)
