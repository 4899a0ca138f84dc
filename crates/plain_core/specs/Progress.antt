-- What is under way while a dispatch goes on, so that nothing is left to do when nothing is under way.
use Rattle.plain_laws.specs.Next.{is_ready}
use Rattle.std.specs.BTreeMap.{BTreeMap, get}
use Rattle.std.specs.List.{AllByRecursion, list_any}
use Rattle.std.specs.Ordering.{nat_cmp}
use Rattle.std.specs.Prelude.{Bool, [], false, true, ℕ, ◌==◌, ◌||◌, ◌≡◌, ◌⊎◌}
use Rattle.tape_laws.specs.Dispatches.{before_dispatch, has, is_some_of, live}
use Rattle.tape_laws.specs.Doomed.{is_swept}
use Rattle.tape_laws.specs.Ends.{end_framed}
use Rattle.tape_laws.specs.Flows.{request}
use Rattle.tape_laws.specs.History.{History, NoMark}
use Rattle.tape_laws.specs.Pauses.{pending_lows}
use Rattle.tape_laws.specs.Plain.{paired_with, plain_setup}
use Rattle.tape_laws.specs.PlainSession.{plain_must_end}
use Rattle.tape_laws.specs.Watermark.{above}
use Rattle.tape_laws.specs.declared.PlainLimits.{PlainLimits}
use Rattle.plain_core.specs.Agenda.{Agenda, is_rounded, is_run_of, is_telling}
use Rattle.plain_core.specs.Carries.{may_move}
use Rattle.plain_core.specs.declared.agenda.Task.{Task}
use Rattle.flow_rules.specs.declared.ids.BufferId.TheVariants as buffer
use Rattle.plain_core.specs.declared.agenda.Task.TheVariants as task

-- which stream the end of a stream dooms
abbrev pub Pairs : Type 0
Pairs = BTreeMap ℕ ℕ

-- the task dooms the stream, or will
abbrev pub will_doom : Pairs → ℕ → Task → Bool
will_doom pairs x (task.End y) = (y == x) || is_some_of (get nat_cmp pairs y) x
will_doom pairs x (task.EarlyEnd y) = y == x
will_doom pairs x t = false

-- the stream's end was framed, in this dispatch
pub record EndedHere (limits : PlainLimits) (s : ℕ) (h : History NoMark) : Type 0 where
  pub framed : end_framed (plain_setup limits) (request s) h ≡ true
  pub here : end_framed (plain_setup limits) (request s) (before_dispatch h) ≡ false

-- of a stream whose end dooms this one
pub record PairEndedHere (limits : PlainLimits) (x : ℕ) (h : History NoMark) : Type 0 where
  pub first : ℕ
  pub paired : has (paired_with x h) first ≡ true
  pub ended : EndedHere limits first h

-- a doom that is under way has its cause
abbrev pub HasReason : PlainLimits → History NoMark → Task → Type 0
HasReason limits h (task.End s) = EndedHere limits s h
HasReason limits h (task.EarlyEnd x) = PairEndedHere limits x h
HasReason limits h t = Unit {0}

-- nothing may be framed
pub record HasFramed (limits : PlainLimits) (h : History NoMark) : Type 0 where
  pub none : (above (plain_setup limits) (buffer.Write 0) h ≡ true) ⊎ ((x : ℕ) → has (live h) x ≡ true → is_ready limits x h ≡ false)

pub record Underway (limits : PlainLimits) (pairs : Pairs) (agenda : Agenda) (h : History NoMark) : Type 0 where
  -- each flow that may move is being run
  pub runs : (x : ℕ) → has (live h) x ≡ true → may_move limits x h ≡ true → list_any (is_run_of (request x)) agenda ≡ true
  -- the watchers of the write buffer that are still to be told are being told
  pub tells : (pending_lows (plain_setup limits) (buffer.Write 0) h ≡ []) ⊎ (list_any (is_telling 0) agenda ≡ true)
  -- each stream that has to end is about to be doomed
  pub ends : (x : ℕ) → has (live h) x ≡ true → plain_must_end x h ≡ true → list_any (will_doom pairs x) agenda ≡ true
  pub reasons : AllByRecursion (HasReason limits h) agenda
  -- no exchange is swept before that
  pub unswept : (agenda ≡ []) ⊎ (is_swept h ≡ false)
  -- the round comes last, and it found nothing to frame
  pub rested : (is_rounded agenda ≡ true) ⊎ ((agenda ≡ []) × HasFramed limits h)
