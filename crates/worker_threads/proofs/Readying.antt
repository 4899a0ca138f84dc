-- New workers may run.
use Rattle.post_queue.specs.Clauses.{IsRunnerOf}
use Rattle.post_queue.specs.declared.post_box.PostBox.{PostBox}
use Rattle.shared_state.specs.PermitSeats.{view}
use Rattle.std.proofs.Common.{ap, arith, subst, sym, ◌∙◌}
use Rattle.std.proofs.lemmas.Bool.{false≢true}
use Rattle.std.proofs.lemmas.List.{get_or-map, length-map}
use Rattle.std.proofs.lemmas.Option.{slice_get_within}
use Rattle.std.specs.Prelude.{IsSomeAnd, List, None, Option, Some, [], length, map, slice_get, slice_index_or, unwrap_or, ℕ, ◌<◌, ◌≡◌, ◌≤◌}
use Rattle.worker_loop.specs.Keeping.{AreUpTo}
use Rattle.worker_loop.specs.declared.turns.Ended.{Ended}
use Rattle.worker_loop.specs.declared.turns.Ended.TheVariants as ended
use Rattle.worker_threads.specs.Starting.{HasWorked, IsNew, IsReady, Outside, Worked, WorkedEach, end_of}
use Rattle.worker_threads.specs.declared.worker.Shared.{Shared}
use Rattle.worker_threads.specs.declared.worker.Worker.{Worker}

none_up : (n : ℕ) (held : List ℕ) → held ≡ [] → AreUpTo n held
none_up n held e = subst (λ (h : List ℕ). AreUpTo n h) (sym e) (λ c there. absurd (false≢true there))

none_given : (held : List ℕ) (n : ℕ) → held ≡ [] → length held ≤ n
none_given held n e = let is : length held ≡ 0 = ap length e in omega (arith, is)

same_box : (b d : PostBox) → ◌≡◌ {A = Option PostBox} (Some b) (Some d) → b ≡ d
same_box b d e = cc

pub new_ready : {W C G J : Type 0} (o : Outside W C J) (shared : Shared) (place : ℕ) (box : PostBox) (w : Worker W C G J) → slice_get shared.posts.items place ≡ Some box → IsNew o shared.permits shared.names box w → IsReady o shared place w
new_ready o shared place box w at new = record {
  has_box = slice_get_within shared.posts.items place box at;
  core = new.core;
  holds = record { is_seat = new.seat; given = none_given w.held (view w.seat).held new.held };
  pass = λ b is. subst (λ (d : PostBox). IsRunnerOf d w.pass) (same_box box b (sym at ∙ is)) new.pass;
  names = new.names_are;
  below = none_up (o.seen w.wires).greatest w.held new.held;
}

-- ---- each of them
some_end : (P : Ended → Type 0) (o : Option Ended) → IsSomeAnd o P → P (unwrap_or o ended.Memory)
some_end P None has = absurd has
some_end P (Some e) has = has

pub all_worked : {W C G J : Type 0} (o : Outside W C J) (shared : Shared) (turns : ℕ) (old new : List (Worker W C G J)) (ends : List Ended) → length new ≡ length old
    → ((i : ℕ) (w : Worker W C G J) → i < length old → HasWorked o shared i turns (slice_index_or old i w) (slice_index_or new i w)) → ends ≡ map end_of new → WorkedEach o shared turns old ends new
all_worked o shared turns old new ends same each is = record {
  same = same;
  each_end = ap length is ∙ length-map new end_of ∙ same;
  each = λ i w e less.
      let at : slice_index_or ends i e ≡ end_of (slice_index_or new i w) = ap (λ xs. slice_index_or xs i e) is ∙ get_or-map end_of new i w e (omega (arith, less, same)) in
      subst (λ (x : Ended). Worked o shared i turns (slice_index_or old i w) x (slice_index_or new i w)) (sym at)
      (some_end (λ x. Worked o shared i turns (slice_index_or old i w) x (slice_index_or new i w)) (slice_index_or new i w).ended (each i w less));
}

pub none_worked : {W C G J : Type 0} (o : Outside W C J) (shared : Shared) (turns : ℕ) (old new : List (Worker W C G J)) (ends : List Ended) → length old ≡ 0 → new ≡ old → ends ≡ [] → WorkedEach o shared turns old ends new
none_worked o shared turns old new ends none same is = record {
  same = ap length same;
  each_end = let l : length ends ≡ 0 = ap length is in omega (arith, l, none);
  each = λ i w e less. absurd (omega (arith, less, none));
}
