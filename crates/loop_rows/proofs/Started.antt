-- Two workers may run, and what is kept of permits once they have.
use Rattle.post_queue.specs.declared.post_box.PostBox.{PostBox}
use Rattle.shared_state.specs.PermitSeats.{view}
use Rattle.std.proofs.Common.{ap, arith, subst, suc, sym, zero, ◌∙◌}
use Rattle.std.specs.Prelude.{Err, IfOk, List, Ok, OnErr, Result, Some, [], length, slice_get, slice_index_or, ℕ, ◌++◌, ◌<◌, ◌∷◌, ◌≡◌, ◌≤◌}
use Rattle.worker_loop.specs.Keeping.{Holds}
use Rattle.worker_loop.specs.declared.turns.Ended.{Ended}
use Rattle.worker_loop.specs.declared.turns.Ended.TheVariants as ended
use Rattle.worker_threads.specs.Starting.{IsReady, Outside, WorkedEach}
use Rattle.worker_threads.specs.declared.worker.Shared.{Shared}
use Rattle.worker_threads.specs.declared.worker.Worker.{Worker}

none_given : (held : List ℕ) (n : ℕ) → held ≡ [] → length held ≤ n
none_given held n e = let is : length held ≡ 0 = ap length e in omega (arith, is)

pub by_result : {T E Q R : Type 0} (P : T → Type 0) (result : Result T E) → IfOk result P → OnErr result R → ((t : T) → P t → Q) → (R → Q) → Q
by_result P (Ok t) ok err f g = f t ok
by_result P (Err e) ok err f g = g err

-- the boxes of the two
pub two_boxes : (none one two : List PostBox) (b d : PostBox) → none ≡ [] → one ≡ none ++ b ∷ [] → two ≡ one ++ d ∷ [] → (slice_get two 0 ≡ Some b) × (slice_get two 1 ≡ Some d)
two_boxes none one two b d n o t =
    let first : one ≡ b ∷ [] = o ∙ ap (λ (xs : List PostBox). xs ++ b ∷ []) n in
    let both : two ≡ b ∷ d ∷ [] = t ∙ ap (λ (xs : List PostBox). xs ++ d ∷ []) first in
    (ap (λ (xs : List PostBox). slice_get xs 0) both, ap (λ (xs : List PostBox). slice_get xs 1) both)

module _ {W C G J : Type 0} (o : Outside W C J) (shared : Shared) where
  -- each of the two
  pub two_ready : (first second : Worker W C G J) → IsReady o shared 0 first → IsReady o shared 1 second → (i : ℕ) (w : Worker W C G J) → i < 2 → IsReady o shared i (slice_index_or (first ∷ second ∷ []) i w)
  two_ready first second one two zero w less = one
  two_ready first second one two (suc zero) w less = two
  two_ready first second one two (suc (suc i)) w less = absurd (omega (arith, less))

  -- once they have run
  pub worked_holds : (turns : ℕ) (old : List (Worker W C G J)) (ends : List Ended) (new : List (Worker W C G J)) → WorkedEach o shared turns old ends new
      → (i : ℕ) (w : Worker W C G J) → i < length old → Holds shared.permits (slice_index_or new i w).seat (slice_index_or new i w).held
  worked_holds turns old ends new worked i w less =
      let one = worked.each i w ended.Memory less in
      record { is_seat = one.is_seat; given = none_given (slice_index_or new i w).held (view (slice_index_or new i w).seat).held one.none }

  -- where nothing was run
  pub ready_holds : (old new : List (Worker W C G J)) → ((i : ℕ) (w : Worker W C G J) → i < length old → IsReady o shared i (slice_index_or old i w)) → new ≡ old
      → (i : ℕ) (w : Worker W C G J) → i < length old → Holds shared.permits (slice_index_or new i w).seat (slice_index_or new i w).held
  ready_holds old new ready same i w less = subst (λ (ws : List (Worker W C G J)). Holds shared.permits (slice_index_or ws i w).seat (slice_index_or ws i w).held) (sym same) (ready i w less).holds
