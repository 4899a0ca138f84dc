-- What each of several workers did.
use Rattle.flow_notes.specs.declared.notes.Note.{Note}
use Rattle.io_ports.specs.Faults.{Rose}
use Rattle.post_queue.specs.Clauses.{IsRunnerOf}
use Rattle.post_queue.specs.Pass as hands
use Rattle.post_queue.specs.declared.passes.RunnerPass.{RunnerPass}
use Rattle.post_queue.specs.declared.post_box.PostBox.{PostBox}
use Rattle.shared_state.specs.Following.{looks}
use Rattle.shared_state.specs.PermitSeats.{IsSeatOf, view}
use Rattle.shared_state.specs.declared.permits.PermitSeat.{PermitSeat}
use Rattle.shared_state.specs.declared.permits.Permits.{Permits}
use Rattle.std.specs.Prelude.{IsSomeAnd, List, Option, Some, [], length, slice_get, slice_index_or, unwrap_or, ℕ, ◌<◌, ◌≡◌, ◌≢◌}
use Rattle.worker_core.specs.Sessions.{RestsWire}
use Rattle.worker_loop.specs.Keeping.{AreUpTo, Holds, Keeps}
use Rattle.worker_loop.specs.Parts.{InWorld}
use Rattle.worker_loop.specs.Places.{Place, place_of}
use Rattle.worker_loop.specs.Turns.{Sides, sides_of}
use Rattle.worker_loop.specs.Works.{Works}
use Rattle.worker_loop.specs.declared.turns.Ended.{Ended}
use Rattle.worker_loop.specs.declared.turns.Ended.TheVariants as ended
use Rattle.worker_parts.specs.Held.{with_fewer}
use Rattle.worker_ports.specs.Wires.{Seen}
use Rattle.worker_ports.specs.declared.wires.Wires.{Ghosts}
use Rattle.worker_threads.specs.declared.worker.Shared.{Shared}
use Rattle.worker_threads.specs.declared.worker.Worker.{Worker}

-- what is told of connections, clocks and journals, and how many of their calls failed
pub record Outside (W C J : Type 0) : Type 0 where
  pub seen : W → Seen
  pub moments : C → Option (List ℕ)
  pub text : J → Option (List ℕ)
  pub told : J → Option (List Note)
  pub wires_faults : W → ℕ
  pub journal_faults : J → ℕ

-- by what these types tell: connections, a clock's moments, and a journal's text, notes and faults
abbrev pub outside_of : {W C J : Type 0} → Ghosts W → (C → Option (List ℕ)) → (J → Option (List ℕ)) → (J → Option (List Note)) → (J → ℕ) → Outside W C J
outside_of wires moments text told faults = record { seen = wires.seen; moments = moments; text = text; told = told; wires_faults = wires.faults; journal_faults = faults }

-- the pass is of the box at this place
abbrev pub IsRunnerAt : Shared → ℕ → RunnerPass → Type 0
IsRunnerAt shared place pass = (box : PostBox) → slice_get shared.posts.items place ≡ Some box → IsRunnerOf box pass

-- how it ended, once it has
abbrev pub end_of : {W C G J : Type 0} → Worker W C G J → Ended
end_of w = unwrap_or w.ended ended.Memory

module _ {W C G J : Type 0} (o : Outside W C J) where
  abbrev pub sides_at : Worker W C G J → Sides
  sides_at w = sides_of (o.moments w.clock) (hands.view w.pass.pass) (looks w.follower) w.follower.kept

  -- with the permits that are kept, and what their seat knows
  abbrev pub place_with : List ℕ → PermitSeat → Worker W C G J → Place
  place_with held seat w = place_of (o.text w.journal) (o.told w.journal) (o.seen w.wires) held (view seat)

  abbrev pub place_at : Worker W C G J → Place
  place_at w = place_with w.held w.seat w

  -- the worker that has the box at this place may run
  pub record IsReady (shared : Shared) (place : ℕ) (w : Worker W C G J) : Type 0 where
    pub has_box : place < length shared.posts.items
    pub core : RestsWire w.core.kind
    pub holds : Holds shared.permits w.seat w.held
    pub pass : IsRunnerAt shared place w.pass
    pub names : (o.seen w.wires).clusters ≡ length shared.names
    pub below : AreUpTo (o.seen w.wires).greatest w.held

  -- it is new: it has this box, and keeps no permit
  pub record IsNew (permits : Permits) (names : List (List ℕ)) (box : PostBox) (w : Worker W C G J) : Type 0 where
    pub core : RestsWire w.core.kind
    pub seat : IsSeatOf permits w.seat
    pub held : w.held ≡ []
    pub pass : IsRunnerOf box w.pass
    pub names_are : (o.seen w.wires).clusters ≡ length names

  -- it did one work, and then the permits that it kept were given back
  pub record Worked (shared : Shared) (place turns : ℕ) (old : Worker W C G J) (end : Ended) (new : Worker W C G J) : Type 0 where
    pub held : List ℕ
    pub seat : PermitSeat
    pub works : Works shared.names turns (sides_at old) old.core.kind (place_at old) end (sides_at new) new.core.kind (place_with held seat new)
    pub keeps : Keeps shared.permits (o.seen old.wires) old.held (view old.seat) (o.seen new.wires) held seat
    pub octets : InWorld end old.core.kind new.core.kind (o.seen old.wires) (o.seen new.wires) (o.told old.journal) (o.told new.journal)
    pub core : end ≢ ended.Memory → RestsWire new.core.kind
    pub pass : IsRunnerAt shared place new.pass
    pub none : new.held ≡ []
    pub given_back : view new.seat ≡ with_fewer (length held) 0 (view seat)
    pub is_seat : IsSeatOf shared.permits new.seat
    pub wires_fault : end ≡ ended.WiresFault → Rose (o.wires_faults old.wires) (o.wires_faults new.wires)
    pub journal_fault : end ≡ ended.JournalFault → Rose (o.journal_faults old.journal) (o.journal_faults new.journal)

  -- and it ended so
  abbrev pub HasWorked : Shared → ℕ → ℕ → Worker W C G J → Worker W C G J → Type 0
  HasWorked shared place turns old new = IsSomeAnd new.ended (λ end. Worked shared place turns old end new)

  -- each of them did, and ended so
  pub record WorkedEach (shared : Shared) (turns : ℕ) (old : List (Worker W C G J)) (ends : List Ended) (new : List (Worker W C G J)) : Type 0 where
    pub same : length new ≡ length old
    pub each_end : length ends ≡ length old
    pub each : (i : ℕ) (w : Worker W C G J) (e : Ended) → i < length old → Worked shared i turns (slice_index_or old i w) (slice_index_or ends i e) (slice_index_or new i w)
