-- What the loop beside the workers keeps.
use Rattle.overload_core.specs.ActionStates.{actions_at, is_saturated}
use Rattle.post_queue.specs.Clauses.{IsPosterOf}
use Rattle.post_queue.specs.declared.passes.PosterPass.{PosterPass}
use Rattle.post_queue.specs.declared.post_box.PostBox.{PostBox}
use Rattle.proxy_config.specs.declared.config.Config.{Config}
use Rattle.proxy_wire.specs.declared.leading.Leader.{Leader}
use Rattle.shared_state.specs.Entries.{padded}
use Rattle.shared_state.specs.States.{published, resources_of}
use Rattle.std.specs.Prelude.{List, [], length, not, slice_index_or, ℕ, ◌++◌, ◌<◌, ◌∷◌, ◌≡◌, ◌≤◌, ◌⊎◌}

-- there is one for each box, in their order
pub record ArePosters (boxes : List PostBox) (posters : List PosterPass) : Type 0 where
  pub same : length posters ≡ length boxes
  pub each : (i : ℕ) (b : PostBox) (p : PosterPass) → i < length boxes → IsPosterOf (slice_index_or boxes i b) (slice_index_or posters i p)

-- there is a pressure for each resource that it publishes
pub record Publishes (leader : Leader) : Type 0 where
  pub pressures : length leader.pressures ≡ resources_of leader.publisher
  pub few : length leader.pressures ≤ 16

-- and it posts to each of these boxes
pub record Leads (boxes : List PostBox) (leader : Leader) : Type 0 where
  pub publishes : Publishes leader
  pub posters : ArePosters boxes leader.posters.items

-- clients are accepted exactly where its pressures don't saturate `stop_accepting`
abbrev pub Accepts : Config → Leader → Type 0
Accepts config leader = leader.accepts ≡ not (is_saturated (actions_at config.overload.triggers leader.pressures).stop_accepting)

-- Nothing was published, and clients are accepted as before; or the pressures were, and by these clients are accepted.
abbrev pub Looks : Config → Leader → Leader → Type 0
Looks config old new =
    ((published new.publisher ≡ published old.publisher) × (new.accepts ≡ old.accepts))
    ⊎ ((published new.publisher ≡ published old.publisher ++ padded new.pressures ∷ []) × Accepts config new)
