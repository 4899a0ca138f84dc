-- What tracks stand for: what is kept of each flow and buffer, which stands at one place.
use Rattle.tape_summary.specs.Tracking.{Lone, track_of}
use Rattle.tape_summary.specs.declared.pauses.Spot.{Spot}
use Rattle.tape_summary.specs.declared.track.Track.{Track}
use Rattle.tape_summary.specs.declared.tracks.Tracks.{Tracks}
use Rattle.std.specs.BTreeMap.{get}
use Rattle.std.specs.Ordering.{is_eq}
use Rattle.std.specs.Prelude.{List, None, Option, Some, false, length, slice_get, ℕ, ◌≡◌}
use Rattle.std.specs.declared.cmp.Ordering.{Ordering}
use Rattle.tape_summary.specs.contracts.pauses.SpotOrd.TheImpl as spot_ord

-- the order of the map
abbrev pub spot_cmp : Spot → Spot → Ordering
spot_cmp = (spot_ord.ghosts).cmp

abbrev pub track_at : List Track → Option ℕ → Option Track
track_at ts None = None
track_at ts (Some i) = slice_get ts i

-- what is kept of a flow and buffer
abbrev pub kept_of : Tracks → Spot → Lone
kept_of t s = track_of (track_at t.tracks.items (get spot_cmp t.places s))

-- a flow and buffer stands at the place that the map has of it, and nowhere else
pub record ArePlaced (t : Tracks) : Type 0 where
  pub long : length t.tracks.items ≡ length t.spots.items
  pub placed : (i : ℕ) (s : Spot) → slice_get t.spots.items i ≡ Some s → get spot_cmp t.places s ≡ Some i
  pub found : (s : Spot) (i : ℕ) → get spot_cmp t.places s ≡ Some i → slice_get t.spots.items i ≡ Some s

-- a flow and buffer has this place, and what is kept is as before
pub record PlacedAt (old : Tracks) (k : Spot) (i : ℕ) (new : Tracks) : Type 0 where
  pub placed : ArePlaced new
  pub here : get spot_cmp new.places k ≡ Some i
  pub kept : (s : Spot) → kept_of new s ≡ kept_of old s

pub record Places (old : Tracks) (k : Spot) (i : ℕ) (new : Tracks) : Type 0 where
  pub goes : ArePlaced old → PlacedAt old k i new

-- it had no place before
pub record Adds (old : Tracks) (k : Spot) (i : ℕ) (new : Tracks) : Type 0 where
  pub goes : ArePlaced old → get spot_cmp old.places k ≡ None → PlacedAt old k i new

-- what is kept of one flow and buffer changes like this, and of no other
pub record ChangedAt (old : Tracks) (k : Spot) (Change : Lone → Lone → Type 0) (new : Tracks) : Type 0 where
  pub placed : ArePlaced new
  pub here : Change (kept_of old k) (kept_of new k)
  pub others : (s : Spot) → is_eq (spot_cmp k s) ≡ false → kept_of new s ≡ kept_of old s

pub record Changes (old : Tracks) (k : Spot) (Change : Lone → Lone → Type 0) (new : Tracks) : Type 0 where
  pub goes : ArePlaced old → ChangedAt old k Change new
