-- What a shedder stands for, and what its calls do.
use Rattle.flow_notes.specs.declared.events.Event.{Event}
use Rattle.io_ports.specs.declared.octets.NoMemory.{NoMemory}
use Rattle.paged_map.specs.PagedMap.{value_at}
use Rattle.proxy_config.specs.declared.overload.Point.{Point}
use Rattle.proxy_config.specs.declared.overload.ShedRow.{ShedRow}
use Rattle.shed_points.specs.Shedding.{Became, Judged, events_of, shed_at, standing_of, state_after, sum_at, verdict_of}
use Rattle.shed_points.specs.declared.share.Share.{Share}
use Rattle.shed_points.specs.declared.shedder.Shedder.{Shedder}
use Rattle.shed_points.specs.declared.verdict.Verdict.{Verdict}
use Rattle.std.specs.Prelude.{Err, List, Ok, Result, ℕ, ◌%◌, ◌<◌, ◌^◌, ◌∷◌, ◌≡◌}
use Rattle.flow_notes.specs.declared.events.Event.TheVariants as event
use Rattle.proxy_config.specs.declared.overload.Point.TheVariants as point
use Rattle.shed_points.specs.declared.verdict.Verdict.TheVariants as verdict

abbrev pub share_at : Point → Shedder → Share
share_at point.Accept s = s.accept
share_at point.Read s = s.read
share_at point.Drain s = s.drain

-- The shedder of a shed table, behind these events: each point's state, its sum but for what was shed, the connections of clients that
-- are there, and how many drains were shed.
pub record ShedderIs (s : Shedder) (rows : List ShedRow) (js : List Judged) : Type 0 where
  pub rows_are : s.rows.items ≡ rows
  pub states_are : (p : Point) → (share_at p s).state ≡ state_after rows p (events_of js)
  pub rests_are : (p : Point) → (share_at p s).rest ≡ sum_at rows p js % 1000000
  pub clients_are : (c : ℕ) → value_at c s.clients ≡ standing_of c js
  pub posts_are : s.posts ≡ shed_at point.Drain js

-- the post that stands for a drain that was shed has a number, behind so many of them
abbrev pub IsNumbered : Verdict → ℕ → Type 0
IsNumbered (verdict.Shed point.Drain state) posts = posts < 2 ^ 63
IsNumbered v posts = Unit {0}

-- one event more has its verdict; after running out of memory all is as it was
abbrev pub JudgedAs : List ShedRow → List Judged → Event → Shedder → Result Verdict NoMemory → Type 0
JudgedAs rows js e new (Ok v) = (v ≡ verdict_of rows e js) × IsNumbered v (shed_at point.Drain js) × ShedderIs new rows (Became e v ∷ js)
JudgedAs rows js e new (Err x) = ShedderIs new rows js

pub record Judges (old : Shedder) (e : Event) (new : Shedder) (result : Result Verdict NoMemory) : Type 0 where
  pub goes : (rows : List ShedRow) (js : List Judged) → ShedderIs old rows js → JudgedAs rows js e new result

-- A connection is gone without an event of it: from then on the shedder stands as behind its loss.
pub record Forgets (old : Shedder) (c : ℕ) (new : Shedder) : Type 0 where
  pub goes : (rows : List ShedRow) (js : List Judged) → ShedderIs old rows js → ShedderIs new rows (Became (event.Gone c) (verdict_of rows (event.Gone c) js) ∷ js)
