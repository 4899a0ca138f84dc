-- The words of the clauses on followers.
use Rattle.std.specs.Prelude.{◌≡◌, ℕ, List, [], cond, nat_lt, replicate}
use Rattle.std.specs.Arc.{arc_value}
use Rattle.proxy_config.specs.declared.overload.Trigger.{Trigger}
use Rattle.shared_state.specs.declared.version_word.Board.{Board}
use Rattle.shared_state.specs.declared.entries.Entry.{Entry}
use Rattle.shared_state.specs.declared.follower.Follower.{Follower}
use Rattle.shared_state.specs.declared.follower.Followers.{Followers}
use Rattle.shared_state.specs.declared.publisher.Told.{Told}
use Rattle.shared_state.specs.declared.version_word.VersionView.{VersionView}
use Rattle.shared_state.specs.Seen.{seen_by}
use Rattle.shared_state.specs.Version.{newcomer}

-- the pressures of versions 1, 2 and so on that the follower has seen
abbrev pub seen : Follower → List (List ℕ)
seen f = seen_by f.eye

-- what the follower's seat at the version word knows
abbrev pub looks : Follower → VersionView
looks f = f.seat.me.0

-- how many resources there are, and the triggers of the overload actions
abbrev pub resources_of : Follower → ℕ
resources_of f = (arc_value f.board).resources

abbrev pub triggers_of : Follower → List Trigger
triggers_of f = (arc_value f.board).config.overload.triggers

-- the two have one number and the same pressures
abbrev pub IsSameEntry : Entry → Entry → Type 0
IsSameEntry d e = (e.version ≡ d.version) × (e.pressures ≡ d.pressures)

-- nothing of it but what it has seen and kept has changed
abbrev pub IsSameFollower : Follower → Follower → Type 0
IsSameFollower f g = (g.board ≡ f.board) × (g.seat ≡ f.seat)

-- the one with the greater number, the first of two with the same
abbrev pub later_of : Entry → Entry → Entry
later_of d e = cond (nat_lt d.version e.version) e d

-- publisher and follower are of one `make_shared`
abbrev pub IsOf : Told → Follower → Type 0
IsOf t f = t.seat.table_id ≡ f.seat.table_id

-- it has seen and learnt nothing yet but version 0
abbrev pub IsNewFollower : Board → Follower → Type 0
IsNewFollower b f = (arc_value f.board ≡ b) × (f.kept.version ≡ 0) × (f.kept.pressures ≡ replicate 16 0) × (seen f ≡ []) × (looks f ≡ newcomer)

-- the followers that lie in a list
abbrev pub followers_in : Followers → List Follower
followers_in l = l.list.items
