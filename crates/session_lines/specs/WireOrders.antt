-- What the order of a wire session stands for: its events so far, newest first.
use Rattle.flow_notes.specs.declared.events.Event.{Event}
use Rattle.io_ports.specs.declared.octets.NoMemory.{NoMemory}
use Rattle.session_lines.specs.Courses.{greatest_of}
use Rattle.session_lines.specs.WireOrder.{gone, is_there, may_follow_wire, named, obeyed, posts_of}
use Rattle.session_lines.specs.declared.wire_order.WireOrder.{WireOrder}
use Rattle.std.specs.BTreeMap.{get}
use Rattle.std.specs.BTreeSet.{contains}
use Rattle.std.specs.Ordering.{nat_cmp}
use Rattle.std.specs.Prelude.{Bool, Err, List, None, Ok, Option, Result, Some, false, true, ℕ, ◌∷◌, ◌≡◌}
use Rattle.tape_laws.specs.Dispatches.{has}

-- how many posts are kept of a poster
abbrev pub kept_posts : Option ℕ → ℕ
kept_posts None = 0
kept_posts (Some n) = n

pub record WireOrderIs (order : WireOrder) (resources : ℕ) (es : List Event) : Type 0 where
  pub resources_are : order.resources ≡ resources
  pub greatest_is : order.greatest ≡ greatest_of (named es)
  pub there_are : (c : ℕ) → contains nat_cmp order.there c ≡ is_there es c
  pub posts_are : (p : ℕ) → kept_posts (get nat_cmp order.posts p) ≡ posts_of p es
  pub version_is : order.version ≡ greatest_of (obeyed es)
  -- a connection that never came isn't gone
  pub fresh : (c : ℕ) → has (named es) c ≡ false → has (gone es) c ≡ false

-- an event that may follow has followed; one that may not leaves all as it was
abbrev pub FollowsWireAt : ℕ → List Event → Event → WireOrder → Result Bool NoMemory → Type 0
FollowsWireAt resources es e new (Ok true) = (may_follow_wire resources es e ≡ true) × WireOrderIs new resources (e ∷ es)
FollowsWireAt resources es e new (Ok false) = (may_follow_wire resources es e ≡ false) × WireOrderIs new resources es
FollowsWireAt resources es e new (Err x) = WireOrderIs new resources es

pub record FollowsWire (old : WireOrder) (e : Event) (new : WireOrder) (result : Result Bool NoMemory) : Type 0 where
  pub goes : (resources : ℕ) (es : List Event) → WireOrderIs old resources es → FollowsWireAt resources es e new result
