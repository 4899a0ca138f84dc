-- How the tokens are kept.
use Rattle.std.specs.Prelude.{◌≡◌, ℕ, ◌<◌, ◌==◌, ◌&&◌, Bool, IsSome, None, Option, Some, List, [], ◌++◌, length, map, slice_index_or}
use Rattle.std.specs.Mem.{manually_drop_value}
use Rattle.std.specs.declared.mem.ManuallyDrop.{ManuallyDrop}
use Rattle.paged_map.specs.PagedMap.{PagedMap, value_at}
use Rattle.std.specs.Map.{lookup}
use Rattle.std.specs.List.{AllByRecursion, IsDistinct, sum_by}
use Rattle.link_lists.specs.Places.{same_ptr}
use Rattle.link_lists.specs.Lists.{NodeId}
use Rattle.scaled_timer.specs.declared.timers.TimerKind.{TimerKind}
use Rattle.scaled_timer.specs.Due.{Armed as Token}
use Rattle.scaled_timer.specs.declared.fired.Fired.{Fired}
use Rattle.scaled_timer.specs.Timing.{Timing, firing, names_of}
use Rattle.wire_timers.specs.declared.tokens.Tokens.{Tokens}
use Rattle.wire_timers.specs.Kinds.{kind_of}
use Rattle.wire_timers.specs.Armed.{Armed, Timeouts}

-- the number of a timer's kind, and the exchange or the connection that it is for
abbrev pub Key : Type 0
Key = ℕ × ℕ

abbrev pub key_of : Token → Key
key_of a = (a.kind, a.id)

abbrev pub same_key : Key → Key → Bool
same_key p q = (p.0 == q.0) && (p.1 == q.1)

-- a place for a token, which may be blank
abbrev pub Place : Type 0
Place = Option (ManuallyDrop NodeId)

-- the token in a place
abbrev pub token_in : Option Place → Option NodeId
token_in None = None
token_in (Some None) = None
token_in (Some (Some token)) = Some (manually_drop_value token)

-- the places of a kind by number
abbrev pub places_of : Tokens → ℕ → PagedMap Place
places_of tokens kind = slice_index_or tokens.by_kind kind (record { entries = [] })

-- the token of each key
abbrev pub find_in : Tokens → Key → Option NodeId
find_in tokens q = token_in (value_at q.1 (places_of tokens q.0))

-- there is a place for this kind and this number
abbrev pub HasPlace : ℕ → ℕ → Tokens → Type 0
HasPlace kind id tokens = IsSome (value_at id (places_of tokens kind))

-- how many places there are
abbrev pub places : Tokens → ℕ
places tokens = sum_by (λ (m : PagedMap Place). length m.entries) tokens.by_kind

-- what is seen of a timer that `scaled_timer` keeps
abbrev pub armed_of : Token → Armed
armed_of a = record { kind = kind_of a.kind; id = a.id; at = a.at }

abbrev pub seen : Timing → Timeouts
seen t = record { kinds = t.kinds; state = t.state; latest = t.latest; armed = map armed_of t.armed }

-- each timer's name by its key
abbrev pub entries : List Token → List (Key × NodeId)
entries armed = map (λ a. (key_of a, a.timer)) armed

-- timers of known kinds, of which no two have one key or one name, are found by their keys, and nothing else is
pub record Found (find : Key → Option NodeId) (armed : List Token) : Type 0 where
  pub same : (q : Key) → find q ≡ lookup (same_key q) (entries armed)
  pub known : AllByRecursion (λ (a : Token). a.kind < 3) armed
  pub apart : IsDistinct same_key (map key_of armed)
  pub named : IsDistinct same_ptr (names_of armed)

-- the token of each armed timer is held, and no other
pub record Held (own : List TimerKind) (find : Key → Option NodeId) (t : Timing) : Type 0 where
  pub kinds : t.kinds ≡ own
  pub none_fired : t.fired ≡ []
  pub found : Found find t.armed

-- these timers have fired, and their tokens are still held beside those of the armed ones
pub record Spent (find : Key → Option NodeId) (t : Timing) (fired : List Fired) : Type 0 where
  pub due : List Token
  pub told : fired ≡ map firing due
  pub names : t.fired ≡ names_of due
  pub found : Found find (due ++ t.armed)
