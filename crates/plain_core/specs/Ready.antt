-- Which exchange of a connection has its turn.
use Rattle.std.specs.BTreeMap.{get}
use Rattle.std.specs.Ordering.{nat_cmp}
use Rattle.std.specs.Prelude.{Bool, IsSome, None, Option, Some, false, true, ℕ, ◌<◌, ◌≡◌, ◌≤◌, ◌⊎◌}
use Rattle.wm_buffer.specs.Buffer.{empty_buffer}
use Rattle.plain_core.specs.declared.conn.Connection.{Connection}
use Rattle.plain_core.specs.declared.flows.NextFrame.{NextFrame}

pub record IsNewConnection (limit : ℕ) (conn : Connection) : Type 0 where
  pub write : conn.write ≡ empty_buffer limit
  pub framed_last : conn.framed_last ≡ 0
  pub ready : (x : ℕ) → get nat_cmp conn.ready x ≡ None

-- the exchange is ready
abbrev pub is_ready_on : Connection → ℕ → Type 0
is_ready_on conn x = IsSome (get nat_cmp conn.ready x)

-- it is ready with this unit
abbrev pub IsReadyWith : Connection → NextFrame → Type 0
IsReadyWith conn next = get nat_cmp conn.ready next.exchange ≡ Some (record { n = next.n; last = next.last })

-- whether none is ready
pub record IsIdle (conn : Connection) (answer : Bool) : Type 0 where
  pub none : answer ≡ true → (x : ℕ) → get nat_cmp conn.ready x ≡ None
  pub some : answer ≡ false → ((x : ℕ) → get nat_cmp conn.ready x ≡ None) → ⊥

-- the least of the ready ones above a number
pub record IsLeastAbove (conn : Connection) (last : ℕ) (next : NextFrame) : Type 0 where
  pub ready : IsReadyWith conn next
  pub after : last < next.exchange
  pub least : (y : ℕ) → is_ready_on conn y → last < y → next.exchange ≤ y

abbrev pub IsFirstAbove : Connection → ℕ → Option NextFrame → Type 0
IsFirstAbove conn last (Some next) = IsLeastAbove conn last next
IsFirstAbove conn last None = (y : ℕ) → is_ready_on conn y → y ≤ last

-- the least of all
pub record IsLeast (conn : Connection) (next : NextFrame) : Type 0 where
  pub ready : IsReadyWith conn next
  pub least : (y : ℕ) → is_ready_on conn y → next.exchange ≤ y

abbrev pub IsFirst : Connection → Option NextFrame → Type 0
IsFirst conn (Some next) = IsLeast conn next
IsFirst conn None = (y : ℕ) → get nat_cmp conn.ready y ≡ None

-- the first one above that framed last, or else the first
abbrev pub IsNext : Connection → Option NextFrame → Type 0
IsNext conn (Some next) = IsLeastAbove conn conn.framed_last next ⊎ (((y : ℕ) → is_ready_on conn y → y ≤ conn.framed_last) × IsLeast conn next)
IsNext conn None = (y : ℕ) → get nat_cmp conn.ready y ≡ None
