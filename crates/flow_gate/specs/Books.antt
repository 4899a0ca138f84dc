-- What a flow watches.
use Rattle.flow_gate.specs.declared.watcher.Watch.{Watch}
use Rattle.std.specs.Prelude.{List, [], if◌then◌else◌, length, nat_lt, take, ℕ, ◌<◌, ◌≡◌, ◌≤◌}

-- the watches in the order in which they began, and how many there is room for
pub record Books : Type 0 where
  pub watches : List Watch
  pub room : ℕ

-- up to two stand in the books, and more in a block, which has room for this many
abbrev pub books_of : ℕ → List Watch → List Watch → ℕ → Books
books_of len few many room = record {
  watches = if nat_lt 2 len then many else take len few;
  room = if nat_lt len 2 then 2 else room;
}

pub record AreBooks (len : ℕ) (few many : List Watch) : Type 0 where
  pub pair : length few ≡ 2
  pub none : len ≤ 2 → many ≡ []
  pub all : 2 < len → length many ≡ len
