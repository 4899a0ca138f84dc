-- What a store of octets holds.
use Rattle.std.specs.Prelude.{List, ℕ, ◌+◌, ◌≤◌, drop, length, take}
use Rattle.std.specs.Arc.{arc_value}
use Rattle.io_ports.specs.declared.store.Store.{Store}
use Rattle.io_ports.specs.declared.store.Store.TheVariants.{Few, Own, Shared}

abbrev pub stored : Store → List ℕ
stored (Few len octets) = take len octets
stored (Own bytes) = bytes.items
stored (Shared block from len) = take len (drop from (arc_value block).items)

-- a block has as many octets as are named of it
abbrev pub Reaches : Store → Type 0
Reaches (Few len octets) = len ≤ length octets
Reaches (Own bytes) = Unit {0}
Reaches (Shared block from len) = from + len ≤ length (arc_value block).items
