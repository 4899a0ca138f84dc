-- The workers of an acceptor, and whose turn it is.
use Rattle.mio_accept.specs.declared.acceptor.Acceptor.{Acceptor}
use Rattle.std.specs.Prelude.{length, ℕ}

-- whatever its runtime is, with the types that its traits have
module _ {R X Y : Type 0} where
  abbrev pub workers : Acceptor R X Y → ℕ
  workers acceptor = length acceptor.lanes.items

  -- the place of the worker that gets the next client
  abbrev pub turn_of : Acceptor R X Y → ℕ
  turn_of acceptor = acceptor.next
