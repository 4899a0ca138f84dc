-- A request that gets its stream at the connection to its cluster.
use Rattle.std.specs.Prelude.{IfSome, None, Some, ℕ, ◌≡◌}
use Rattle.wire_links.specs.Links.{Links, ends_of}

-- it goes to this connection, and has no stream there
pub record IsUnframed (conn : ℕ) (x : ℕ) (links : Links) : Type 0 where
  pub stream : IfSome (ends_of x links) (λ e. e.cluster_stream ≡ None)
  pub goes : IfSome (ends_of x links) (λ e. e.cluster ≡ Some conn)
