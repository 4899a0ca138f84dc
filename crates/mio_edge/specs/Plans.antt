-- Addresses, and the files that connections take.
use Rattle.mio_edge.specs.declared.plan.Plan.{Plan}
use Rattle.mio_edge.specs.declared.plan.Sharing.{Sharing}
use Rattle.mio_edge.specs.declared.plan.Sharing.TheVariants as sharing
use Rattle.std.specs.Net.Grammar.{IsSocketText}
use Rattle.std.specs.Prelude.{List, None, Option, Some, length, ℕ, ◌*◌, ◌+◌}
use Rattle.std.specs.declared.net.socket_addr.SocketAddr.{SocketAddr}

-- no address is spelled so
abbrev pub SpellsNone : List ℕ → Type 0
SpellsNone text = (a : SocketAddr) → IsSocketText text a → ⊥

-- a client's file, and that of a connection that it has for itself
abbrev pub files_of_client : Sharing → ℕ
files_of_client sharing.OneEach = 2
files_of_client sharing.All = 1

-- those of clients, of connections that are ready, of 256 that part, and 16 others
abbrev pub files_of : Plan → ℕ
files_of p = p.clients * files_of_client p.sharing + p.ready * length p.clusters.items + 256 + 16

-- a connection of its own may take nothing for ever, and one that clients share for a minute
abbrev pub patience_of : Sharing → Option ℕ
patience_of sharing.OneEach = None
patience_of sharing.All = Some 60000
