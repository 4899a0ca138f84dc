-- What connections weigh together.
use Rattle.std.proofs.Common.{sym}
use Rattle.std.proofs.lemmas.Map.Entries.{sum_by-set_value}
use Rattle.std.specs.BTreeMap.{is_at}
use Rattle.std.specs.Map.{lookup, set_value}
use Rattle.std.specs.Ordering.{nat_cmp}
use Rattle.std.specs.Prelude.{List, Some, ℕ, ◌+◌, ◌≡◌}
use Rattle.wire_state.specs.Progress.{conn_go, conns_go}
use Rattle.wire_state.specs.declared.conn.Conn.{Conn}

-- one connection changed
pub conn_changed : (n : ℕ) (old new : List (ℕ × Conn)) (v w : Conn) → Some v ≡ lookup (is_at (nat_cmp n)) old → new ≡ set_value (is_at (nat_cmp n)) old w
    → conns_go new + conn_go v ≡ conns_go old + conn_go w
unfolding conns_go
conn_changed n old new v w found is = rw is (sum_by-set_value conn_go (is_at (nat_cmp n)) old v w (sym found))
