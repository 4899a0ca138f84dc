-- Whether a connection is open once it was written through.
use Rattle.std.proofs.Common.{ap, sym, ◌∙◌}
use Rattle.paged_map.specs.PagedMap.{PagedMap, WritesThrough, value_at}
use Rattle.std.specs.Option.{option_map_or}
use Rattle.std.specs.Prelude.{Option, Some, false, ℕ, ◌≡◌}
use Rattle.wire_state.proofs.Held.{number_same}
use Rattle.wire_state.proofs.Standing.{there_now}
use Rattle.wire_state.specs.declared.conn.Conn.{Conn}

pub open_stays : (n : ℕ) (old new : PagedMap Conn) (v w : Conn) → value_at n old ≡ Some v → WritesThrough n old w new → w.open ≡ v.open
    → option_map_or (λ conn. conn.open) (value_at n new) false ≡ option_map_or (λ conn. conn.open) (value_at n old) false
open_stays n old new v w found written opened =
    ap (λ (o : Option Conn). option_map_or (λ conn. conn.open) o false) (there_now n old new v w found written n (number_same n))
    ∙ (opened ∙ sym (ap (λ (o : Option Conn). option_map_or (λ conn. conn.open) o false) found))
