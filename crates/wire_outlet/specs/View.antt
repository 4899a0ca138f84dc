-- The fields of an outlet as the value that contracts see, and the write buffer that it lends.
use Rattle.std.specs.Borrow.{Fml, Lends, MutBor}
use Rattle.wire_outlet.specs.Outgoing.{Outgoing}
use Rattle.wire_outlet.specs.contracts.outlet.Outlet.{the_row}
use Rattle.wm_buffer.specs.Buffer.{Buffer}
use Rattle.wm_buffer.specs.contracts.buffer.WatermarkBuffer.{the_row as buffer_row}

-- what is left behind the write buffer is that of the outlet
abbrev pub LendsWrite : MutBor Outgoing → MutBor Buffer → Fml
LendsWrite s r = Lends the_row buffer_row s r (λ w. record s.now { write = w })
