use Rattle.wm_buffer.proofs.Flag.{IsAbove-from_flag, flag-from_IsAbove}
use Rattle.wm_buffer.proofs.Crossings.{Rises-from_high, high-from_Rises, Drains-from_low, low-from_Drains}
use Rattle.wm_buffer.proofs.watermark.flag_is_watermark.Goals as goal

pub returns-clause-above : goal.returns-clause-above
returns-clause-above c = λ l ns. (IsAbove-from_flag l ns, flag-from_IsAbove l ns)

pub returns-clause-high : goal.returns-clause-high
returns-clause-high c = λ l n past. (Rises-from_high l n past, high-from_Rises l n past)

pub returns-clause-low : goal.returns-clause-low
returns-clause-low c = λ l n past. (Drains-from_low l n past, low-from_Drains l n past)
