-- What writing a relay's summary does to a text.
use Rattle.relay_laws.specs.Pairs.{Tape}
use Rattle.relay_laws.specs.Report.{relay_summary}
use Rattle.relay_run.specs.Logs.{RelayLogIs}
use Rattle.relay_run.specs.Writes.{kept_level}
use Rattle.relay_run.specs.declared.relay_log.RelayLog.{RelayLog}
use Rattle.relay_run.specs.declared.write_log.WriteLog.{WriteLog}
use Rattle.std.specs.BTreeMap.{get}
use Rattle.std.specs.Fmt.{decimal}
use Rattle.std.specs.Ordering.{nat_cmp}
use Rattle.std.specs.Prelude.{List, [], codes, flat_map, ℕ, ◌++◌, ◌∷◌, ◌≡◌}
use Rattle.tape_laws.specs.Report.{peak_line}

-- the line of a connection's peak, where its write buffer ever held an octet
abbrev pub logged_peak : WriteLog → ℕ → List ℕ
logged_peak log c = peak_line (codes "write" ∷ decimal c ∷ []) log.limit (kept_level (get nat_cmp log.levels c)).most

abbrev pub logged_peaks : WriteLog → List ℕ
logged_peaks log = flat_map (logged_peak log) log.conns.items

-- the summary of the tape that the log stands for
pub record SumsLog (log : RelayLog) (text : List ℕ) : Type 0 where
  pub goes : (limit : ℕ) (h : Tape) → RelayLogIs limit log h → text ≡ relay_summary limit h

-- it stands behind the text
pub record Summarizes (log : RelayLog) (old new : List ℕ) : Type 0 where
  pub added : List ℕ
  pub is : new ≡ old ++ added
  pub sums : SumsLog log added
