-- How much the buffers of a plain session hold, and the most that they ever held.
use Rattle.flow_rules.specs.declared.ids.BufferId.{BufferId}
use Rattle.flow_notes.specs.declared.notes.Note.{Note}
use Rattle.tape_summary.specs.declared.level.Level.{Level}
use Rattle.std.specs.Prelude.{if◌then◌else◌, max, ℕ, ◌+◌, ◌-◌, ◌==◌, ◌∷◌, ◌≡◌}
use Rattle.tape_laws.specs.History.{History, NoMark, Noted}
use Rattle.tape_laws.specs.Plain.{plain_setup}
use Rattle.tape_laws.specs.PlainTape.{IsPlainLawful}
use Rattle.tape_laws.specs.Summary.{peak}
use Rattle.tape_laws.specs.World.{len}
use Rattle.tape_laws.specs.declared.PlainLimits.{PlainLimits}
use Rattle.flow_rules.specs.declared.ids.BufferId.TheVariants as buffer

-- the level of a buffer after a history
abbrev pub level_of : PlainLimits → BufferId → History NoMark → Level
level_of limits b h = record { held = len (plain_setup limits) b h; most = peak (plain_setup limits) b h }

abbrev pub no_level : Level
no_level = record { held = 0; most = 0 }

-- n octets came, n left, or all did
abbrev pub risen : Level → ℕ → Level
risen l n = record { held = l.held + n; most = max l.most (l.held + n) }

abbrev pub fallen : Level → ℕ → Level
fallen l n = record { held = l.held - n; most = l.most }

abbrev pub emptied : Level → Level
emptied l = record { held = 0; most = l.most }

-- what counts for connection 0
abbrev pub on_first : ℕ → ℕ → ℕ
on_first c n = if c == 0 then n else 0

-- the level of the write buffer goes on with the note
pub record WriteGoes (old : Level) (n : Note) (new : Level) : Type 0 where
  pub goes : (limits : PlainLimits) (h : History NoMark) → IsPlainLawful limits (Noted n ∷ h)
      → old ≡ level_of limits (buffer.Write 0) h → new ≡ level_of limits (buffer.Write 0) (Noted n ∷ h)
