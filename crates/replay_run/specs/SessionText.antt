-- The text of a whole session, its events in their order.
use Rattle.flow_notes.specs.Event.{event_spelling}
use Rattle.flow_notes.specs.Line.{newline}
use Rattle.flow_notes.specs.declared.events.Event.{Event}
use Rattle.session_lines.specs.Seen.{header_line, limits_line}
use Rattle.std.specs.Prelude.{List, None, Option, Some, [], codes, ℕ, ◌++◌, ◌∷◌}
use Rattle.tape_laws.specs.declared.PlainLimits.{PlainLimits}
use Rattle.session_lines.specs.declared.order.Format.TheVariants as format

abbrev pub event_text_lines : List (List ℕ) → List Event → List ℕ
event_text_lines names [] = []
event_text_lines names (e ∷ es) = (event_spelling names e ++ newline) ++ event_text_lines names es

-- header and limits of a plain session
abbrev pub limits_lines : PlainLimits → List ℕ
limits_lines l = (header_line format.Two ++ newline) ++ (limits_line format.Two l ++ newline)

-- a plain session is written in format 2
abbrev pub head_lines : Option PlainLimits → List ℕ
head_lines None = codes "h2replay-session 1 wire" ++ newline
head_lines (Some l) = limits_lines l

abbrev pub session_spelling : Option PlainLimits → List (List ℕ) → List Event → List ℕ
session_spelling plain names es = head_lines plain ++ event_text_lines names es
