-- The two formats of a plain session's text.
use Rattle.flow_notes.specs.Line.{newline}
use Rattle.flow_notes.specs.declared.events.Event.{Event}
use Rattle.replay_run.specs.SeenTape.{IsSeen}
use Rattle.session_lines.specs.Seen.{Playing, header_line, seen_text}
use Rattle.replay_run.specs.SessionText.{session_spelling}
use Rattle.std.specs.Fmt.{decimal}
use Rattle.std.specs.Prelude.{List, Some, codes, reverse, ℕ, ◌++◌, ◌≡◌, ◌↔◌}
use Rattle.tape_laws.specs.declared.PlainLimits.{PlainLimits}
use Rattle.session_lines.specs.declared.order.Format.TheVariants as format

-- a text of format 1, by its limits line and the lines behind it
abbrev pub in_one : List ℕ → List ℕ → List ℕ
in_one limits events = (header_line format.One ++ newline) ++ (limits ++ newline) ++ events

-- the same in format 2, where the limits name the quantum too
abbrev pub in_two : List ℕ → List ℕ → List ℕ
in_two limits events = (header_line format.Two ++ newline) ++ ((limits ++ (codes " " ++ decimal 16384)) ++ newline) ++ events

-- Both texts spell these limits and events, and the one in format 2 is what is written of them. Events stand newest first.
pub record InBothFormats (l : PlainLimits) (es : List Event) : Type 0 where
  pub allowed : IsSeen (Playing format.One l es) ↔ IsSeen (Playing format.Two l es)
  pub limits : List ℕ
  pub events : List ℕ
  pub one : seen_text (Playing format.One l es) ≡ in_one limits events
  pub two : seen_text (Playing format.Two l es) ≡ in_two limits events
  pub written : (names : List (List ℕ)) → IsSeen (Playing format.Two l es) → session_spelling (Some l) names (reverse es) ≡ seen_text (Playing format.Two l es)

-- a text of format 1 has the quantum 16,384
pub record IsQuantumOfOne (l : PlainLimits) (es : List Event) : Type 0 where
  pub quantum : IsSeen (Playing format.One l es) → l.quantum ≡ 16384
