-- Which lines a picture has.
use Rattle.std.specs.Prelude.{All, List, Some, ℕ, ◌++◌, ◌<◌, ◌≡◌, ◌⊎◌}
use Rattle.tape_laws.specs.Dispatches.{turns}
use Rattle.tape_laws.specs.History.{History, NoMark}
use Rattle.tape_plot.specs.Highest.{ArePicked, height_in, held_in, limit_of, most_from}
use Rattle.tape_plot.specs.Lanes.{Drawn, LaneIs, most_of}
use Rattle.tape_plot.specs.Path.{path_text}
use Rattle.tape_plot.specs.Said.{Said}
use Rattle.tape_plot.specs.Scale.{columns_of, top_of}
use Rattle.tape_plot.specs.declared.highest.Buffer.{Buffer}
use Rattle.tape_plot.specs.declared.choice.Lanes.{Lanes}
use Rattle.tape_plot.specs.declared.draw.line.Scene.{Scene}
use Rattle.tape_plot.specs.declared.highest.Buffer.TheVariants as buffer
use Rattle.tape_plot.specs.declared.choice.Lanes.TheVariants as lanes

-- the buffers that a choice asks for by name or with all others
abbrev pub AsksFor : Lanes → Buffer → Type 0
AsksFor lanes.Highest b = ⊥
AsksFor lanes.All b = Unit {0}
AsksFor (lanes.Named flow conn) (buffer.Place f p) = flow ≡ Some f
AsksFor (lanes.Named flow conn) (buffer.Write c) = conn ≡ Some c

-- a text has another in it
pub record Within (text part : List ℕ) : Type 0 where
  pub before : List ℕ
  pub after : List ℕ
  pub is : text ≡ before ++ (part ++ after)

-- the line of a lane is there: with columns as wide as those of its points, up to the last dispatch that is drawn, and against this limit
pub record HasLine (There : List ℕ → Type 0) (first end limit : ℕ) (d : Drawn) : Type 0 where
  pub scene : Scene
  pub columns : scene.frame.columns ≡ columns_of first end d.width
  pub top : scene.top ≡ top_of limit (most_of d.base d.points)
  pub there : There (path_text scene d.base d.points)

-- one that is level at 0 has none
abbrev pub IsDrawn : (List ℕ → Type 0) → ℕ → ℕ → ℕ → Drawn → Type 0
IsDrawn There first end limit d = (most_of d.base d.points ≡ 0) ⊎ HasLine There first end limit d

-- what a buffer holds from the first dispatch to the last of a tape is drawn, against the limit that its summary tells
pub record Shows (text : List ℕ) (b : Buffer) (first : ℕ) (h : History NoMark) (said : List Said) : Type 0 where
  pub lane : Drawn
  pub stands : LaneIs lane (held_in b) first h
  pub drawn : IsDrawn (Within text) first (turns h) (limit_of b h said) lane

-- the buffer held an octet in a dispatch that is drawn, or just before the first
abbrev pub WasFilled : ℕ → History NoMark → Buffer → Type 0
WasFilled first h b = 0 < most_from (held_in b) first h

-- Where none are named: the highest of the buffers that held an octet are drawn.
pub record ShowsHighest (text : List ℕ) (first : ℕ) (h : History NoMark) (said : List Said) : Type 0 where
  pub picked : List Buffer
  pub are : ArePicked (λ b. height_in b first h said) (WasFilled first h) picked
  pub shown : All (λ b. Shows text b first h said) picked

-- what a picture shows by a choice
pub record ShowsBuffers (text : List ℕ) (choice : Lanes) (first : ℕ) (h : History NoMark) (said : List Said) : Type 0 where
  pub asked : (b : Buffer) → AsksFor choice b → Shows text b first h said
  pub highest : choice ≡ lanes.Highest → ShowsHighest text first h said
