-- The connections of a tape: what a step leaves, and what it changes.
use Rattle.flow_notes.specs.declared.notes.Note.{Note}
use Rattle.relay_laws.specs.Pairs.{Tape, feed, free, is_open, opposite, pairs}
use Rattle.relay_laws.specs.Watermark.{above}
use Rattle.relay_laws.specs.World.{out}
use Rattle.relay_laws.specs.Sound.{IsSound}
use Rattle.relay_laws.specs.declared.Feed.{Feed}
use Rattle.std.proofs.Common.{ap, refl, sym, ◌∙◌}
use Rattle.std.specs.Prelude.{Bool, List, None, Option, Some, [], drop, false, filter, if◌then◌else◌, length, min, nat_lt, not, option_map, true, ℕ, ◌&&◌, ◌++◌, ◌==◌, ◌∷◌, ◌≡◌}
use Rattle.tape_laws.specs.History.{NoMark, Noted, Step, onto}
use Rattle.tcp_relay.proofs.Flags.{above_same}
use Rattle.tcp_relay.proofs.Shapes.{close_if, resume_if}
use Rattle.tcp_relay.proofs.Tests.{by_case, if_false, if_true}
use Rattle.tcp_relay.specs.Board.{Board, IsSeenAs, put}
use Rattle.tcp_relay.specs.Lines.{added, dropped, fed, feeds_of, holding}
use Rattle.tcp_relay.specs.Stands.{line_if, line_of, tape_board}
use Rattle.wm_buffer.specs.Watermark.{above_after}
use Rattle.flow_rules.specs.declared.ids.BufferId.TheVariants as buffer
use Rattle.flow_notes.specs.declared.notes.CloseCause.TheVariants as closed
use Rattle.flow_notes.specs.declared.notes.Note.TheVariants as note

pub seen_same : (a b : Board) → IsSeenAs a b → a ≡ b
seen_same a b s = λ i. record { limit = s.limit i; pairs = s.pairs i; free = s.free i; lines = λ c. s.lines c i; waits = λ c. s.waits c i }

-- ---- one connection
pub added_if : (octets : List ℕ) (o : Bool) (x : List ℕ) (l : ℕ) (a : Bool) (f : Option Feed)
    → option_map (added octets) (line_if o x l a f) ≡ line_if o (x ++ octets) l (above_after l a (length (x ++ octets))) f
added_if octets true x l a f = refl
added_if octets false x l a f = refl

pub fed_if : (g : Option Feed) (o : Bool) (x : List ℕ) (l : ℕ) (a : Bool) (f : Option Feed)
    → option_map (fed g) (line_if o x l a f) ≡ line_if o x l a g
fed_if g true x l a f = refl
fed_if g false x l a f = refl

pub dropped_if : (n : ℕ) (o : Bool) (x : List ℕ) (l : ℕ) (a : Bool) (f : Option Feed) → (min n (length x) == 0) ≡ false
    → option_map (dropped n) (line_if o x l a f) ≡ line_if o (drop (min n (length x)) x) l (above_after l a (length (drop (min n (length x)) x))) f
dropped_if n true x l a f e =
    ap (λ b. Some (if b then record { octets = x; limit = l; above = a; feeds = f } else holding (drop (min n (length x)) x) (record { octets = x; limit = l; above = a; feeds = f }))) e
dropped_if n false x l a f e = refl

-- what it feeds, where a closed one feeds nothing
pub feeds_seen : (limit c : ℕ) (h : Tape) → IsSound h → feeds_of (line_of limit c h) ≡ feed c h
feeds_seen limit c h s = by_case (is_open c h)
    (λ e. ap (λ o. feeds_of (line_if o (out c h) limit (above limit c h) (feed c h))) e)
    (λ e. ap (λ o. feeds_of (line_if o (out c h) limit (above limit c h) (feed c h))) e ∙ sym (s.done c e).feed)

module _ (limit : ℕ) (step : Step NoMark) (h : Tape) where
  -- a step that leaves what is known of a connection
  pub line_same : (d : ℕ) → is_open d (step ∷ h) ≡ is_open d h → out d (step ∷ h) ≡ out d h → feed d (step ∷ h) ≡ feed d h
      → line_of limit d (step ∷ h) ≡ line_of limit d h
  line_same d o x f = λ i. line_if (o i) (x i) limit (above_same limit d step h x i) (f i)

  -- and of all
  pub board_same : pairs (step ∷ h) ≡ pairs h → free (step ∷ h) ≡ free h → ((d : ℕ) → is_open d (step ∷ h) ≡ is_open d h)
      → ((d : ℕ) → out d (step ∷ h) ≡ out d h) → ((d : ℕ) → feed d (step ∷ h) ≡ feed d h)
      → tape_board limit (step ∷ h) ≡ tape_board limit h
  board_same p f o x g = seen_same _ _ (record {
    limit = refl;
    pairs = p;
    free = f;
    lines = λ d. line_same d (o d) (x d) (g d);
    waits = λ d. ap (λ (v : List ℕ). nat_lt 0 (length v)) (x d);
  })

-- ---- a connection is closed for which nothing waits
abbrev pub close_at : ℕ → Board → Board
close_at c b = record b { free = filter (λ e. not (e == c)) b.free; lines = put c None b.lines }

module _ (limit c : ℕ) (h : Tape) where
  closed_line : (d : ℕ) → line_of limit d (Noted (note.Close c 0 closed.Drained) ∷ h) ≡ put c None (λ e. line_of limit e h) d
  closed_line d = by_case (c == d)
      (λ t. ap (λ b. line_if (not b && is_open d h) (out d h) limit (above limit d (Noted (note.Close c 0 closed.Drained) ∷ h)) (feed d h)) t
      ∙ sym (if_true (c == d) None (line_of limit d h) t))
      (λ n. line_same limit (Noted (note.Close c 0 closed.Drained)) h d (ap (λ b. not b && is_open d h) n) refl refl
      ∙ sym (if_false (c == d) None (line_of limit d h) n))

  pub board_closed : tape_board limit (Noted (note.Close c 0 closed.Drained) ∷ h) ≡ close_at c (tape_board limit h)
  board_closed = seen_same _ _ (record { limit = refl; pairs = refl; free = refl; lines = closed_line; waits = λ d. refl })

-- it is closed, or not
pub board_close_if : (limit c : ℕ) (b : Bool) (h : Tape) → tape_board limit (onto (close_if b c) h) ≡ (if b then close_at c (tape_board limit h) else tape_board limit h)
board_close_if limit c true h = board_closed limit c h
board_close_if limit c false h = refl

-- a resume changes none of this
pub board_resumed : (limit c : ℕ) (b : Bool) (o : Option Feed) (h : Tape) → tape_board limit (onto (resume_if b o c) h) ≡ tape_board limit h
board_resumed limit c b None h = refl
board_resumed limit c true (Some f) h = board_same limit (Noted (note.Resume (opposite f.flow) (buffer.Write c))) h refl refl (λ d. refl) (λ d. refl) (λ d. refl)
board_resumed limit c false (Some f) h = refl

pub onto_append : (ms ns : List Note) (h : Tape) → onto (ms ++ ns) h ≡ onto ns (onto ms h)
onto_append [] ns h = refl
onto_append (m ∷ ms) ns h = onto_append ms ns (Noted m ∷ h)
