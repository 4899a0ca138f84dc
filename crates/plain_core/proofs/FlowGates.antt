-- What the gates stand for where no stream begins or is doomed.
use Rattle.flow_gate.specs.Board.{Board, IsSound as IsSoundBoard, count as count_on, is_known, is_marked, is_open as is_there, pending_on, watchers_of}
use Rattle.flow_gate.specs.Changes.{Same}
use Rattle.flow_rules.specs.declared.ids.FlowId.{FlowId}
use Rattle.plain_laws.proofs.Counts.{is_live_is}
use Rattle.std.proofs.Common.{refl, sym, ◌∙◌}
use Rattle.std.specs.Prelude.{[], ℕ, ◌≡◌}
use Rattle.plain_laws.specs.Words.{Past, Alive, conn_high, conn_lows, send_high}
use Rattle.tape_laws.specs.Dispatches.{live}
use Rattle.tape_laws.specs.Flows.{request}
use Rattle.tape_laws.specs.Pauses.{count}
use Rattle.tape_laws.specs.Plain.{plain_setup}
use Rattle.tape_laws.specs.Sources.{is_live}
use Rattle.tape_laws.specs.declared.PlainLimits.{PlainLimits}
use Rattle.plain_core.specs.Flows.{GatesAre}
use Rattle.flow_rules.specs.declared.ids.BufferId.TheVariants as buffer

-- the flows and buffers that the gates know are the same, and who watches
pub record KeepsNames (old new : Board) : Type 0 where
  pub flows : Same is_there old new
  pub buffers : Same is_known old new
  pub watchers : Same watchers_of old new

-- the marks, counts and pending lows are those of the history
pub record CountsAre (limits : PlainLimits) (board : Board) (h : Past) : Type 0 where
  pub counts : (x : ℕ) → Alive h x → count_on board (request x) ≡ count (request x) h
  pub write_mark : is_marked board (buffer.Write 0) ≡ conn_high limits h
  pub write_pending : pending_on board (buffer.Write 0) ≡ conn_lows limits h
  pub send_mark : (x : ℕ) → is_marked board (buffer.Send (request x)) ≡ send_high limits x h
  pub send_pending : (x : ℕ) → pending_on board (buffer.Send (request x)) ≡ []

pub same_names : (board : Board) → KeepsNames board board
same_names board = record { flows = λ f. refl; buffers = λ b. refl; watchers = λ b. refl }

live_flow : (limits : PlainLimits) (f : FlowId) (h h' : Past) → live h' ≡ live h → is_live (plain_setup limits) f h' ≡ is_live (plain_setup limits) f h
live_flow limits f h h' e = cc (is_live_is limits f h', is_live_is limits f h)

pub gates_from : (limits : PlainLimits) (old new : Board) (h h' : Past) → GatesAre limits old h → IsSoundBoard new → KeepsNames old new → live h' ≡ live h
    → CountsAre limits new h' → GatesAre limits new h'
gates_from limits old new h h' g sound k lives c = record {
  sound = sound;
  flows = λ f. k.flows f ∙ (g.flows f ∙ sym (live_flow limits f h h' lives));
  counts = c.counts;
  write_known = k.buffers (buffer.Write 0) ∙ g.write_known;
  write_mark = c.write_mark;
  write_watchers = cc (k.watchers (buffer.Write 0), lives);
  write_pending = c.write_pending;
  send_known = λ x. cc (k.buffers (buffer.Send (request x)), g.send_known x, lives);
  send_mark = c.send_mark;
  send_watchers = λ x. cc (k.watchers (buffer.Send (request x)), g.send_watchers x, lives);
  send_pending = c.send_pending;
}

-- what the marks and counts of the history are
pub record KeepsSources (limits : PlainLimits) (old new : Past) : Type 0 where
  pub lives : live new ≡ live old
  pub counts : (x : ℕ) → Alive old x → count (request x) new ≡ count (request x) old
  pub write : conn_high limits new ≡ conn_high limits old
  pub lows : conn_lows limits new ≡ conn_lows limits old
  pub sends : (x : ℕ) → send_high limits x new ≡ send_high limits x old

pub gates_kept : (limits : PlainLimits) (board : Board) (h h' : Past) → GatesAre limits board h → KeepsSources limits h h' → GatesAre limits board h'
gates_kept limits board h h' g k = gates_from limits board board h h' g g.sound (same_names board) k.lives (record {
  counts = λ x is. let was = (cc) ∙ is in g.counts x was ∙ sym (k.counts x was);
  write_mark = g.write_mark ∙ sym k.write;
  write_pending = g.write_pending ∙ sym k.lows;
  send_mark = λ x. g.send_mark x ∙ sym (k.sends x);
  send_pending = g.send_pending;
})
