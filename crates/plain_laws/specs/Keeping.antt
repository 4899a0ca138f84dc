-- What a run of notes leaves as it was, from the history before them to that after them.
use Rattle.plain_laws.specs.Pairs.{seconds}
use Rattle.std.specs.Prelude.{ℕ, ◌≡◌}
use Rattle.tape_laws.specs.Dispatches.{events_back, live, started, turns}
use Rattle.tape_laws.specs.Doomed.{condemned}
use Rattle.tape_laws.specs.Ends.{end_framed}
use Rattle.tape_laws.specs.Flows.{request}
use Rattle.tape_laws.specs.History.{History, NoMark}
use Rattle.tape_laws.specs.Pauses.{pending_lows}
use Rattle.tape_laws.specs.Plain.{plain_ended, plain_setup}
use Rattle.tape_laws.specs.Summary.{peak}
use Rattle.tape_laws.specs.Watermark.{above}
use Rattle.tape_laws.specs.World.{out, place}
use Rattle.tape_laws.specs.declared.PlainLimits.{PlainLimits}
use Rattle.flow_rules.specs.declared.ids.BufferId.TheVariants as buffer

-- the octets, flag and words of a stream
pub record KeepsStream (limits : PlainLimits) (x : ℕ) (old new : History NoMark) : Type 0 where
  pub recv : place (plain_setup limits) (request x) 0 new ≡ place (plain_setup limits) (request x) 0 old
  pub send : place (plain_setup limits) (request x) 1 new ≡ place (plain_setup limits) (request x) 1 old
  pub high : above (plain_setup limits) (buffer.Send (request x)) new ≡ above (plain_setup limits) (buffer.Send (request x)) old
  pub ended : plain_ended x new ≡ plain_ended x old
  pub framed : end_framed (plain_setup limits) (request x) new ≡ end_framed (plain_setup limits) (request x) old
  pub pairs : seconds x new ≡ seconds x old
  pub recv_most : peak (plain_setup limits) (buffer.Recv (request x)) new ≡ peak (plain_setup limits) (buffer.Recv (request x)) old
  pub send_most : peak (plain_setup limits) (buffer.Send (request x)) new ≡ peak (plain_setup limits) (buffer.Send (request x)) old

-- the write buffer
pub record KeepsWrite (limits : PlainLimits) (old new : History NoMark) : Type 0 where
  pub octets : out (plain_setup limits) 0 new ≡ out (plain_setup limits) 0 old
  pub high : above (plain_setup limits) (buffer.Write 0) new ≡ above (plain_setup limits) (buffer.Write 0) old
  pub lows : pending_lows (plain_setup limits) (buffer.Write 0) new ≡ pending_lows (plain_setup limits) (buffer.Write 0) old

-- the lists of streams, and what the events were
pub record KeepsLists (old new : History NoMark) : Type 0 where
  pub lives : live new ≡ live old
  pub begun : started new ≡ started old
  pub doomed : condemned new ≡ condemned old
  pub numbers : turns new ≡ turns old
  pub events : events_back new ≡ events_back old
