-- What the flows are at first.
use Rattle.exchange_core.specs.Exchanges.{Exchanges, IsSound as AreSoundExchanges, exchange_at}
use Rattle.flow_gate.specs.Board.{Board, IsSound as IsSoundBoard}
use Rattle.flow_gate.specs.Changes.{Knows}
use Rattle.std.proofs.Common.{arith, inl, refl, ◌∙◌}
use Rattle.std.specs.BTreeSet.{BTreeSet, contains}
use Rattle.std.specs.Ordering.{nat_cmp}
use Rattle.std.specs.Prelude.{None, [], false, ℕ, ◌≡◌}
use Rattle.tape_laws.specs.Dispatches.{live}
use Rattle.tape_laws.specs.Flows.{request}
use Rattle.tape_laws.specs.declared.PlainLimits.{PlainLimits}
use Rattle.plain_core.specs.Flows.{AreLimits, ConnectionIs, ExchangesAre, FlowsStand, GatesAre}
use Rattle.plain_core.specs.declared.conn.Connection.{Connection}
use Rattle.flow_rules.specs.declared.ids.BufferId.TheVariants as buffer
use Rattle.flow_gate.specs.Changes.{IsEmpty}
use Rattle.plain_core.specs.Ready.{IsNewConnection}

none_at : (ex : Exchanges) (x : ℕ) → ex.live ≡ [] → exchange_at ex x ≡ None
unfolding exchange_at
none_at ex x e = cc

no_exchanges : (limits : PlainLimits) (ex : Exchanges) → ex.live ≡ [] → ex.doomed ≡ [] → ex.last ≡ 0 → ex.time ≡ 0 → AreSoundExchanges ex → ExchangesAre limits ex []
no_exchanges limits ex live doomed last time sound = record {
  sound = sound;
  time = time;
  small = rw last (omega arith);
  most = record { most = λ y is. absurd (cc) };
  last = inl last;
  doomed = doomed;
  there = λ x is. absurd (cc);
  gone = λ x is. none_at ex x live;
}

first_gates : (limits : PlainLimits) (old new : Board) → IsEmpty old → Knows (buffer.Write 0) old new → IsSoundBoard new → GatesAre limits new []
first_gates limits old new e k sound = record {
  sound = sound;
  flows = λ f. k.flows f ∙ e.flows f;
  counts = λ x is. absurd (cc);
  write_known = k.buffers (buffer.Write 0);
  write_mark = k.marks (buffer.Write 0) ∙ e.marks (buffer.Write 0);
  write_watchers = k.watchers (buffer.Write 0) ∙ e.watchers (buffer.Write 0);
  write_pending = k.pending (buffer.Write 0) ∙ e.pending (buffer.Write 0);
  send_known = λ x. k.buffers (buffer.Send (request x)) ∙ e.buffers (buffer.Send (request x));
  send_mark = λ x. k.marks (buffer.Send (request x)) ∙ e.marks (buffer.Send (request x));
  send_watchers = λ x. k.watchers (buffer.Send (request x)) ∙ e.watchers (buffer.Send (request x));
  send_pending = λ x. k.pending (buffer.Send (request x)) ∙ e.pending (buffer.Send (request x));
}

first_conn : (limits : PlainLimits) (conn : Connection) → IsNewConnection limits.write conn → ConnectionIs limits conn []
first_conn limits conn c = record {
  limit = cc;
  octets = cc;
  above = cc;
  framed_last = c.framed_last;
  ready = λ x. c.ready x;
}

pub founds : (limits : PlainLimits) (ex : Exchanges) (b b' : Board) (conn : Connection) (holding : BTreeSet ℕ) → AreLimits limits → ex.live ≡ [] → ex.doomed ≡ [] → ex.last ≡ 0 → ex.time ≡ 0 → AreSoundExchanges ex
    → IsEmpty b → Knows (buffer.Write 0) b b' → IsSoundBoard b' → IsNewConnection limits.write conn
    → ((x : ℕ) → contains nat_cmp holding x ≡ false) → FlowsStand limits (record { limits = limits; exchanges = ex; gates = b'; conn = conn; holding = holding }) []
founds limits ex b b' conn holding l live doomed last time sound empty knows counted new none = record {
  limits_are = refl;
  ranges = l;
  exchanges = no_exchanges limits ex live doomed last time sound;
  gates = first_gates limits b b' empty knows counted;
  conn = first_conn limits conn new;
  holding = record { holds = none };
}
