-- By what the inner connections gave.
use Rattle.metered_wires.proofs.Passing.{below_accept, below_after, below_join, closed_below, metered_accept, metered_closed, metered_on, passed_on, same_below, same_rising, turned_idle}
use Rattle.metered_wires.proofs.Rises.{closed_greatest, closed_rises, given_rises}
use Rattle.metered_wires.specs.Rising.{untold}
use Rattle.shared_tokens.specs.Seats.{known_of}
use Rattle.std.proofs.Common.{ap, arith, refl}
use Rattle.std.proofs.lemmas.Result.{err_from_is_err_and}
use Rattle.worker_ports.specs.declared.wires.Wired.TheVariants as wired
use Rattle.metered_wires.proofs.metering.MeteredWiresWires.next.Goals as goal

pub takes-requires : goal.takes-requires
takes-requires g c = c.args.self.now.seat_of

-- ---- refused
pub invariant_of-self : goal.invariant_of-self
invariant_of-self g c =
    record {
      seat_of = c.args.self.now.seat_of;
      rising = same_rising (g.W.Wires.seen c.args.self.now.inner) (g.W.Wires.seen c.next.new.self) c.in_err-conn.ensures.err c.args.self.now.rising;
      below = same_below c.args.self.now.greatest (g.W.Wires.seen c.args.self.now.inner) (g.W.Wires.seen c.next.new.self) c.in_err-conn.ensures.err c.args.self.now.below;
    }

pub returns-in_err-conn-clause-err : goal.returns-in_err-conn-clause-err
returns-in_err-conn-clause-err g c =
    let p = err_from_is_err_and c.from_residual.result c.from_residual.ensures.1 in
    rw p.1 (ap (untold c.args.self.now.greatest) c.in_err-conn.ensures.err)

pub returns-in_err-conn-clause-cause : goal.returns-in_err-conn-clause-cause
returns-in_err-conn-clause-cause g c =
    let p = err_from_is_err_and c.from_residual.result c.from_residual.ensures.1 in
    rw (p.1, p.2) c.in_err-conn.ensures.cause

pub returns-in_err-conn-clause-refused : goal.returns-in_err-conn-clause-refused
returns-in_err-conn-clause-refused g c =
    let p = err_from_is_err_and c.from_residual.result c.from_residual.ensures.1 in
    rw p.1 (c.in_err-conn.ensures.err, refl)

-- ---- an Accept
pub invariant_of-self-then-not-takes : goal.invariant_of-self-then-not-takes
invariant_of-self-then-not-takes g c =
    record {
      seat_of = c.takes.ensures.seat;
      rising = same_rising _ (g.W.Wires.seen c.close.new.self) c.close.ensures.closes (closed_rises c.in-Accept.conn (g.W.Wires.seen c.next.new.self) (given_rises (g.W.Wires.seen c.args.self.now.inner) _ (g.W.Wires.seen c.next.new.self) c.args.self.now.rising c.in_ok-conn.ensures.ok));
      below = closed_below c.args.self.now.greatest c.in-Accept.conn (g.W.Wires.seen c.next.new.self) (g.W.Wires.seen c.close.new.self) c.close.ensures.closes (closed_greatest c.in-Accept.conn (g.W.Wires.seen c.next.new.self))
          (below_after c.args.self.now.greatest (g.W.Wires.seen c.args.self.now.inner) (g.W.Wires.seen c.next.new.self) _ c.args.self.now.below c.in_ok-conn.ensures.ok);
    }

pub returns-then-not-takes-clause-ok : goal.returns-then-not-takes-clause-ok
returns-then-not-takes-clause-ok g c =
    turned_idle c.args.self.now.greatest c.in-Accept.conn (g.W.Wires.seen c.args.self.now.inner) (g.W.Wires.seen c.next.new.self) (g.W.Wires.seen c.close.new.self) _ c.in-Accept.is c.args.self.now.rising c.in_ok-conn.ensures.ok c.close.ensures.closes

pub returns-then-not-takes-clause-metered : goal.returns-then-not-takes-clause-metered
returns-then-not-takes-clause-metered g c =
    metered_closed (g.W.Wires.seen c.args.self.now.inner) (g.W.Wires.seen c.next.new.self) (g.W.Wires.seen c.close.new.self) (known_of c.args.self.now.seat) (known_of c.takes.new.seat) _ c.in-Accept.conn c.takes.result c.in-Accept.is c.in_ok-conn.ensures.ok c.close.ensures.closes c.if-not-takes.true c.takes.ensures.takes

pub returns-then-not-takes-clause-no_fall : goal.returns-then-not-takes-clause-no_fall
returns-then-not-takes-clause-no_fall g c = omega (arith, c.next.ensures.no_fall, c.close.ensures.no_fall)

pub invariant_of-self-in-Accept : goal.invariant_of-self-in-Accept
invariant_of-self-in-Accept g c =
    record {
      seat_of = c.takes.ensures.seat;
      rising = given_rises (g.W.Wires.seen c.args.self.now.inner) _ (g.W.Wires.seen c.next.new.self) c.args.self.now.rising c.in_ok-conn.ensures.ok;
      below = below_accept c.in-Accept.conn (g.W.Wires.seen c.args.self.now.inner) (g.W.Wires.seen c.next.new.self) _ c.in-Accept.is c.in_ok-conn.ensures.ok;
    }

pub returns-else-not-takes-clause-ok : goal.returns-else-not-takes-clause-ok
returns-else-not-takes-clause-ok g c =
    passed_on c.args.self.now.greatest c.in-Accept.conn (g.W.Wires.seen c.args.self.now.inner) (g.W.Wires.seen c.next.new.self) _ (wired.Accept c.in-Accept.conn) c.in-Accept.is refl c.args.self.now.below c.in_ok-conn.ensures.ok

pub returns-else-not-takes-clause-metered : goal.returns-else-not-takes-clause-metered
returns-else-not-takes-clause-metered g c =
    metered_accept (g.W.Wires.seen c.args.self.now.inner) (g.W.Wires.seen c.next.new.self) (known_of c.args.self.now.seat) (known_of c.takes.new.seat) _ c.in-Accept.conn c.takes.result c.in-Accept.is c.in_ok-conn.ensures.ok c.if-not-takes.false c.takes.ensures.takes

-- ---- a Join
pub invariant_of-self-in-Join : goal.invariant_of-self-in-Join
invariant_of-self-in-Join g c =
    record {
      seat_of = c.args.self.now.seat_of;
      rising = given_rises (g.W.Wires.seen c.args.self.now.inner) _ (g.W.Wires.seen c.next.new.self) c.args.self.now.rising c.in_ok-conn.ensures.ok;
      below = below_join c.in-Join.conn c.in-Join.cluster (g.W.Wires.seen c.args.self.now.inner) (g.W.Wires.seen c.next.new.self) _ c.in-Join.is c.in_ok-conn.ensures.ok;
    }

pub returns-in-Join-clause-ok : goal.returns-in-Join-clause-ok
returns-in-Join-clause-ok g c =
    passed_on c.args.self.now.greatest c.in-Join.conn (g.W.Wires.seen c.args.self.now.inner) (g.W.Wires.seen c.next.new.self) _ (wired.Join c.in-Join.conn c.in-Join.cluster) c.in-Join.is refl c.args.self.now.below c.in_ok-conn.ensures.ok

pub returns-in-Join-clause-metered : goal.returns-in-Join-clause-metered
returns-in-Join-clause-metered g c =
    metered_on (g.W.Wires.seen c.args.self.now.inner) (g.W.Wires.seen c.next.new.self) (known_of c.args.self.now.seat) (known_of c.args.self.now.seat) _ (wired.Join c.in-Join.conn c.in-Join.cluster) c.in-Join.is refl c.in_ok-conn.ensures.ok refl

-- ---- octets, or a lost connection
pub returns-in-Read-clause-ok : goal.returns-in-Read-clause-ok
returns-in-Read-clause-ok g c =
    passed_on c.args.self.now.greatest c.args.self.now.greatest (g.W.Wires.seen c.args.self.now.inner) (g.W.Wires.seen c.next.new.self) _ (wired.Read c.in-Read.conn c.in-Read.octets) c.in-Read.is refl c.args.self.now.below c.in_ok-conn.ensures.ok

pub returns-in-Read-clause-metered : goal.returns-in-Read-clause-metered
returns-in-Read-clause-metered g c =
    metered_on (g.W.Wires.seen c.args.self.now.inner) (g.W.Wires.seen c.next.new.self) (known_of c.args.self.now.seat) (known_of c.args.self.now.seat) _ (wired.Read c.in-Read.conn c.in-Read.octets) c.in-Read.is refl c.in_ok-conn.ensures.ok refl

pub returns-in-Lost-clause-ok : goal.returns-in-Lost-clause-ok
returns-in-Lost-clause-ok g c =
    passed_on c.args.self.now.greatest c.args.self.now.greatest (g.W.Wires.seen c.args.self.now.inner) (g.W.Wires.seen c.next.new.self) _ (wired.Lost c.in-Lost.conn) c.in-Lost.is refl c.args.self.now.below c.in_ok-conn.ensures.ok

pub returns-in-Lost-clause-metered : goal.returns-in-Lost-clause-metered
returns-in-Lost-clause-metered g c =
    metered_on (g.W.Wires.seen c.args.self.now.inner) (g.W.Wires.seen c.next.new.self) (known_of c.args.self.now.seat) (known_of c.args.self.now.seat) _ (wired.Lost c.in-Lost.conn) c.in-Lost.is refl c.in_ok-conn.ensures.ok refl

pub invariant_of-self-in-Lost-1 : goal.invariant_of-self-in-Lost-1
invariant_of-self-in-Lost-1 g c =
    record {
      seat_of = c.args.self.now.seat_of;
      rising = given_rises (g.W.Wires.seen c.args.self.now.inner) _ (g.W.Wires.seen c.next.new.self) c.args.self.now.rising c.in_ok-conn.ensures.ok;
      below = below_after c.args.self.now.greatest (g.W.Wires.seen c.args.self.now.inner) (g.W.Wires.seen c.next.new.self) _ c.args.self.now.below c.in_ok-conn.ensures.ok;
    }

-- ---- nothing, or a stop
pub invariant_of-self-in-Idle : goal.invariant_of-self-in-Idle
invariant_of-self-in-Idle g c =
    record {
      seat_of = c.args.self.now.seat_of;
      rising = given_rises (g.W.Wires.seen c.args.self.now.inner) _ (g.W.Wires.seen c.next.new.self) c.args.self.now.rising c.in_ok-conn.ensures.ok;
      below = below_after c.args.self.now.greatest (g.W.Wires.seen c.args.self.now.inner) (g.W.Wires.seen c.next.new.self) _ c.args.self.now.below c.in_ok-conn.ensures.ok;
    }

pub invariant_of-self-in-Stop : goal.invariant_of-self-in-Stop
invariant_of-self-in-Stop g c =
    record {
      seat_of = c.args.self.now.seat_of;
      rising = given_rises (g.W.Wires.seen c.args.self.now.inner) _ (g.W.Wires.seen c.next.new.self) c.args.self.now.rising c.in_ok-conn.ensures.ok;
      below = below_after c.args.self.now.greatest (g.W.Wires.seen c.args.self.now.inner) (g.W.Wires.seen c.next.new.self) _ c.args.self.now.below c.in_ok-conn.ensures.ok;
    }

pub returns-in-Idle-clause-ok : goal.returns-in-Idle-clause-ok
returns-in-Idle-clause-ok g c =
    passed_on c.args.self.now.greatest c.args.self.now.greatest (g.W.Wires.seen c.args.self.now.inner) (g.W.Wires.seen c.next.new.self) _ wired.Idle c.in-Idle.is refl c.args.self.now.below c.in_ok-conn.ensures.ok

pub returns-in-Idle-clause-metered : goal.returns-in-Idle-clause-metered
returns-in-Idle-clause-metered g c =
    metered_on (g.W.Wires.seen c.args.self.now.inner) (g.W.Wires.seen c.next.new.self) (known_of c.args.self.now.seat) (known_of c.args.self.now.seat) _ wired.Idle c.in-Idle.is refl c.in_ok-conn.ensures.ok refl

pub returns-in-Stop-clause-ok : goal.returns-in-Stop-clause-ok
returns-in-Stop-clause-ok g c =
    passed_on c.args.self.now.greatest c.args.self.now.greatest (g.W.Wires.seen c.args.self.now.inner) (g.W.Wires.seen c.next.new.self) _ wired.Stop c.in-Stop.is refl c.args.self.now.below c.in_ok-conn.ensures.ok

pub returns-in-Stop-clause-metered : goal.returns-in-Stop-clause-metered
returns-in-Stop-clause-metered g c =
    metered_on (g.W.Wires.seen c.args.self.now.inner) (g.W.Wires.seen c.next.new.self) (known_of c.args.self.now.seat) (known_of c.args.self.now.seat) _ wired.Stop c.in-Stop.is refl c.in_ok-conn.ensures.ok refl
