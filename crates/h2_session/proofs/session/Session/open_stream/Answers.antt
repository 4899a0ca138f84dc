use Rattle.std.proofs.Common.{List, ℕ, Some, false, ap, refl, subst, sym, ◌+◌}
use Rattle.h2_session.specs.Summary.{Summary}
use Rattle.h2_session.specs.Table.{Puts}
use Rattle.h2_session.specs.contracts.session.Session.{the_view}
use Rattle.h2_session.specs.declared.session.Session.TheInside.{Inside}
use Rattle.h2_session.specs.declared.streams.Stream.{Stream}
use Rattle.h2_session.proofs.Accepts.{numbered_from, own_from}
use Rattle.h2_session.proofs.session.Session.open_stream.Goals as goal
use Rattle.h2_session.proofs.session.Session.open_stream.Goals.{then-self+in_ok-open, else-self}

abbrev fresh : Stream
fresh = record { peer_ended = false; ended = false; head = false }

pub returns-clause-stands : goal.returns-clause-stands
returns-clause-stands c =
    let u : Summary = the_view c.self.inside in
    let x : Summary = the_view c.if-self.self-inside in
    let w : Summary = record { side = x.side; failed = x.failed; started = x.started; block = x.block; greatest = x.greatest; next = u.next + 2; empties = x.empties; streams = x.streams } in
    elim c.if-self.branch [
      | then-self+in_ok-open k ↦
          own_from u c.args.self.now w c.self.inside.next c.self.view_is
          (record {
            side = ap (λ (i : Inside). (the_view i).side) k.self-inside-is;
            failed = ap (λ (i : Inside). (the_view i).failed) k.self-inside-is;
            started = ap (λ (i : Inside). (the_view i).started) k.self-inside-is;
            block = ap (λ (i : Inside). (the_view i).block) k.self-inside-is;
            greatest = ap (λ (i : Inside). (the_view i).greatest) k.self-inside-is;
            next = refl;
            empties = ap (λ (i : Inside). (the_view i).empties) k.self-inside-is;
          }) refl k.if-self.true
          (subst (λ (t : List (ℕ × Stream)). Puts c.self.inside.next (Some fresh) c.self.inside.streams t) (sym (ap (λ (i : Inside). (the_view i).streams) k.self-inside-is)) k.in_ok-open.ensures.ok)
      | else-self k ↦
          numbered_from u c.args.self.now w c.self.inside.next c.self.view_is
          (record {
            side = ap (λ (i : Inside). (the_view i).side) k.self-inside-is;
            failed = ap (λ (i : Inside). (the_view i).failed) k.self-inside-is;
            started = ap (λ (i : Inside). (the_view i).started) k.self-inside-is;
            block = ap (λ (i : Inside). (the_view i).block) k.self-inside-is;
            greatest = ap (λ (i : Inside). (the_view i).greatest) k.self-inside-is;
            next = refl;
            empties = ap (λ (i : Inside). (the_view i).empties) k.self-inside-is;
          }) refl k.if-self.false (ap (λ (i : Inside). (the_view i).streams) k.self-inside-is)
    ]
