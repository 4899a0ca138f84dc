use Rattle.std.proofs.Common.{refl, sym, ◌∙◌}
use Rattle.wire_links.proofs.Calls.{any_err, frame_kept, frame_of, frame_seen, kept_same, links_same}
use Rattle.wire_links.proofs.Reading.{links_at}
use Rattle.wire_links.proofs.Written.{unwritten, written}
use Rattle.wire_links.specs.Links.{with_stream}
use Rattle.wire_links.proofs.links.Links.framed_to.Goals as goal

pub invariant_of-self-in_err-place : goal.invariant_of-self-in_err-place
invariant_of-self-in_err-place c = kept_same c.self.inside.seats.entries c.place.new.seats.entries c.self.inside.exchanges.entries (c.get_mut.follows.lender c.in-Some.ends.now).entries c.self.inside.offers.entries c.self.inside.offers.entries c.self.inside.clients.keys c.in_err-place.ensures.err
    (unwritten c.args.exchange c.self.inside.exchanges.entries (c.get_mut.follows.lender c.in-Some.ends.now).entries c.in-Some.ends.now c.in-Some.ends.now c.in-Some.ensures.value refl (c.get_mut.follows.holds c.in-Some.ends.now).0) (λ _. c.self.inside.offers.entries) c.self.invariant

pub returns-in_err-place-clause-err : goal.returns-in_err-place-clause-err
returns-in_err-place-clause-err c = any_err c.from_residual.result (links_same c.self.inside.seats.entries c.place.new.seats.entries c.self.inside.exchanges.entries (c.get_mut.follows.lender c.in-Some.ends.now).entries c.in_err-place.ensures.err
    (unwritten c.args.exchange c.self.inside.exchanges.entries (c.get_mut.follows.lender c.in-Some.ends.now).entries c.in-Some.ends.now c.in-Some.ends.now c.in-Some.ensures.value refl (c.get_mut.follows.holds c.in-Some.ends.now).0) ∙ c.self.view_is)

pub invariant_of-self-2 : goal.invariant_of-self-2
invariant_of-self-2 c = frame_kept c.self.inside.seats.entries c.self.inside.exchanges.entries c.self.inside.offers.entries c.self.inside.clients.keys c.args.exchange c.in-Some-cluster.to c.args.stream c.in-Some.ends.now c.self.invariant (sym c.in-Some.ensures.value) c.in-Some-cluster.is (frame_of c.self.inside.exchanges.entries (links_at c.self.inside.seats.entries c.self.inside.exchanges.entries) c.args.exchange c.args.stream c.in-Some.ends.now (sym c.in-Some.ensures.value) (rw (← c.self.view_is) at c.requires)) c.place.new.seats.entries (c.get_mut.follows.lender (with_stream c.args.stream c.in-Some.ends.now)).entries c.in_ok-place.ensures.ok
    (written c.args.exchange c.self.inside.exchanges.entries (c.get_mut.follows.lender (with_stream c.args.stream c.in-Some.ends.now)).entries (with_stream c.args.stream) c.in-Some.ends.now (with_stream c.args.stream c.in-Some.ends.now) c.in-Some.ensures.value refl (c.get_mut.follows.holds (with_stream c.args.stream c.in-Some.ends.now)).0)

pub returns-clause-ok : goal.returns-clause-ok
returns-clause-ok c = rw (← c.self.view_is) (frame_seen c.self.inside.seats.entries c.self.inside.exchanges.entries c.self.inside.offers.entries c.self.inside.clients.keys c.args.exchange c.in-Some-cluster.to c.args.stream c.in-Some.ends.now c.self.invariant (sym c.in-Some.ensures.value) c.in-Some-cluster.is (frame_of c.self.inside.exchanges.entries (links_at c.self.inside.seats.entries c.self.inside.exchanges.entries) c.args.exchange c.args.stream c.in-Some.ends.now (sym c.in-Some.ensures.value) (rw (← c.self.view_is) at c.requires)) c.place.new.seats.entries (c.get_mut.follows.lender (with_stream c.args.stream c.in-Some.ends.now)).entries c.in_ok-place.ensures.ok
    (written c.args.exchange c.self.inside.exchanges.entries (c.get_mut.follows.lender (with_stream c.args.stream c.in-Some.ends.now)).entries (with_stream c.args.stream) c.in-Some.ends.now (with_stream c.args.stream c.in-Some.ends.now) c.in-Some.ensures.value refl (c.get_mut.follows.holds (with_stream c.args.stream c.in-Some.ends.now)).0))
