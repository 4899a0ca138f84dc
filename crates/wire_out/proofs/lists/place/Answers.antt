use Rattle.std.proofs.Common.{ap, arith, refl, subst, sym, ◌∙◌}
use Rattle.std.specs.Prelude.{IfSome, None, [], is_some, true, ◌≡◌}
use Rattle.tape_laws.specs.History.{Marked}
use Rattle.wire_flows.specs.Flows.{is_live_in}
use Rattle.wire_links.specs.Links.{ends_of}
use Rattle.wire_out.proofs.lists.place.Goals as goal
use Rattle.wire_state.proofs.Counting.{counts_go}
use Rattle.wire_state.proofs.Goings.{marked_told}
use Rattle.wire_state.proofs.Linked.{links_placed}
use Rattle.wire_state.proofs.Lives.{places}
use Rattle.wire_state.proofs.Marked.{may_open}
use Rattle.wire_state.proofs.Quiets.{idle_go}
use Rattle.wire_state.specs.Marks.{footing_of}
use Rattle.wire_state.specs.Progress.{to_go}
use Rattle.wire_state.specs.Ways.{Opens, WayHistory}
use Rattle.wire_state.specs.Worlds.{Stands}
use Rattle.wire_state.specs.declared.wire_core.WireCore.{WireCore}

pub returns-clause-go : goal.returns-clause-go
unfolding to_go
returns-clause-go c = omega (arith, c.in_ok-begin_stream.ensures.go)

pub returns-clause-octets : goal.returns-clause-octets
returns-clause-octets c = record {
  goes = λ {k} {t} {u} h g start notes told.
      let mid = c.begin_stream.new.core in
      let l = mid.config.limits in
      let x = c.args.going.course.flow.exchange in
      let kept = c.begin_stream.ensures.rest in
      let linked : is_some (ends_of x mid.links) ≡ true = c.in_ok-begin_stream.ensures.sound.live x ∙ (ap (λ (v : WireCore). is_live_in v.flows x) kept ∙ c.requires.live) in
      let unframed : IfSome (ends_of x mid.links) (λ e. e.cluster_stream ≡ None) = subst (λ (v : WireCore). IfSome (ends_of x v.links) (λ e. e.cluster_stream ≡ None)) (sym kept) c.requires.unframed.stream in
      let opens = Opens x c.args.stream in
      let stood = λ (j : WayHistory) (s : Stands l mid.conns mid.flows mid.links j). places x c.args.stream j mid.conns mid.flows mid.links c.framed_to.new.self (may_open x mid.flows mid.links j linked unframed s.marks)
      (links_placed x c.args.stream mid.links c.framed_to.new.self c.in_ok-framed_to.ensures.ok) s in
      marked_told {l = footing_of mid} x c.args.stream mid.conns mid.conns mid.flows mid.flows mid.links c.framed_to.new.self (λ j s. may_open x mid.flows mid.links j linked unframed s.marks) stood
      (λ j s counts. counts_go l t u t u mid.conns mid.conns mid.flows mid.flows (Marked opens) [] j mid.links c.framed_to.new.self
      (idle_go {l = l} {t = t} {u = u} mid.conns mid.flows (Marked opens) j counts (λ f there. record { stages = refl; conn = refl; spared = refl }) refl tt (λ f. (refl, refl)) (λ f. refl) (λ f. refl)) s (stood j s) counts)
      h g start notes (c.in_ok-begin_stream.ensures.octets.goes h g start notes told);
}
