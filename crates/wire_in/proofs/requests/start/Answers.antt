use Rattle.exchange_core.specs.Exchange.{filters_of, side_filters}
use Rattle.flow_notes.specs.declared.notes.Note.TheVariants as note
use Rattle.std.proofs.Common.{ap, arith, refl, subst, sym, ◌∙◌}
use Rattle.std.specs.Option.{option_map_or}
use Rattle.std.specs.Prelude.{IfSome, Option, Some, [], false, is_some, length, true, ℕ, ◌++◌, ◌<◌, ◌∷◌}
use Rattle.wire_flows.specs.Flows.{is_live_in}
use Rattle.wire_flows.specs.Writes.{is_above}
use Rattle.wire_in.proofs.Starting.{live_started}
use Rattle.wire_in.proofs.requests.start.Goals as goal
use Rattle.wire_links.specs.Links.{Links, ends_of}
use Rattle.wire_state.proofs.Begun.{begins_counts, started_holds}
use Rattle.wire_state.proofs.Linked.{links_one}
use Rattle.wire_state.proofs.Lives.{starts}
use Rattle.wire_state.proofs.Marked.{ways_begun}
use Rattle.wire_state.proofs.Owed.{begun_owed}
use Rattle.wire_state.specs.Marks.{footing_of, with_rows}
use Rattle.wire_state.specs.Noting.{conn_number, held_of}
use Rattle.wire_state.specs.Progress.{to_go}
use Rattle.wire_state.specs.Ways.{WayHistory, stages_of}
use Rattle.wire_state.specs.Worlds.{Stands}

pub returns-clause-sound : goal.returns-clause-sound
returns-clause-sound c =
    let k = c.args.core.now in
    let x = c.in_ok-started.started.exchange in
    record {
      range = c.requires.sound.range;
      moment = c.requires.sound.moment;
      armed = c.requires.sound.armed;
      metered = omega (arith, c.in_ok-started.ensures.time, c.spec_of-spec.ensures.rest.1);
      live = λ y. ap (λ (l : Links). is_some (ends_of y l)) c.in_ok-start.ensures.ok
          ∙ live_started x c.args.number c.args.stream c.args.to k.links (is_live_in k.flows) (is_live_in c.start.new.self) c.requires.sound.live c.in_ok-started.ensures.live y;
      kept = c.requires.sound.kept;
    }

pub returns-clause-go : goal.returns-clause-go
unfolding to_go
returns-clause-go c = omega (arith, c.in_ok-started.ensures.go)

pub returns-clause-octets : goal.returns-clause-octets
returns-clause-octets c =
    let k = c.args.core.now in
    let s = c.in_ok-started.started in
    let x = s.exchange in
    let n = c.args.number in
    let to = c.args.to in
    let d = conn_number to in
    let spec = c.spec_of-spec.result in
    let e = c.in_ok-started.ensures in
    let ends = c.spec_of-spec.ensures.ends in
    let routed = subst (λ (o : Option ℕ). IfSome o (λ r. r < length k.config.routes)) (sym c.spec_of-spec.ensures.rest.0) c.requires.row in
    let stood = λ (h : WayHistory) (stands : Stands k.config.limits k.conns k.flows k.links h). starts x n c.args.stream d to spec k.config h k.flows c.start.new.self e.starts c.spec_of-spec.ensures.wire e.number c.spec_of-spec.ensures.limits k.conns k.links c.start-2.new.self
    (links_one x n c.args.stream to k.links c.start-2.new.self c.in_ok-start.ensures.ok) stands in
    begun_owed x spec.row to (stages_of (filters_of (side_filters false) spec.row k.config)) (stages_of (filters_of (side_filters true) spec.row k.config)) (note.Start x n c.args.stream d) (held_of s n to) (started_holds s n to) k _
    (ap (with_rows (footing_of k)) (c.in_ok-push.ensures.items ∙ ap (λ (row : Option ℕ). k.rows.items ++ row ∷ []) (sym c.spec_of-spec.ensures.rest.0))) (λ h q. refl)
    (λ h stands ways. ways_begun k.config x n c.args.stream d spec.row to h k.flows k.links e.number refl routed stands.marks ways) stood
    (λ t u h stands now counts. begins_counts k.config.limits x n c.args.stream d to spec k.config k.conns k.flows c.start.new.self e.starts c.spec_of-spec.ensures.wire e.number
    (e.request_goes ∙ ends.1) (e.response_goes ∙ ap (λ (v : ℕ). Some v) ends.0) e.writes e.lows e.sound e.live c.requires.to c.requires.from
    s.request_held s.response_held (e.request ∙ ap (λ (o : Option ℕ). option_map_or (λ v. is_above v k.flows) o false) ends.1) (e.response ∙ ap (λ (v : ℕ). is_above v k.flows) ends.0)
    k.links c.start-2.new.self t u h counts stands now)
