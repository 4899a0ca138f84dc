use Rattle.flow_notes.specs.declared.notes.Note.TheVariants as note
use Rattle.std.proofs.Common.{ap, arith, refl, subst, sym, ◌∙◌}
use Rattle.std.specs.Prelude.{None, Some, [], is_some, length, ℕ, ◌∷◌, ◌≤◌}
use Rattle.tape_laws.specs.History.{Noted}
use Rattle.wire_ends.proofs.Unlinking.{live_doomed}
use Rattle.wire_ends.proofs.dooms.unlink.Goals as goal
use Rattle.wire_flows.specs.Flows.{is_live_in}
use Rattle.wire_links.specs.Links.{Links, ends_of}
use Rattle.wire_state.proofs.Counting.{counts_go}
use Rattle.wire_state.proofs.Givens.{linked_given}
use Rattle.wire_state.proofs.Goings.{ends_by, owes_by}
use Rattle.wire_state.proofs.Untold.{dooms_counts, ends_none, late_counts}
use Rattle.wire_state.specs.Ways.{WayHistory}
use Rattle.wire_state.specs.Worlds.{Stands}
use Rattle.wire_state.proofs.Linked.{unlinks}
use Rattle.wire_state.proofs.Lives.{dooms}
use Rattle.wire_state.proofs.Timing.{gone_fewer}
use Rattle.wire_state.specs.Progress.{to_go}
use Rattle.wire_timers.specs.Armed.{Timeouts}

pub doom-doomed-requires : goal.doom-doomed-requires
doom-doomed-requires c = sym (c.requires.sound.live c.args.exchange) ∙ ap is_some (sym c.in-Some.ensures)

pub returns-clause-sound : goal.returns-clause-sound
returns-clause-sound c =
    let t = ap (λ (v : Timeouts). v.latest) c.drop_exchange.ensures in
    let linked = λ (y : ℕ). ap (λ (l : Links). is_some (ends_of y l)) c.doom.ensures.gone in
    record {
      range = c.requires.sound.range;
      moment = c.requires.sound.moment;
      armed = omega (arith, t, c.requires.sound.armed);
      metered = subst (λ (m : ℕ). m ≤ c.args.core.now.now) (sym c.doom-doomed.ensures.time) c.requires.sound.metered;
      live = λ y. linked y ∙ live_doomed c.args.exchange c.args.core.now.links (is_live_in c.args.core.now.flows) (is_live_in c.doom-doomed.new.self) c.are_sound.ensures c.requires.sound.live c.doom-doomed.ensures.live y;
      kept = c.requires.sound.kept;
    }

pub returns-clause-go : goal.returns-clause-go
unfolding to_go
returns-clause-go c =
    let f = ap (λ (t : Timeouts). length t.armed) c.drop_exchange.ensures in
    omega (arith, f, c.doom-doomed.ensures.less, gone_fewer c.args.exchange c.args.core.now.timers)

pub returns-clause-less : goal.returns-clause-less
unfolding to_go
returns-clause-less c =
    let f = ap (λ (t : Timeouts). length t.armed) c.drop_exchange.ensures in
    omega (arith, f, c.doom-doomed.ensures.less, gone_fewer c.args.exchange c.args.core.now.timers)

pub returns-clause-live : goal.returns-clause-live
returns-clause-live c = sym (c.requires.sound.live c.args.exchange) ∙ ap is_some (sym c.in-Some.ensures)

pub returns-clause-octets : goal.returns-clause-octets
returns-clause-octets c =
    let k = c.args.core.now in
    let stand = λ (h : WayHistory) (s : Stands k.config.limits k.conns k.flows k.links h). dooms c.args.exchange c.args.cause h k.flows c.doom-doomed.new.self c.doom-doomed.ensures.dooms k.conns k.links c.doom.new.self
    (unlinks c.args.exchange k.links c.doom.new.self c.are_sound.ensures c.doom.ensures.gone) s in
    owes_by (Noted (note.Doom c.args.exchange c.args.cause) ∷ []) (λ h d. refl) k _ (record { ways = λ h s w. (linked_given k.conns k.flows k.links h c.args.exchange _ (sym c.in-Some.ensures) s, w); rows = refl }) refl stand
    (λ t u h s counts. counts_go k.config.limits t u t u k.conns k.conns k.flows c.doom-doomed.new.self (Noted (note.Doom c.args.exchange c.args.cause)) [] h k.links c.doom.new.self
    (dooms_counts k.config.limits t c.args.exchange c.args.cause h k.conns k.flows c.doom-doomed.new.self c.doom-doomed.ensures.dooms c.doom-doomed.ensures.writes c.doom-doomed.ensures.lows c.doom-doomed.ensures.live c.doom-doomed.ensures.sound counts) s (stand h s) counts)

-- the exchange that overflowed ends
pub returns-clause-late : goal.returns-clause-late
returns-clause-late c =
    let k = c.args.core.now in
    let stand = λ (h : WayHistory) (s : Stands k.config.limits k.conns k.flows k.links h). dooms c.args.exchange c.args.cause h k.flows c.doom-doomed.new.self c.doom-doomed.ensures.dooms k.conns k.links c.doom.new.self
    (unlinks c.args.exchange k.links c.doom.new.self c.are_sound.ensures c.doom.ensures.gone) s in
    ends_by c.args.exchange (Noted (note.Doom c.args.exchange c.args.cause) ∷ []) (λ h d. refl) k _ (record { ways = λ h s w. (linked_given k.conns k.flows k.links h c.args.exchange _ (sym c.in-Some.ensures) s, w); rows = refl }) refl stand
    (λ t h s counts. counts_go k.config.limits t (Some c.args.exchange) t None k.conns k.conns k.flows c.doom-doomed.new.self (Noted (note.Doom c.args.exchange c.args.cause)) [] h k.links c.doom.new.self
    (late_counts k.config.limits t c.args.exchange c.args.cause h k.conns k.flows c.doom-doomed.new.self c.doom-doomed.ensures.dooms c.doom-doomed.ensures.writes c.doom-doomed.ensures.lows c.doom-doomed.ensures.live c.doom-doomed.ensures.sound counts) s (stand h s) counts)

pub returns-in_default-clause-late : goal.returns-in_default-clause-late
returns-in_default-clause-late c = ends_none c.args.exchange c.args.core.now (sym (c.requires.sound.live c.args.exchange) ∙ ap is_some (sym c.in_default.ensures))
