-- What the words ask for was done, and words without a form ask for nothing.
use Rattle.replay_run.proofs.Wording.{drill_no_relay, drill_no_shed, drill_no_wire, drill_told, form_given, other_source, other_words, plain_no_relay, plain_no_shed, plain_no_wire, plain_told, relay_no_plain, relay_no_shed, relay_no_wire, relay_told, shed_no_plain, shed_no_relay, shed_no_wire, shed_told, wire_no_plain, wire_no_relay, wire_no_shed, wire_told}
use Rattle.replay_run.specs.declared.form.Form.TheVariants as form
use Rattle.std.proofs.Common.{inl, inr}
use Rattle.replay_run.proofs.replaying.replay_with_reason.Goals as goal

pub returns-in-Some-Plain-clause-tape : goal.returns-in-Some-Plain-clause-tape
returns-in-Some-Plain-clause-tape g c = plain_told _ _ _ _ _ _ (form_given _ _ _ c.in-Some-Plain.field-0-is c.in-Some-Plain.ensures.some) c.replay_plain.ensures.tape

pub returns-in-Some-Plain-clause-relay : goal.returns-in-Some-Plain-clause-relay
returns-in-Some-Plain-clause-relay g c = λ s. other_words _ form.Plain form.Relay _ plain_no_relay (form_given _ _ _ c.in-Some-Plain.field-0-is c.in-Some-Plain.ensures.some) s

pub returns-in-Some-Plain-clause-wire : goal.returns-in-Some-Plain-clause-wire
returns-in-Some-Plain-clause-wire g c = λ s. other_words _ form.Plain form.Wire _ plain_no_wire (form_given _ _ _ c.in-Some-Plain.field-0-is c.in-Some-Plain.ensures.some) s

pub returns-in-Some-Plain-clause-wire_completes : goal.returns-in-Some-Plain-clause-wire_completes
returns-in-Some-Plain-clause-wire_completes g c = λ s. other_words _ form.Plain form.Wire _ plain_no_wire (form_given _ _ _ c.in-Some-Plain.field-0-is c.in-Some-Plain.ensures.some) s

pub returns-in-Some-Plain-clause-read_fault : goal.returns-in-Some-Plain-clause-read_fault
returns-in-Some-Plain-clause-read_fault g c = λ e. inl (c.replay_plain.ensures.read_fault e)

pub returns-in-Some-Wire-clause-tape : goal.returns-in-Some-Wire-clause-tape
returns-in-Some-Wire-clause-tape g c = wire_told _ _ _ _ _ _ (form_given _ _ _ c.in-Some-Wire.field-0-is c.in-Some-Wire.ensures.some)

pub returns-in-Some-Wire-clause-completes : goal.returns-in-Some-Wire-clause-completes
returns-in-Some-Wire-clause-completes g c = λ s. other_words _ form.Wire form.Plain _ wire_no_plain (form_given _ _ _ c.in-Some-Wire.field-0-is c.in-Some-Wire.ensures.some) s

pub returns-in-Some-Wire-clause-usage : goal.returns-in-Some-Wire-clause-usage
returns-in-Some-Wire-clause-usage g c =
    (λ e. absurd (c.replay_wire.ensures.some e), λ none. absurd (none.none form.Wire (form_given _ _ _ c.in-Some-Wire.field-0-is c.in-Some-Wire.ensures.some)))

pub returns-in-Some-Wire-clause-nothing : goal.returns-in-Some-Wire-clause-nothing
returns-in-Some-Wire-clause-nothing g c = λ e. absurd (c.replay_wire.ensures.some e)

pub returns-in-Some-Wire-clause-wire : goal.returns-in-Some-Wire-clause-wire
returns-in-Some-Wire-clause-wire g c = λ s. c.replay_wire.ensures.tape

pub returns-in-Some-Wire-clause-wire_completes : goal.returns-in-Some-Wire-clause-wire_completes
returns-in-Some-Wire-clause-wire_completes g c = λ s. c.replay_wire.ensures.completes

pub returns-in-Some-Wire-clause-relay : goal.returns-in-Some-Wire-clause-relay
returns-in-Some-Wire-clause-relay g c = λ s. other_words _ form.Wire form.Relay _ wire_no_relay (form_given _ _ _ c.in-Some-Wire.field-0-is c.in-Some-Wire.ensures.some) s

pub returns-in-Some-Wire-clause-read_fault : goal.returns-in-Some-Wire-clause-read_fault
returns-in-Some-Wire-clause-read_fault g c = λ e. other_source _ _ _ (inl (form_given _ _ _ c.in-Some-Wire.field-0-is c.in-Some-Wire.ensures.some)) (c.replay_wire.ensures.read_fault e)

pub returns-in-Some-Wire-clause-config : goal.returns-in-Some-Wire-clause-config
returns-in-Some-Wire-clause-config g c = λ no. absurd (no (inl (form_given _ _ _ c.in-Some-Wire.field-0-is c.in-Some-Wire.ensures.some)))

pub returns-in-Some-Relay-clause-tape : goal.returns-in-Some-Relay-clause-tape
returns-in-Some-Relay-clause-tape g c = relay_told _ _ _ _ _ _ (form_given _ _ _ c.in-Some-Relay.field-0-is c.in-Some-Relay.ensures.some)

pub returns-in-Some-Relay-clause-completes : goal.returns-in-Some-Relay-clause-completes
returns-in-Some-Relay-clause-completes g c = λ s. other_words _ form.Relay form.Plain _ relay_no_plain (form_given _ _ _ c.in-Some-Relay.field-0-is c.in-Some-Relay.ensures.some) s

pub returns-in-Some-Relay-clause-usage : goal.returns-in-Some-Relay-clause-usage
returns-in-Some-Relay-clause-usage g c =
    (λ e. absurd (c.replay_relay.ensures.some e), λ none. absurd (none.none form.Relay (form_given _ _ _ c.in-Some-Relay.field-0-is c.in-Some-Relay.ensures.some)))

pub returns-in-Some-Relay-clause-nothing : goal.returns-in-Some-Relay-clause-nothing
returns-in-Some-Relay-clause-nothing g c = λ e. absurd (c.replay_relay.ensures.some e)

pub returns-in-Some-Relay-clause-relay : goal.returns-in-Some-Relay-clause-relay
returns-in-Some-Relay-clause-relay g c = λ s. c.replay_relay.ensures.tape

pub returns-in-Some-Relay-clause-wire : goal.returns-in-Some-Relay-clause-wire
returns-in-Some-Relay-clause-wire g c = λ s. other_words _ form.Relay form.Wire _ relay_no_wire (form_given _ _ _ c.in-Some-Relay.field-0-is c.in-Some-Relay.ensures.some) s

pub returns-in-Some-Relay-clause-wire_completes : goal.returns-in-Some-Relay-clause-wire_completes
returns-in-Some-Relay-clause-wire_completes g c = λ s. other_words _ form.Relay form.Wire _ relay_no_wire (form_given _ _ _ c.in-Some-Relay.field-0-is c.in-Some-Relay.ensures.some) s

pub returns-in-Some-Relay-clause-read_fault : goal.returns-in-Some-Relay-clause-read_fault
returns-in-Some-Relay-clause-read_fault g c = λ e. other_source _ _ _ (inr (inr (form_given _ _ _ c.in-Some-Relay.field-0-is c.in-Some-Relay.ensures.some))) (c.replay_relay.ensures.read_fault e)

pub returns-in-Some-Relay-clause-config : goal.returns-in-Some-Relay-clause-config
returns-in-Some-Relay-clause-config g c = λ no. absurd (no (inr (inr (form_given _ _ _ c.in-Some-Relay.field-0-is c.in-Some-Relay.ensures.some))))

pub returns-in-Some-Drill-clause-tape : goal.returns-in-Some-Drill-clause-tape
returns-in-Some-Drill-clause-tape g c =
    drill_told _ c.in-Some-Drill.streams _ _ _ c.replay_drill-status.result (form_given _ _ _ c.in-Some-Drill.field-0-is c.in-Some-Drill.ensures.some) c.replay_drill-status.ensures.drills

pub returns-in-Some-Drill-clause-relay : goal.returns-in-Some-Drill-clause-relay
returns-in-Some-Drill-clause-relay g c =
    λ s. other_words _ (form.Drill c.in-Some-Drill.streams) form.Relay _ (drill_no_relay c.in-Some-Drill.streams) (form_given _ _ _ c.in-Some-Drill.field-0-is c.in-Some-Drill.ensures.some) s

pub returns-in-Some-Drill-clause-wire : goal.returns-in-Some-Drill-clause-wire
returns-in-Some-Drill-clause-wire g c =
    λ s. other_words _ (form.Drill c.in-Some-Drill.streams) form.Wire _ (drill_no_wire c.in-Some-Drill.streams) (form_given _ _ _ c.in-Some-Drill.field-0-is c.in-Some-Drill.ensures.some) s

pub returns-in-Some-Drill-clause-wire_completes : goal.returns-in-Some-Drill-clause-wire_completes
returns-in-Some-Drill-clause-wire_completes g c =
    λ s. other_words _ (form.Drill c.in-Some-Drill.streams) form.Wire _ (drill_no_wire c.in-Some-Drill.streams) (form_given _ _ _ c.in-Some-Drill.field-0-is c.in-Some-Drill.ensures.some) s

pub returns-in-None-clause-completes : goal.returns-in-None-clause-completes
returns-in-None-clause-completes g c = λ s. absurd (c.in-None.ensures.none.none form.Plain s)

pub returns-in-None-clause-relay : goal.returns-in-None-clause-relay
returns-in-None-clause-relay g c = λ s. absurd (c.in-None.ensures.none.none form.Relay s)

pub returns-in-None-clause-wire : goal.returns-in-None-clause-wire
returns-in-None-clause-wire g c = λ s. absurd (c.in-None.ensures.none.none form.Wire s)

pub returns-in-None-clause-wire_completes : goal.returns-in-None-clause-wire_completes
returns-in-None-clause-wire_completes g c = λ s. absurd (c.in-None.ensures.none.none form.Wire s)

pub returns-in-Some-Shed-clause-tape : goal.returns-in-Some-Shed-clause-tape
returns-in-Some-Shed-clause-tape g c = shed_told _ _ _ _ _ _ (form_given _ _ _ c.in-Some-Shed.field-0-is c.in-Some-Shed.ensures.some)

pub returns-in-Some-Shed-clause-completes : goal.returns-in-Some-Shed-clause-completes
returns-in-Some-Shed-clause-completes g c = λ s. other_words _ form.Shed form.Plain _ shed_no_plain (form_given _ _ _ c.in-Some-Shed.field-0-is c.in-Some-Shed.ensures.some) s

pub returns-in-Some-Shed-clause-usage : goal.returns-in-Some-Shed-clause-usage
returns-in-Some-Shed-clause-usage g c =
    (λ e. absurd (c.replay_shed.ensures.some e), λ none. absurd (none.none form.Shed (form_given _ _ _ c.in-Some-Shed.field-0-is c.in-Some-Shed.ensures.some)))

pub returns-in-Some-Shed-clause-nothing : goal.returns-in-Some-Shed-clause-nothing
returns-in-Some-Shed-clause-nothing g c = λ e. absurd (c.replay_shed.ensures.some e)

pub returns-in-Some-Shed-clause-shed : goal.returns-in-Some-Shed-clause-shed
returns-in-Some-Shed-clause-shed g c = λ s. c.replay_shed.ensures.tape

pub returns-in-Some-Shed-clause-shed_completes : goal.returns-in-Some-Shed-clause-shed_completes
returns-in-Some-Shed-clause-shed_completes g c = λ s. c.replay_shed.ensures.completes

pub returns-in-Some-Shed-clause-relay : goal.returns-in-Some-Shed-clause-relay
returns-in-Some-Shed-clause-relay g c = λ s. other_words _ form.Shed form.Relay _ shed_no_relay (form_given _ _ _ c.in-Some-Shed.field-0-is c.in-Some-Shed.ensures.some) s

pub returns-in-Some-Shed-clause-read_fault : goal.returns-in-Some-Shed-clause-read_fault
returns-in-Some-Shed-clause-read_fault g c = λ e. other_source _ _ _ (inr (inl (form_given _ _ _ c.in-Some-Shed.field-0-is c.in-Some-Shed.ensures.some))) (c.replay_shed.ensures.read_fault e)

pub returns-in-Some-Shed-clause-config : goal.returns-in-Some-Shed-clause-config
returns-in-Some-Shed-clause-config g c = λ no. absurd (no (inr (inl (form_given _ _ _ c.in-Some-Shed.field-0-is c.in-Some-Shed.ensures.some))))

pub returns-in-Some-Shed-clause-wire : goal.returns-in-Some-Shed-clause-wire
returns-in-Some-Shed-clause-wire g c = λ s. other_words _ form.Shed form.Wire _ shed_no_wire (form_given _ _ _ c.in-Some-Shed.field-0-is c.in-Some-Shed.ensures.some) s

pub returns-in-Some-Shed-clause-wire_completes : goal.returns-in-Some-Shed-clause-wire_completes
returns-in-Some-Shed-clause-wire_completes g c = λ s. other_words _ form.Shed form.Wire _ shed_no_wire (form_given _ _ _ c.in-Some-Shed.field-0-is c.in-Some-Shed.ensures.some) s

pub returns-in-Some-Plain-clause-shed : goal.returns-in-Some-Plain-clause-shed
returns-in-Some-Plain-clause-shed g c = λ s. other_words _ form.Plain form.Shed _ plain_no_shed (form_given _ _ _ c.in-Some-Plain.field-0-is c.in-Some-Plain.ensures.some) s

pub returns-in-Some-Plain-clause-shed_completes : goal.returns-in-Some-Plain-clause-shed_completes
returns-in-Some-Plain-clause-shed_completes g c = λ s. other_words _ form.Plain form.Shed _ plain_no_shed (form_given _ _ _ c.in-Some-Plain.field-0-is c.in-Some-Plain.ensures.some) s

pub returns-in-Some-Wire-clause-shed : goal.returns-in-Some-Wire-clause-shed
returns-in-Some-Wire-clause-shed g c = λ s. other_words _ form.Wire form.Shed _ wire_no_shed (form_given _ _ _ c.in-Some-Wire.field-0-is c.in-Some-Wire.ensures.some) s

pub returns-in-Some-Wire-clause-shed_completes : goal.returns-in-Some-Wire-clause-shed_completes
returns-in-Some-Wire-clause-shed_completes g c = λ s. other_words _ form.Wire form.Shed _ wire_no_shed (form_given _ _ _ c.in-Some-Wire.field-0-is c.in-Some-Wire.ensures.some) s

pub returns-in-Some-Relay-clause-shed : goal.returns-in-Some-Relay-clause-shed
returns-in-Some-Relay-clause-shed g c = λ s. other_words _ form.Relay form.Shed _ relay_no_shed (form_given _ _ _ c.in-Some-Relay.field-0-is c.in-Some-Relay.ensures.some) s

pub returns-in-Some-Relay-clause-shed_completes : goal.returns-in-Some-Relay-clause-shed_completes
returns-in-Some-Relay-clause-shed_completes g c = λ s. other_words _ form.Relay form.Shed _ relay_no_shed (form_given _ _ _ c.in-Some-Relay.field-0-is c.in-Some-Relay.ensures.some) s

pub returns-in-Some-Drill-clause-shed : goal.returns-in-Some-Drill-clause-shed
returns-in-Some-Drill-clause-shed g c =
    λ s. other_words _ (form.Drill c.in-Some-Drill.streams) form.Shed _ (drill_no_shed c.in-Some-Drill.streams) (form_given _ _ _ c.in-Some-Drill.field-0-is c.in-Some-Drill.ensures.some) s

pub returns-in-Some-Drill-clause-shed_completes : goal.returns-in-Some-Drill-clause-shed_completes
returns-in-Some-Drill-clause-shed_completes g c =
    λ s. other_words _ (form.Drill c.in-Some-Drill.streams) form.Shed _ (drill_no_shed c.in-Some-Drill.streams) (form_given _ _ _ c.in-Some-Drill.field-0-is c.in-Some-Drill.ensures.some) s

pub returns-in-None-clause-shed : goal.returns-in-None-clause-shed
returns-in-None-clause-shed g c = λ s. absurd (c.in-None.ensures.none.none form.Shed s)

pub returns-in-None-clause-shed_completes : goal.returns-in-None-clause-shed_completes
returns-in-None-clause-shed_completes g c = λ s. absurd (c.in-None.ensures.none.none form.Shed s)
