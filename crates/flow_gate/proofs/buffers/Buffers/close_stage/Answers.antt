use Rattle.flow_gate.proofs.Closing.{absent_stays, unwatched_closed, watched_stays}
use Rattle.flow_gate.proofs.SameIds.{same_buffer_exact}
use Rattle.flow_gate.proofs.buffers.Buffers.close_stage.Goals as goal
use Rattle.flow_gate.specs.Ids.{same_buffer}
use Rattle.flow_rules.specs.declared.ids.BufferId.TheVariants.{Stage}
use Rattle.std.proofs.Common.{ap, rules, sym, ◌∙◌}
use Rattle.std.proofs.lemmas.Bool.{false≢true}
use Rattle.std.specs.Option.{option_copied_mut}

pub returns-then-not-is_watched : goal.returns-then-not-is_watched
returns-then-not-is_watched c = unwatched_closed same_buffer same_buffer_exact (Stage c.args.flow c.args.stage) c.in-Some.gate.now c.keep_memory.new.gate c.args.self.now _ c.discard.new.self
    c.in-Some.ensures.value (c.is_watched.ensures.0 c.if-not-is_watched.true) ((c.get_mut.follows.holds c.keep_memory.new.gate).1 (search rules)) c.discard.ensures

pub returns-else-not-is_watched : goal.returns-else-not-is_watched
returns-else-not-is_watched c = watched_stays same_buffer same_buffer_exact (Stage c.args.flow c.args.stage) c.in-Some.gate.now c.args.self.now _
    c.in-Some.ensures.value (λ h. false≢true (sym (c.is_watched.ensures.1 h) ∙ c.if-not-is_watched.false)) ((c.get_mut.follows.holds c.in-Some.gate.now).1 (search rules))

pub returns-in_default : goal.returns-in_default
returns-in_default c = absent_stays same_buffer same_buffer_exact (Stage c.args.flow c.args.stage) c.args.self.now _
    (ap option_copied_mut (sym c.in_default.is) ∙ c.get_mut.ensures.value) c.get_mut.follows.holds-at-none
