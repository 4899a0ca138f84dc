use Rattle.std.proofs.Common.{ap, subst, sym, ◌∙◌, ◌∷◌}
use Rattle.std.specs.Option.{option_map_or}
use Rattle.std.specs.Prelude.{not}
use Rattle.h2_frames.specs.View.{view}
use Rattle.h2_session.specs.Acts.{act_within}
use Rattle.h2_session.specs.Errors.{after}
use Rattle.h2_session.specs.Happened.{Came}
use Rattle.h2_session.specs.Summary.{StandsFor, Summary, uses_idle_in}
use Rattle.h2_session.specs.declared.act.Act.TheVariants as act
use Rattle.h2_session.specs.contracts.session.Session.{the_view}
use Rattle.h2_session.proofs.Errors.{not_broken}
use Rattle.h2_session.proofs.Accepts.{error_as, failed_stands, took_stands}
use Rattle.h2_session.proofs.Frames.{started}
use Rattle.h2_session.proofs.session.Session.accept_judged.Goals as goal

pub returns-in-Some-clause-stands : goal.returns-in-Some-clause-stands
returns-in-Some-clause-stands c = λ past h.
    let v : Summary = c.args.self.now in
    let frame = view c.args.frame.now in
    let is = sym (error_as past v frame h) ∙ sym c.error.ensures ∙ c.in-Some.is in
    subst (λ (w : Summary). StandsFor (after v.side frame past) w) (sym c.fail.ensures.fails) (failed_stands past v frame c.in-Some.code h is)

pub returns-clause-act : goal.returns-clause-act
returns-clause-act c = λ past h.
    let v : Summary = c.args.self.now in
    let frame = view c.args.frame.now in
    let none = sym (error_as past v frame h) ∙ sym c.error.ensures ∙ c.in_default.is in
    (c.in_ok-take_with.ensures.takes past h none).act ∙ sym (ap (λ o. option_map_or (λ code. act.ConnError code) o (act_within v.side frame past)) none)

pub returns-clause-stands : goal.returns-clause-stands
returns-clause-stands c = λ past h.
    let v : Summary = c.args.self.now in
    let frame = view c.args.frame.now in
    let none = sym (error_as past v frame h) ∙ sym c.error.ensures ∙ c.in_default.is in
    let takes = c.in_ok-take_with.ensures.takes past h none in
    let stands = subst (λ (x : Summary). StandsFor (Came frame ∷ past) (started x)) (sym c.self.view_is) takes.stands in
    took_stands past v (started (the_view c.self.inside)) frame none stands

pub returns-clause-numbered : goal.returns-clause-numbered
returns-clause-numbered c =
    let v : Summary = c.args.self.now in
    let frame = view c.args.frame.now in
    c.in_ok-take_with.ensures.numbered (not_broken v.side frame (not v.started) v.block (uses_idle_in v frame) v.empties v.failed (sym c.error.ensures ∙ c.in_default.is))
