use Rattle.loop_rows.proofs.texts.drill_text.Goals as goal

-- src/texts.rt:81:5
pub session_text-requires : goal.session_text-requires
session_text-requires c = c.in_ok-drill_events.ensures.spelled c.new.result
