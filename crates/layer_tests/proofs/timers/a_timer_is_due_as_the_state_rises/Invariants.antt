use Rattle.layer_tests.proofs.timers.a_timer_is_due_as_the_state_rises.Given as goal

abbrev pub ghosts-shrunk : goal.ghosts-shrunk
ghosts-shrunk g a = record { name = a.blank.name; parts = a.blank.parts }
