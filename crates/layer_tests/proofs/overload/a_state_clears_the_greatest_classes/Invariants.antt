use Rattle.layer_tests.proofs.overload.a_state_clears_the_greatest_classes.Given as goal

abbrev pub ghosts-reset_of_each : goal.ghosts-reset_of_each
ghosts-reset_of_each g a = record { name = a.blank.name; parts = a.blank.parts }
