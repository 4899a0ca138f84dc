use Rattle.layer_tests.proofs.timers.fires.Given as goal

abbrev pub ghosts-fired_of : goal.ghosts-fired_of
ghosts-fired_of g a = record { name = a.blank.name; parts = a.blank.parts }
