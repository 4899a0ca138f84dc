use Rattle.scaled_timer.proofs.timers.Timers.arm.Given as goal

abbrev pub ghosts-arm_as : goal.ghosts-arm_as
ghosts-arm_as a = record { name = a.blank.name; parts = a.blank.parts }
