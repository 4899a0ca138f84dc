use Rattle.layer_tests.proofs.timers.the_others_fire_in_order.Given as goal

abbrev pub ghosts-thirds : goal.ghosts-thirds
ghosts-thirds g a = record { name = a.blank.name; parts = a.blank.parts }
