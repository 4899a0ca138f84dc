use Rattle.layer_tests.proofs.lists.nodes_leave_and_move.Given as goal

abbrev pub ghosts-after : goal.ghosts-after
ghosts-after g a = record { name = a.blank.name; parts = a.blank.parts }
