use Rattle.layer_tests.proofs.lists.a_taken_node_is_retired.Given as goal

abbrev pub ghosts-read_and_retire : goal.ghosts-read_and_retire
ghosts-read_and_retire g a = record { name = a.blank.name; parts = a.blank.parts }
