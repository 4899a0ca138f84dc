use Rattle.layer_tests.proofs.overload.a_change_of_class_puts_an_exchange_last.Given as goal

abbrev pub ghosts-resets : goal.ghosts-resets
ghosts-resets g a = record { name = a.blank.name; parts = a.blank.parts }
