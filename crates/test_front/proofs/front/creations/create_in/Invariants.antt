use Rattle.test_front.proofs.front.creations.create_in.Given as goal

abbrev pub ghosts-create_on : goal.ghosts-create_on
ghosts-create_on g a = record { front = a.blank }
