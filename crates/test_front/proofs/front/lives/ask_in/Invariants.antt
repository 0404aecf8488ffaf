use Rattle.test_front.proofs.front.lives.ask_in.Given as goal

abbrev pub ghosts-ask_on : goal.ghosts-ask_on
ghosts-ask_on g a = record { front = a.blank }
