use Rattle.test_front.proofs.front.runs.man_all.Given as goal

abbrev pub ghosts-man : goal.ghosts-man
ghosts-man g a = record { front = a.blank }
