use Rattle.nt_front_example.proofs.running.run.Given as goal

abbrev pub ghosts-run_named : goal.ghosts-run_named
ghosts-run_named g a = record { front = a.blank }
