use Rattle.nt_threads.proofs.running.history_of.Given as goal

abbrev pub ghosts-run : goal.ghosts-run
ghosts-run g a = record { front = a.blank }
