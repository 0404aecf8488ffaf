use Rattle.nt_front_bench.proofs.measure.on_a_front.Given as goal

abbrev pub ghosts-on_passes : goal.ghosts-on_passes
ghosts-on_passes g a = record { front = a.blank }
