use Rattle.tests_of_threads.proofs.in_parts.run_at.Given as goal

abbrev pub ghosts-run_named : goal.ghosts-run_named
ghosts-run_named g a = record { opened = a.opening }
