use Rattle.tests_of_threads.proofs.workers.run.Given as goal

abbrev pub ghosts-run_named : goal.ghosts-run_named
ghosts-run_named g a = record { opened = a.opening }
