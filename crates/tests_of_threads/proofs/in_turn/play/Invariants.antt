use Rattle.tests_of_threads.proofs.in_turn.play.Given as goal

abbrev pub ghosts-play_named : goal.ghosts-play_named
ghosts-play_named g a = record { opened = a.opening }
