use Rattle.tests_of_stores.proofs.many.+records_inside.Given as goal

abbrev pub decreases-records_inside : goal.decreases-records_inside
decreases-records_inside l = l.depth
