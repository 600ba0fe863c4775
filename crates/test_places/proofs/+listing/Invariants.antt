-- What is left of the rule falls from call to call; of two readers at one offset the one that calls the other has 1 more.
use Rattle.std.proofs.Common.{◌+◌, ◌-◌, ◌*◌, length}
use Rattle.test_places.proofs.+listing.Given as goal

abbrev pub decreases-list_inside : goal.decreases-list_inside
decreases-list_inside l = 2 * (length l.s.now - l.at)

abbrev pub decreases-list_path : goal.decreases-list_path
decreases-list_path l = 2 * (length l.s.now - l.at)

abbrev pub decreases-list_test : goal.decreases-list_test
decreases-list_test l = 2 * (length l.s.now - l.at) + 1
