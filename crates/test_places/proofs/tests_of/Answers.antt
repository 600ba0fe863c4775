-- `test_places::tests_of` meets its contract.
use Rattle.test_places.proofs.Listing.{rule_room, rule_listed}
use Rattle.test_places.proofs.tests_of.Goals as goal

pub list_test-requires : goal.list_test-requires
list_test-requires c = let z = c.requires in (rule_room _ z.0.1, z.1)

pub returns : goal.returns
returns c = rule_listed _ c.list_test.ensures
