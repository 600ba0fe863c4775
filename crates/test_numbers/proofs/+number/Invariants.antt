-- What is left of the rule falls from call to call.
use Rattle.std.proofs.Common.{◌-◌, length}
use Rattle.test_numbers.proofs.+number.Given as goal

abbrev pub decreases-number : goal.decreases-number
decreases-number l = length l.s.now - l.at
