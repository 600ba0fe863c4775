-- What is left of the rule falls from call to call: all six readers have the same parameters, and of two at one offset the one that calls the other has 1 more.
use Rattle.std.proofs.Common.{◌+◌, ◌-◌, ◌*◌, length}
use Rattle.rule_readers.proofs.readers.+readers.Given as goal

abbrev pub decreases-comparison : goal.decreases-comparison
decreases-comparison l = 2 * (length l.s.now - l.at)

abbrev pub decreases-count : goal.decreases-count
decreases-count l = 2 * (length l.s.now - l.at)

abbrev pub decreases-read_path : goal.decreases-read_path
decreases-read_path l = 2 * (length l.s.now - l.at)

abbrev pub decreases-read_test : goal.decreases-read_test
decreases-read_test l = 2 * (length l.s.now - l.at) + 1

abbrev pub decreases-second_operand : goal.decreases-second_operand
decreases-second_operand l = 2 * (length l.s.now - l.at) + 1

abbrev pub decreases-signed_operand : goal.decreases-signed_operand
decreases-signed_operand l = 2 * (length l.s.now - l.at) + 1
