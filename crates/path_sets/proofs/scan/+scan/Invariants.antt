-- What is left of the rule falls from call to call.
use Rattle.std.proofs.Common.{◌-◌, length}
use Rattle.path_sets.proofs.scan.+scan.Given as goal

abbrev pub decreases-scan : goal.decreases-scan
decreases-scan l = length l.s.now - l.at
