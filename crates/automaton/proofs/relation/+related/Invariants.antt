-- What is left of the rule falls from call to call.
use Rattle.std.proofs.Common.{◌-◌, length}
use Rattle.automaton.proofs.relation.+related.Given as goal

abbrev pub decreases-related : goal.decreases-related
decreases-related l = length l.s.now - l.at
