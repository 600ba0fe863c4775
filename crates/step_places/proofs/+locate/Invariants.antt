-- What is left of the rule falls from call to call.
use Rattle.std.proofs.Common.{◌-◌, length}
use Rattle.step_places.proofs.+locate.Given as goal

abbrev pub decreases-locate : goal.decreases-locate
decreases-locate l = length l.s.now - l.at
