-- `lifting::lift` meets its contract. The length falls from call to call.
use Rattle.lifting.proofs.+lift.Given as goal

abbrev pub decreases-lift : goal.decreases-lift
decreases-lift l = l.len
