-- `lifting::lower` meets its contract. The length falls from call to call.
use Rattle.lifting.proofs.+lower.Given as goal

abbrev pub decreases-lower : goal.decreases-lower
decreases-lower l = l.len
