-- `lifting::above` meets its contract. The length falls from call to call.
use Rattle.lifting.proofs.+above.Given as goal

abbrev pub decreases-above : goal.decreases-above
decreases-above l = l.len
