-- `value_order::cursors::behind` meets its contract.
use Rattle.value_order.proofs.Moving.{moved}
use Rattle.value_order.proofs.cursors.behind.Goals as goal

pub returns : goal.returns
returns c = λ s ns bs h. moved h c.args.k c.requires
