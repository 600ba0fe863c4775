-- `lifting::above` meets its contract. The length falls from call to call.
use native.Mathlib.Omega.{arith}
use Rattle.lifting.proofs.Stretching.{at_top, rest_down, hops_less, stretch_rest}
use Rattle.lifting.proofs.+above.Goals as goal

pub returns-then-len-eq0 : goal.returns-then-len-eq0
returns-then-len-eq0 t c P R u x ladder far = at_top ladder c.requires far c.if-len-eq0.true

pub above-requires : goal.above-requires
above-requires t c =
    let m = c.decreases in
    let l = hops_less c.first_hop-h.ensures in
    (omega arith, stretch_rest c.requires c.first_hop-h.ensures)

pub returns : goal.returns
returns t c P R u x ladder far = c.above.ensures P R u x ladder (rest_down ladder c.requires far c.first_hop-h.ensures)
