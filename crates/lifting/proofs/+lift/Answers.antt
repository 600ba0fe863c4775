-- `lifting::lift` meets its contract. The length falls from call to call.
use Prim.Native.Nat.{◌+◌}
use native.Mathlib.Omega.{arith}
use Rattle.lifting.proofs.Stretching.{rest_down, hops_less, stretch_fits, stretch_rest, lift_here, lift_step}
use Rattle.lifting.proofs.+lift.Goals as goal

pub returns-then-len-eq0 : goal.returns-then-len-eq0
returns-then-len-eq0 t c P R u x ladder far =
    lift_here ladder c.requires far c.if-len-eq0.true c.loop_at.result c.args.set c.before-then-len-eq0.result c.loop_at.ensures
    c.before-then-len-eq0.ensures

pub block_at-requires : goal.block_at-requires
block_at-requires t c =
    let f = stretch_fits c.requires c.first_hop-h.result.exponent c.first_hop-h.ensures.some in
    (f.node, f.few, f.low)

pub before-w-requires : goal.before-w-requires
before-w-requires t c =
    let f = stretch_fits c.requires c.first_hop-h.result.exponent c.first_hop-h.ensures.some in
    let room = f.room in
    omega (arith, c.block_at.ensures)

pub lift-requires : goal.lift-requires
lift-requires t c =
    let m = c.decreases in
    let l = hops_less c.first_hop-h.ensures in
    (omega arith, stretch_rest c.requires c.first_hop-h.ensures)

pub returns : goal.returns
returns t c P R u x ladder far =
    let h = c.first_hop-h.ensures in
    lift_step ladder c.requires far h (c.block_at.result + 0) c.args.set c.before-w.result c.lift.result (omega (arith, c.block_at.ensures))
    c.before-w.ensures (c.lift.ensures P R u x ladder (rest_down ladder c.requires far h))
