-- `lifting::lower` meets its contract. The length falls from call to call.
use Prim.Native.Nat.{ℕ, ◌+◌}
use mathlib.Core.Path.{ap}
use native.Mathlib.Omega.{arith}
use Rattle.lifting.proofs.Stretching.{rest_down, hops_less, stretch_fits, stretch_rest, lower_here, lower_step}
use Rattle.lifting.proofs.+lower.Goals as goal

-- ── No edge left ──
pub returns-then-len-eq0 : goal.returns-then-len-eq0
returns-then-len-eq0 t c P R u x ladder far =
    lower_here ladder c.requires far c.if-len-eq0.true c.loop_at.result c.args.set c.before-then-len-eq0.result c.loop_at.ensures
    c.before-then-len-eq0.ensures

-- ── The first hop, and the rest behind it ──
pub lower-w-requires : goal.lower-w-requires
lower-w-requires t c =
    let m = c.decreases in
    let l = hops_less c.first_hop-h.ensures in
    (omega arith, stretch_rest c.requires c.first_hop-h.ensures)

pub block_at-requires : goal.block_at-requires
block_at-requires t c =
    let f = stretch_fits c.requires c.first_hop-h.result.exponent c.first_hop-h.ensures.some in
    (f.node, f.few, f.low)

pub overflow_add-block_at : goal.overflow_add-block_at
overflow_add-block_at t c =
    let f = stretch_fits c.requires c.first_hop-h.result.exponent c.first_hop-h.ensures.some in
    let room = f.room in
    omega (arith, c.block_at.ensures)

pub before-requires-2 : goal.before-requires-2
before-requires-2 t c =
    let f = stretch_fits c.requires c.first_hop-h.result.exponent c.first_hop-h.ensures.some in
    let room = f.room in
    omega (arith, c.block_at.ensures)

-- ── What is returned behind a hop ──
pub returns : goal.returns
returns t c P R u x ladder far =
    let h = c.first_hop-h.ensures in
    lower_step ladder c.requires far h (c.block_at.result + 16) c.args.set c.lower-w.result c.before-2.result
    (ap (λ (a : ℕ). a + 16) c.block_at.ensures) (c.lower-w.ensures P R u x ladder (rest_down ladder c.requires far h)) c.before-2.ensures
