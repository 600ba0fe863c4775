-- `halving::count` meets its contract.
use Prim.Native.Nat.{◌+◌, ◌*◌}
use mathlib.Core.Path.{◌≡◌, refl, sym, ap, ap₂, ◌∙◌, subst}
use native.Mathlib.Omega.{arith}
use Rattle.matrices.proofs.Pairs.{pairs_le}
use Rattle.layout.specs.Blocks.{BLOCKS}
use Rattle.halving.specs.Halving.{Counts}
use Rattle.halving.proofs.Counting.{total, total_more, total_le, total_counts}
use Rattle.halving.proofs.count.Goals as goal

pub loop-i-init : goal.loop-i-init
unfolding total
loop-i-init c = (omega arith, refl)

-- ── Counting one block: sums that fit ──
pub overflow_add-r : goal.overflow_add-r
overflow_add-r c =
    let x = c.args in
    let l = c.loop-i in
    let old = total_le x.p.now x.n l.i in
    let new = pairs_le x.p.now (BLOCKS * x.n + 64 * l.i + 32) 16 in
    omega (arith, l.invariant.1, c.size-r.ensures)

-- ── One turn of the loop ──
pub loop-i-preserved : goal.loop-i-preserved
loop-i-preserved c =
    let x = c.args in
    let l = c.loop-i in
    (omega arith, ap₂ (λ a b. a + b) l.invariant.1 c.size-r.ensures ∙ sym (total_more x.p.now x.n l.i))

-- ── What is returned ──
pub returns : goal.returns
returns c =
    let x = c.args in
    let l = c.loop-i in
    let e : l.i ≡ x.b * x.n = omega arith in
    subst (Counts x.n x.b x.p.now) (sym (l.invariant.1 ∙ ap (total x.p.now x.n) e)) (total_counts x.p.now x.n x.b)
