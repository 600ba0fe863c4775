-- `matrices::size` meets its contract.
use mathlib.Core.Path.{◌≡◌, refl, sym, ap, ◌∙◌}
use Prim.Native.Nat.{◌+◌}
use native.Mathlib.Omega.{arith}
use lib.ListN.{get_or}
use Rattle.bits.proofs.SetLaws.{size_le}
use Rattle.matrices.specs.Matrices.{pairs}
use Rattle.matrices.proofs.Pairs.{pairs_more, pairs_le, pairs_none}
use Rattle.matrices.proofs.size.Goals as goal

-- ── An empty matrix ──
pub returns-then-is_empty : goal.returns-then-is_empty
returns-then-is_empty c = let x = c.args in sym (pairs_none x.p.now x.at 16 (c.is_empty.ensures c.if-is_empty.true))

-- ── Entering the loop, and counting one row ──
pub loop-i-init : goal.loop-i-init
unfolding pairs
loop-i-init c = (omega arith, refl)

pub overflow_add-r : goal.overflow_add-r
overflow_add-r c =
    let l = c.loop-i.invariant in
    let n = c.args in
    let i = c.loop-i.i in
    let b = pairs_le n.p.now n.at i in
    let s = size_le 16 (get_or n.p.now (n.at + i) 0) in
    omega (arith, c.count.ensures)

-- ── One turn of the loop ──
pub loop-i-preserved : goal.loop-i-preserved
loop-i-preserved c =
    let l = c.loop-i.invariant in
    let n = c.args in
    let i = c.loop-i.i in
    (omega arith, ap (λ x. x + c.count.result) l.1 ∙ ap (λ x. pairs n.p.now n.at i + x) c.count.ensures ∙ sym (pairs_more n.p.now n.at i))

-- ── What is returned ──
pub returns : goal.returns
returns c = let e : c.loop-i.i ≡ 16 = omega arith in c.loop-i.invariant.1 ∙ ap (pairs _ _) e
