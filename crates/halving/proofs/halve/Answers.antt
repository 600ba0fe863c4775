-- `halving::halve` meets its contract.
use Prim.Native.Nat.{suc, ◌-◌}
use mathlib.Core.Path.{◌≡◌, subst}
use native.Mathlib.Omega.{arith}
use Rattle.halving.proofs.Lowering.{Lowered, lowered_none, lowered_step, lowered_all}
use Rattle.halving.proofs.halve.Goals as goal

pub loop-k-init : goal.loop-k-init
loop-k-init c = lowered_none _ _ (omega arith)

pub loop-k-preserved : goal.loop-k-preserved
loop-k-preserved c =
    let l = c.loop-k in
    let e : l.k - 1 ≡ suc (l.k - 1 - 1) = omega arith in
    let done = subst (λ k. Lowered c.args.n c.args.b k c.args.p.now l.p) e l.invariant in
    lowered_step _ c.requires.few (omega arith) done c.pass.ensures

pub returns : goal.returns
returns c =
    let x = c.args in
    let l = c.loop-k in
    let e : l.k - 1 ≡ 0 = omega arith in
    lowered_all (subst (λ k. Lowered x.n x.b k x.p.now l.p) e l.invariant)
