-- `halving::passes::pass` meets its contract.
use native.Mathlib.Omega.{arith}
use mathlib.Core.Path.{◌≡◌, subst}
use Rattle.halving.specs.Passes.{Grown, Handed}
use Rattle.halving.proofs.Growing.{handed_none, handed_step}
use Rattle.halving.proofs.passes.pass.Goals as goal

pub loop-y-init : goal.loop-y-init
loop-y-init c = (omega arith, handed_none _ _ _)

pub loop-y-preserved : goal.loop-y-preserved
loop-y-preserved c = (omega arith, handed_step _ _ _ c.loop-y.invariant.1 c.hand_down.ensures)

pub returns : goal.returns
returns c =
    let x = c.args in
    let e : c.loop-y.y ≡ x.n = omega arith in
    subst (λ m. Grown x.n x.k (Handed x.n x.k x.p.now m) x.p.now c.loop-y.p) e c.loop-y.invariant.1
