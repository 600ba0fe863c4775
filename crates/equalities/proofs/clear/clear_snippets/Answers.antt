-- `equalities::clear::clear_snippets` meets its contract.
use Prim.Native.Nat.{◌*◌}
use mathlib.Core.Path.{◌≡◌, subst}
use native.Mathlib.Omega.{arith}
use Rattle.equalities.specs.Steps.{Cleared}
use Rattle.equalities.proofs.Clearing.{cleared_none, cleared_step}
use Rattle.equalities.proofs.clear.clear_snippets.Goals as goal

pub loop-i-init : goal.loop-i-init
loop-i-init c = (omega arith, cleared_none _ _)

pub loop-i-preserved : goal.loop-i-preserved
loop-i-preserved c = (omega arith, cleared_step c.loop-i.invariant.1 c.clear_rows.ensures)

pub returns : goal.returns
returns c =
    let x = c.args in let l = c.loop-i in
    let e : l.i ≡ x.b * x.n = omega arith in
    subst (λ i. Cleared x.n i x.p.now l.p) e l.invariant.1
