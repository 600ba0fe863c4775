-- `compiler::steps::up_to` meets its contract.
use mathlib.Core.Path.{refl}
use native.Mathlib.Omega.{arith}
use Rattle.compiler.proofs.Gathering.{gathered_none, gathered_in}
use Rattle.compiler.proofs.steps.up_to.Goals as goal

pub loop-j-init : goal.loop-j-init
loop-j-init c = (omega arith, gathered_none _ _ (λ j l. absurd (let z : ⊥ = omega arith in z)))

pub loop-j-preserved : goal.loop-j-preserved
loop-j-preserved c = (omega arith, gathered_in _ _ c.loop-j.invariant.1 _ c.insert-w.ensures refl (omega arith))
