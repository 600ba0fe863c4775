-- `compiler::steps::steps_with` meets its contract.
use native.Mathlib.Omega.{arith}
use Rattle.compiler.proofs.Gathering.{gathered_none, gathered_in, gathered_out, gathered_all}
use Rattle.compiler.proofs.steps.steps_with.Goals as goal
use Rattle.compiler.proofs.steps.steps_with.Goals.{then-s-places, else-s-places}

pub loop-i-init : goal.loop-i-init
loop-i-init c = (omega arith, omega arith, gathered_none _ _ (λ j l b. let p = b.0 in absurd (let z : ⊥ = omega arith in z)))

pub loop-i-preserved : goal.loop-i-preserved
loop-i-preserved c =
    let (p, l, g) = c.loop-i.invariant in (
      omega arith,
      omega arith,
      elim c.if-s-places.branch [
        | then-s-places z ↦ gathered_in _ _ g _ z.insert-w.ensures z.w-is (p, z.if-s-places.true)
        | else-s-places z ↦ gathered_out _ _ g z.w-is (λ b. z.if-s-places.false b.1)
      ],
    )

pub returns : goal.returns
returns c = gathered_all (omega arith) c.loop-i.invariant.2
