-- `compiler::rows::row_set` meets its contract.
use mathlib.Core.Path.{sym, ◌∙◌}
use Rattle.rule_spec.proofs.Bytes.{clash}
use native.Mathlib.Omega.{arith}
use Rattle.compiler.proofs.Gathering.{gathered_none, gathered_in, gathered_out, gathered_all}
use Rattle.compiler.proofs.rows.row_set.Goals as goal
use Rattle.compiler.proofs.rows.row_set.Goals.{then-follows, else-follows}

pub loop-j-init : goal.loop-j-init
loop-j-init c = (omega arith, gathered_none _ _ (λ j l. absurd (let z : ⊥ = omega arith in z)))

pub loop-j-preserved : goal.loop-j-preserved
loop-j-preserved c =
    let g = c.loop-j.invariant.1 in (
      omega arith,
      elim c.if-follows.branch [
        | then-follows z ↦ gathered_in _ _ g _ z.insert-w.ensures z.w-is z.if-follows.true
        | else-follows z ↦ gathered_out _ _ g z.w-is (λ e. clash (sym z.if-follows.false ∙ e))
      ],
    )

pub returns : goal.returns
returns c = gathered_all (omega arith) c.loop-j.invariant.1
