-- `matrices::before` meets its contract.
use mathlib.Core.Path.{sym, ◌∙◌, subst}
use mathlib.Core.Bool.{false≢true}
use Prim.Native.Nat.{ℕ, ◌+◌}
use native.Mathlib.Omega.{arith}
use Rattle.matrices.proofs.Preceding.{Preceding, preceding_none, preceding_nothing, preceding_in, preceding_out, preceding_all}
use Rattle.matrices.proofs.before.Goals as goal
use Rattle.matrices.proofs.before.Goals.{then-touches, else-touches}

pub returns-then-w-eq0 : goal.returns-then-w-eq0
returns-then-w-eq0 c = let x = c.args in preceding_nothing x.p.now x.at x.w c.if-w-eq0.true

pub loop-i-init : goal.loop-i-init
loop-i-init c = (omega arith, preceding_none _ _ _)

pub loop-i-preserved : goal.loop-i-preserved
loop-i-preserved c =
    let l = c.loop-i.invariant in
    let n = c.args in
    let i = c.loop-i.i in
    let t = c.touches.ensures in (
      omega arith,
      elim c.if-touches.branch [
        | then-touches x ↦ subst (λ (r : ℕ). Preceding n.p.now n.at n.w (i + 1) r) (sym x.r-is) (preceding_in l.1 (t.0 x.if-touches.true) x.insert-r.ensures)
        | else-touches x ↦ subst (λ (r : ℕ). Preceding n.p.now n.at n.w (i + 1) r) (sym x.r-is) (preceding_out l.1 (λ b. false≢true (sym x.if-touches.false ∙ t.1 b)))
      ],
    )

pub returns : goal.returns
returns c = preceding_all c.loop-i.invariant.1 (omega arith)
