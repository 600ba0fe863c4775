-- `halving::passes::hand_down` meets its contract.
use Prim.Native.Nat.{ℕ, suc, ◌+◌, ◌<◌}
use mathlib.Core.Path.{◌≡◌, subst}
use native.Mathlib.Omega.{arith}
use Rattle.matrices.specs.Matrices.{Related}
use Rattle.layout.specs.Blocks.{snippet_at}
use Rattle.halving.proofs.Growing.{hands_nothing}
use Rattle.halving.proofs.passes.hand_down.Goals as goal

pub returns-then-is_empty : goal.returns-then-is_empty
returns-then-is_empty c =
    let e : c.block_at-source.result + 32 ≡ snippet_at c.args.n (suc c.args.k) c.args.y = omega (arith, c.block_at-source.ensures) in
    hands_nothing c.args.n c.args.k c.args.p.now c.args.y
    (subst (λ a. (i j : ℕ) → i < 16 → ¬ Related c.args.p.now a i j) e (c.is_empty.ensures c.if-is_empty.true))
