-- `matrices::is_empty` meets its contract.
use Prim.Native.Nat.{ℕ, ◌+◌, ◌-◌}
use mathlib.Core.Path.{◌≡◌, ap, ◌∙◌}
use native.Mathlib.Omega.{arith}
use borrow.Author.Tests.{eqb-true}
use lib.ListN.{get_or, take, drop, length-take, length-drop}
use lib.Seq.{get_or-take, get_or-drop}
use Rattle.bits.specs.Sets.{bit, or}
use Rattle.matrices.proofs.Emptiness.{covers_none, covers_more, covers_empty}
use Rattle.matrices.proofs.is_empty.Goals as goal

pub loop-row-init : goal.loop-row-init
loop-row-init c = covers_none _ _ _

pub loop-row-preserved : goal.loop-row-preserved
loop-row-preserved c =
    let x = c.args in let k = c.loop-row.row-index in let n = x.at + 16 - x.at in
    let e : get_or (take n (drop x.at x.p.now)) k 0 ≡ get_or x.p.now (x.at + k) 0 =
    get_or-take n (drop x.at x.p.now) k 0 (omega (arith, length-take {A = ℕ})) ∙ get_or-drop x.at x.p.now k 0 in
    covers_more c.loop-row.invariant (λ j. c.union-all.ensures j ∙ ap (λ (w : ℕ). or (bit c.loop-row.all j) (bit w j)) e)

pub returns : goal.returns
returns c = λ e i j h. covers_empty c.loop-row.invariant (eqb-true _ 0 e) i j (omega (arith, length-take {A = ℕ}, length-drop {A = ℕ}))
