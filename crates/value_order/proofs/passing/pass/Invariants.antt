-- `value_order::passing::pass` meets its contract.
use Prim.Native.Nat.{ℕ, ◌-◌, ◌≤◌}
use mathlib.Core.List.{List}
use Rattle.document_spec.specs.Library as Library
use Rattle.document_spec.specs.Verdict.{Accepts}
use Rattle.values.specs.Comes.{Comes, weight}
use Rattle.value_order.specs.Along.{Along}
use Rattle.value_order.specs.Twins.{Prepared}
use Rattle.value_order.proofs.passing.pass.Given as goal

abbrev pub invariant-loop-a : goal.invariant-loop-a
invariant-loop-a l =
    (s : List ℕ) (ns : List Library.Node) (bs cs : List ℕ) → Prepared s l.n l.t → Accepts s ns → Comes s ns l.initial.i bs → Comes s ns l.initial.j cs → Along s s ns bs cs l.i l.j × (weight s l.i ≤ weight s l.initial.i)

abbrev pub decreases-loop-a : goal.decreases-loop-a
decreases-loop-a l = l.i.last - l.i.node
