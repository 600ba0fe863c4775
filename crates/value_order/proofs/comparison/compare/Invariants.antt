-- `value_order::comparison::compare` meets its contract.
use Prim.Native.Nat.{ℕ}
use mathlib.Core.List.{List}
use Rattle.document_spec.specs.Library as Library
use Rattle.document_spec.specs.Verdict.{Accepts}
use Rattle.values.specs.Comes.{Comes, weight}
use Rattle.value_order.specs.Along.{Along}
use Rattle.value_order.proofs.comparison.compare.Given as goal

abbrev pub invariant-loop-o : goal.invariant-loop-o
invariant-loop-o l = (ns : List Library.Node) (bs cs : List ℕ) → Accepts l.s ns → Comes l.s ns l.initial.i bs → Comes l.s ns l.initial.j cs → Along l.s l.s ns bs cs l.i l.j

abbrev pub decreases-loop-o : goal.decreases-loop-o
decreases-loop-o l = weight l.s l.i
