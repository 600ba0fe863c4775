-- `value_order::constant::compare_constant` meets its contract.
use Prim.Native.Nat.{ℕ, ◌≤◌}
use mathlib.Core.List.{List}
use lib.Seq.{slice}
use Rattle.document_spec.specs.Library as Library
use Rattle.document_spec.specs.Verdict.{Accepts}
use Rattle.values.specs.Comes.{Comes, weight}
use Rattle.value_order.specs.Along.{Along}
use Rattle.value_order.proofs.constant.compare_constant.Given as goal

abbrev pub invariant-loop-o : goal.invariant-loop-o
invariant-loop-o l = (ns : List Library.Node) (bs : List ℕ) → Accepts l.s ns → Comes l.s ns l.initial.i bs → Along l.s l.c ns bs (slice l.from l.to l.c) l.i l.j × (l.j.last ≤ l.j.node)

abbrev pub decreases-loop-o : goal.decreases-loop-o
decreases-loop-o l = weight l.s l.i
