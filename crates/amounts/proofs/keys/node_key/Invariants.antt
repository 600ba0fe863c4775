-- `amounts::keys::node_key` meets its contract.
use mathlib.Core.List.{List}
use Rattle.document_spec.specs.Library.{Node}
use Rattle.document_spec.specs.Verdict.{Accepts}
use Rattle.values.specs.Comes.{weight}
use Rattle.amounts.proofs.Reading.{ReadTo}
use Rattle.amounts.proofs.keys.node_key.Given as goal

abbrev pub invariant-loop-x : goal.invariant-loop-x
invariant-loop-x l = (ns : List Node) → Accepts l.s ns → ReadTo l.s ns l.v l.x l.c

abbrev pub decreases-loop-x : goal.decreases-loop-x
decreases-loop-x l = weight l.s l.x
