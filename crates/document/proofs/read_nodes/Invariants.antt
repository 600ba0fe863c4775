-- `document::read_nodes` meets its contract.
use Prim.Native.Nat.{◌-◌, ◌≤◌}
use mathlib.Core.Path.{◌≡◌}
use lib.ListN.{length}
use Rattle.document.specs.Check.{Reached, Room}
use Rattle.document.proofs.read_nodes.Given as goal

abbrev pub invariant-loop-here : goal.invariant-loop-here
invariant-loop-here l = (l.here.node ≤ l.n) × Reached l.s l.words l.n l.here × (length l.words ≡ length l.initial.words) × Room l.words

abbrev pub decreases-loop-here : goal.decreases-loop-here
decreases-loop-here l = l.n - l.here.node
