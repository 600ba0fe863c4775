-- `loops::find_loops` meets its contract.
use Prim.Native.Nat.{ℕ, ◌+◌, ◌-◌, ◌*◌}
use mathlib.Core.Path.{◌≡◌}
use Rattle.loops.specs.Growing.{total, Grown, Settled}
use Rattle.loops.proofs.find_loops.Given as goal

abbrev pub invariant-loop-changed : goal.invariant-loop-changed
invariant-loop-changed l = ((k : ℕ) × Grown l.m l.n l.initial.p l.p k) × (l.changed ≡ 0 → Settled l.m l.n l.p)

abbrev pub decreases-loop-changed : goal.decreases-loop-changed
decreases-loop-changed l = 16 * (16 * l.n) - total l.n l.p + l.changed
