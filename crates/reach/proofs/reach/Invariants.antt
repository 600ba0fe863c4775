-- `reach::reach` meets its contract.
use Prim.Native.Nat.{◌*◌, ◌-◌}
use Rattle.layout.specs.Part.{NODES}
use Rattle.reach.proofs.Reaching.{Working}
use Rattle.reach.proofs.reach.Given as goal

abbrev pub invariant-loop-h : goal.invariant-loop-h
invariant-loop-h l = Working l.m l.n NODES l.i l.v l.h l.len l.initial.p l.p

abbrev pub decreases-loop-h : goal.decreases-loop-h
decreases-loop-h l = 16 * l.n - l.h
