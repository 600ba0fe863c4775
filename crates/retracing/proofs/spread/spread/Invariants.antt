-- `retracing::spread::spread` meets its contract.
use Prim.Native.Nat.{◌*◌, ◌-◌}
use Rattle.retracing.proofs.Spreading.{Backing}
use Rattle.retracing.proofs.spread.spread.Given as goal

abbrev pub invariant-loop-h : goal.invariant-loop-h
invariant-loop-h l = Backing l.m l.n l.w l.set l.initial.end l.h l.end l.initial.p l.p

abbrev pub decreases-loop-h : goal.decreases-loop-h
decreases-loop-h l = 16 * l.n - l.h
