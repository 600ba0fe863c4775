-- `retracing::seeds::seed_rank` meets its contract.
use Prim.Native.Nat.{◌-◌}
use Rattle.retracing.specs.Notes.{column_of}
use Rattle.retracing.proofs.Seeding.{Seeding}
use Rattle.retracing.proofs.seeds.seed_rank.Given as goal

abbrev pub invariant-loop-w : goal.invariant-loop-w
invariant-loop-w l = Seeding l.m l.n l.r (column_of l.bound) l.x l.len l.w l.end l.initial.p l.p

abbrev pub decreases-loop-w : goal.decreases-loop-w
decreases-loop-w l = l.n - l.w
