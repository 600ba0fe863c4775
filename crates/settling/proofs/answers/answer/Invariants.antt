-- `settling::answers::answer` meets its contract.
use Prim.Native.Nat.{◌≤◌}
use Rattle.settling.specs.Settled.{Answering}
use Rattle.settling.proofs.answers.answer.Given as goal

abbrev pub invariant-loop-v : goal.invariant-loop-v
invariant-loop-v l = (l.v ≤ l.n) × Answering l.second l.n l.v l.initial.p l.p
