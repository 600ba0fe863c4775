-- `levels::levels` meets its contract.
use Rattle.levels.proofs.Levelling.{Levelling}
use Rattle.levels.proofs.levels.Given as goal

abbrev pub invariant-loop-v : goal.invariant-loop-v
invariant-loop-v l = Levelling l.n l.v l.r l.initial.p l.p
