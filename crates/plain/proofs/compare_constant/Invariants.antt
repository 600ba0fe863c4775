-- `plain::compare_constant` meets its contract.
use Rattle.machine.specs.Walks.{Hits}
use Rattle.rank_sets.specs.Ends.{Held}
use Rattle.plain.proofs.Answering.{Answers}
use Rattle.plain.proofs.compare_constant.Given as goal

abbrev pub invariant-loop-v : goal.invariant-loop-v
invariant-loop-v l = Held l.n l.initial.p l.p × Answers l.n (Hits l.m l.n l.initial.p) l.v l.p
