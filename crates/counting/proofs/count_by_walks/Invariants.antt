-- `counting::count_by_walks` meets its contract.
use Rattle.counting.proofs.Counting.{Counting}
use Rattle.counting.proofs.count_by_walks.Given as goal

abbrev pub invariant-loop-v : goal.invariant-loop-v
invariant-loop-v l = Counting l.m l.n l.k l.v l.initial.p l.p
