-- `backward::order::answer_ordered` meets its contract.
use Rattle.rank_sets.specs.Ranges.{Across}
use Rattle.backward.specs.Sweeps.{range_of}
use Rattle.backward.proofs.Telling.{Telling}
use Rattle.backward.proofs.order.answer_ordered.Given as goal

abbrev pub invariant-loop-v : goal.invariant-loop-v
invariant-loop-v l = Telling l.n (λ u. Across l.o (range_of l.initial.p l.n 0 u) (range_of l.initial.p l.n 1 u)) l.v l.initial.p l.p
