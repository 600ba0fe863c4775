-- `backward::sweeps::fall` meets its contract.
use Rattle.backward.proofs.Ranking.{Falling}
use Rattle.backward.proofs.sweeps.fall.Given as goal

abbrev pub invariant-loop-r : goal.invariant-loop-r
invariant-loop-r l = Falling l.m l.n l.r l.len l.initial.p l.p
