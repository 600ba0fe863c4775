-- `backward::constants::spread_hits` meets its contract.
use Rattle.backward.proofs.Hitting.{Hitting}
use Rattle.backward.proofs.constants.spread_hits.Given as goal

abbrev pub invariant-loop-w : goal.invariant-loop-w
invariant-loop-w l = Hitting l.m l.n l.w l.len l.initial.p l.p
