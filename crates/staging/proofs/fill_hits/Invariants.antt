-- `staging::fill_hits` meets its contract.
use Rattle.staging.proofs.Drawn.{Drawn}
use Rattle.staging.proofs.Hits.{Hits}
use Rattle.staging.proofs.fill_hits.Given as goal

abbrev pub invariant-loop-v : goal.invariant-loop-v
invariant-loop-v l = Drawn (Hits l.initial.t l.n l.column l.p l.o) l.hits l.n l.v l.initial.t l.t
