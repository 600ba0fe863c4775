-- `staging::draw_tests` meets its contract.
use Rattle.staging.proofs.Drawn.{Drawn}
use Rattle.staging.proofs.Tests.{Gathers}
use Rattle.staging.proofs.draw_tests.Given as goal

abbrev pub invariant-loop-v : goal.invariant-loop-v
invariant-loop-v l = Drawn (Gathers l.initial.t l.n l.brackets l.numbers) l.column l.n l.v l.initial.t l.t
