-- `constants::nearest` meets its contract.
use Rattle.layout.specs.Words.{word}
use Rattle.constants.proofs.Nearing.{Nearing}
use Rattle.constants.proofs.nearest.Given as goal

abbrev pub invariant-loop-v : goal.invariant-loop-v
invariant-loop-v l = Nearing l.n (word l.t l.n l.column) l.low l.best l.least l.v
