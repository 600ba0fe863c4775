-- `first_snippets::add_values` meets its contract.
use Rattle.first_snippets.proofs.Lists.{Taking}
use Rattle.first_snippets.proofs.add_values.Given as goal

abbrev pub invariant-loop-w : goal.invariant-loop-w
invariant-loop-w l = Taking l.values l.w-index l.m l.n l.b l.first l.initial.p l.p
