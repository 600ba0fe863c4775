-- `plain::compare_paths` meets its contract.
use mathlib.Core.Path.{◌≡◌}
use Rattle.xpath.specs.Syntax.{Op}
use Rattle.rule_parts.specs.Kinds.{operator}
use Rattle.machine.specs.Walks.{Meets}
use Rattle.rank_sets.specs.Ends.{Held}
use Rattle.plain.proofs.Answering.{Answers}
use Rattle.plain.proofs.compare_paths.Given as goal

abbrev pub invariant-loop-v : goal.invariant-loop-v
invariant-loop-v l = Held l.n l.initial.p l.p × ((q : Op) → l.o ≡ operator q → Answers l.n (Meets l.m l.n l.initial.p q) l.v l.p)
