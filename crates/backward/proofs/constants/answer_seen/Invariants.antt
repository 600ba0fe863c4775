-- `backward::constants::answer_seen` meets its contract.
use Rattle.reach.specs.Work.{Seen}
use Rattle.backward.proofs.Telling.{Telling}
use Rattle.backward.proofs.constants.answer_seen.Given as goal

abbrev pub invariant-loop-v : goal.invariant-loop-v
invariant-loop-v l = Telling l.n (λ u. Seen l.initial.p l.n u 0) l.v l.initial.p l.p
