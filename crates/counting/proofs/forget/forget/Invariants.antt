-- `counting::forget::forget` meets its contract.
use Rattle.counting.proofs.Forgetting.{Forgetting}
use Rattle.counting.proofs.forget.forget.Given as goal

abbrev pub invariant-loop-h : goal.invariant-loop-h
invariant-loop-h l = Forgetting l.n l.h l.initial.p l.p
