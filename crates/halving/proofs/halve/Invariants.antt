-- `halving::halve` meets its contract.
use Prim.Native.Nat.{◌-◌}
use Rattle.halving.proofs.Lowering.{Lowered}
use Rattle.halving.proofs.halve.Given as goal

-- the loop stands at the exponent that it has last handed down from
abbrev pub invariant-loop-k : goal.invariant-loop-k
invariant-loop-k l = Lowered l.n l.b (l.k - 1) l.initial.p l.p
