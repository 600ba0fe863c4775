-- `matrices::image` meets its contract.
use Prim.Native.Nat.{◌+◌}
use lib.ListN.{get_or}
use Rattle.bits.specs.Sets.{size}
use Rattle.matrices.proofs.Following.{Following}
use Rattle.matrices.proofs.image.Given as goal

abbrev pub invariant-loop-rest : goal.invariant-loop-rest
invariant-loop-rest l = Following (λ i. get_or l.p (l.at + i) 0) l.w l.rest l.r

abbrev pub decreases-loop-rest : goal.decreases-loop-rest
decreases-loop-rest l = size 16 l.rest
