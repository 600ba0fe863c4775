-- `matrices::image` meets its contract.
use native.Mathlib.Omega.{arith}
use Rattle.matrices.proofs.Members.{Taken, taken}
use Rattle.matrices.proofs.Following.{following_none, following_step, following_all, rest_less}
use Rattle.matrices.proofs.image.Goals as goal

pub loop-rest-init : goal.loop-rest-init
loop-rest-init c = following_none _ _

pub without-rest-requires : goal.without-rest-requires
without-rest-requires c = tt

out : (c : goal.After-without-rest) → Taken c.first-i.result c.loop-rest.rest c.without-rest.result
out c = taken _ c.insert.result _ _ c.insert.ensures c.without-rest.ensures

pub loop-rest-smaller : goal.loop-rest-smaller
loop-rest-smaller c = let f = c.first-i.ensures in rest_less (out c) f.1 f.0

pub loop-rest-preserved : goal.loop-rest-preserved
loop-rest-preserved c = let f = c.first-i.ensures in following_step (out c) f.1 f.0 c.loop-rest.invariant c.union-r.ensures

pub returns : goal.returns
returns c = following_all c.loop-rest.invariant (omega arith)
