-- `lifting::hops::first_hop` meets its contract.
use native.Mathlib.Omega.{arith}
use Rattle.lifting.proofs.Stretching.{stretch_short, stretch_low, stretch_fits}
use Rattle.lifting.proofs.hops.first_hop.Goals as goal

pub exponent-k-requires : goal.exponent-k-requires
exponent-k-requires c = let s = c.requires in let h = stretch_short s.0 in let o = s.1 in (omega arith, omega arith)

pub upper-over-requires : goal.upper-over-requires
upper-over-requires c = stretch_fits c.requires.0 c.exponent-k.result c.exponent-k.ensures.low

pub two_to-requires : goal.two_to-requires
two_to-requires c = let s = c.requires.0 in let h = stretch_low s c.exponent-k.result c.exponent-k.ensures.low in let l = s.low in omega arith
