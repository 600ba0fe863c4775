-- `layout::places::block_at` meets its contract.
use native.Mathlib.Omega.{arith}
use Rattle.layout.proofs.Fitting.{small}
use Rattle.layout.proofs.places.block_at.Goals as goal

pub overflow_mul-result-2 : goal.overflow_mul-result-2
overflow_mul-result-2 c = let s = small c.args.n c.args.k c.requires.1 c.requires.2 in omega arith

pub overflow_add-result : goal.overflow_add-result
overflow_add-result c = let s = small c.args.n c.args.k c.requires.1 c.requires.2 in omega arith

pub overflow_mul-result-3 : goal.overflow_mul-result-3
overflow_mul-result-3 c = let s = small c.args.n c.args.k c.requires.1 c.requires.2 in omega arith

pub overflow_add-result-2 : goal.overflow_add-result-2
overflow_add-result-2 c = let s = small c.args.n c.args.k c.requires.1 c.requires.2 in omega arith
