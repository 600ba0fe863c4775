-- `layout::words::put` meets its contract.
use Prim.Native.Nat.{◌<◌}
use lib.ListN.{length}
use native.Mathlib.Omega.{arith}
use Rattle.layout.specs.Words.{cell}
use Rattle.layout.proofs.Cells.{cell_inside, wrote_one}
use Rattle.layout.proofs.words.put.Goals as goal

inside : (c : goal.Start) → cell c.args.n c.args.c c.args.v < length c.args.t.now
inside c = cell_inside c.args.t.now c.requires.0 c.requires.1 c.requires.2

pub overflow_mul-t : goal.overflow_mul-t
overflow_mul-t c = let h = inside c in omega arith

pub overflow_add-t : goal.overflow_add-t
overflow_add-t c = let h = inside c in omega arith

pub offset_bounds-t-c : goal.offset_bounds-t-c
offset_bounds-t-c c = let h = inside c in omega arith

pub bounds-t-c : goal.bounds-t-c
bounds-t-c c = inside c

pub returns : goal.returns
returns c = wrote_one _ _ _ (inside c)
