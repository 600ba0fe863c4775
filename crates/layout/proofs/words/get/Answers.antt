-- `layout::words::get` meets its contract.
use Prim.Native.Nat.{◌<◌}
use lib.ListN.{length}
use native.Mathlib.Omega.{arith}
use mathlib.Core.Path.{refl}
use Rattle.layout.specs.Words.{cell}
use Rattle.layout.proofs.Cells.{cell_inside}
use Rattle.layout.proofs.words.get.Goals as goal

inside : (c : goal.Start) → cell c.args.n c.args.c c.args.v < length c.args.t.now
inside c = cell_inside c.args.t.now c.requires.0 c.requires.1 c.requires.2

pub overflow_mul-result : goal.overflow_mul-result
overflow_mul-result c = let h = inside c in omega arith

pub overflow_add-result : goal.overflow_add-result
overflow_add-result c = let h = inside c in omega arith

pub offset_bounds-t-c : goal.offset_bounds-t-c
offset_bounds-t-c c = let h = inside c in omega arith

pub bounds-t-c : goal.bounds-t-c
bounds-t-c c = (let inside-here : cell c.args.n c.args.c c.args.v < length c.args.t.now = cell_inside c.args.t.now c.requires.0 c.requires.1 c.requires.2 in inside-here)

pub overflow_cast-result : goal.overflow_cast-result
overflow_cast-result c = omega (arith, c.type_inv.t (cell c.args.n c.args.c c.args.v))

pub returns : goal.returns
returns c = (refl, omega (arith, c.type_inv.t (cell c.args.n c.args.c c.args.v)))
