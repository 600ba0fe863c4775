-- `reach::list::entry_at` meets its contract.
use Prim.Native.Nat.{◌*◌, ◌<◌}
use native.Mathlib.Omega.{arith}
use Rattle.layout.specs.Part.{NODES}
use Rattle.layout.specs.Words.{cell}
use Rattle.reach.proofs.Totals.{work_room}
use Rattle.reach.proofs.list.entry_at.Goals as goal

room : (c : goal.Start) → c.args.h < 16 * c.args.n
room c = let r = work_room c.requires.0 in let l = c.requires.1 in omega arith

pub overflow_add-node : goal.overflow_add-node
overflow_add-node c = let r = room c in omega arith

pub offset_bounds-p-n : goal.offset_bounds-p-n
offset_bounds-p-n c = let r = room c in omega arith

pub bounds-p-n : goal.bounds-p-n
bounds-p-n c = let r = (let room-here : c.args.h < 16 * c.args.n = let r = work_room c.requires.0 in let l = c.requires.1 in omega arith in room-here) in let s = c.requires.0.space.room in omega arith

pub overflow_cast-node : goal.overflow_cast-node
overflow_cast-node c = let x = c.args in omega (arith, c.type_inv.p (cell x.n NODES x.h))

pub overflow_add-set : goal.overflow_add-set
overflow_add-set c = let r = (let room-here : c.args.h < 16 * c.args.n = let r = work_room c.requires.0 in let l = c.requires.1 in omega arith in room-here) in omega arith

pub offset_bounds-p-n-2 : goal.offset_bounds-p-n-2
offset_bounds-p-n-2 c = let r = (let room-here : c.args.h < 16 * c.args.n = let r = work_room c.requires.0 in let l = c.requires.1 in omega arith in room-here) in omega arith

pub bounds-p-n-2 : goal.bounds-p-n-2
bounds-p-n-2 c = let r = (let room-here : c.args.h < 16 * c.args.n = let r = work_room c.requires.0 in let l = c.requires.1 in omega arith in room-here) in let s = c.requires.0.space.room in omega arith
