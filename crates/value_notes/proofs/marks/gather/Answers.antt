-- `value_notes::marks::gather` meets its contract.
use Prim.Native.Nat.{suc}
use mathlib.Core.Bool.{false}
use native.Mathlib.Omega.{arith}
use Rattle.table.proofs.Trees.{tree_small}
use Rattle.value_notes.proofs.Marking.{child_word, under_node}
use Rattle.value_notes.proofs.marks.gather.Goals as goal

pub under-z-requires : goal.under-z-requires
under-z-requires c =
    let p = c.requires in let h = p.0.1.tabled in
    (h.room, child_word h p.1 h.nodes h.accepts false c.right-r.ensures.0)

pub returns : goal.returns
returns c =
    let v = c.args.v in
    λ s ns e g a d h k.
    let (i, j, l, q) = under_node g.tabled c.requires.1 ns a c.right-r.ensures.0 k.content d in
    c.join-2.ensures ns v k.end e (omega arith) j l
    (c.join.ensures ns v (suc v) k.end (omega arith) i (omega arith) h k.bounds)
    (c.under-z.ensures ns (suc v) k.end e (tree_small a) (g.told ns a) i q)
