-- `value_notes::marks::inside` meets its contract.
use Prim.Native.Nat.{suc}
use mathlib.Core.Bool.{true}
use Rattle.table.proofs.Trees.{tree_small}
use Rattle.value_notes.proofs.Marking.{child_word, inner_of}
use Rattle.value_notes.proofs.marks.inside.Goals as goal

pub under-requires : goal.under-requires
under-requires c =
    let p = c.requires in let h = p.0.1.tabled in
    (h.room, child_word h p.1 h.nodes h.accepts true c.left-l.ensures.0)

pub returns : goal.returns
returns c =
    λ s ns g a.
    inner_of g.tabled c.requires.1 ns a c.left-l.ensures.0
    (λ i j r k. c.under.ensures ns (suc c.args.v) i j (tree_small a) (g.told ns a) r k)
