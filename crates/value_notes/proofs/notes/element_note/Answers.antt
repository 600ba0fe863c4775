-- `value_notes::notes::element_note` meets its contract.
use mathlib.Core.Path.{sym, subst}
use native.Mathlib.Omega.{arith}
use Rattle.value_notes.specs.Notes.{Valued}
use Rattle.table.proofs.Trees.{tree_size}
use Rattle.value_notes.proofs.Values.{inside_first}
use Rattle.value_notes.proofs.Noting.{element_none, element_one, element_more}
use Rattle.value_notes.proofs.notes.element_note.Goals as goal

pub returns-then-y-eq-NONE : goal.returns-then-y-eq-NONE
returns-then-y-eq-NONE c = λ s ns v g a h. element_none a h c.if-y-eq-NONE.true

pub get_note-requires : goal.get_note-requires
get_note-requires c =
    let (s, ns, v, g, a, h) = c.requires in
    let (i, j, l, k) = inside_first h c.if-y-eq-NONE.false in let e = tree_size g.tabled ns a in
    (omega arith, g.tabled.room)

pub returns-then-y : goal.returns-then-y
returns-then-y c =
    λ s ns v g a h.
    let z = c.if-y-eq-NONE.false in let f = c.args.y.first in
    let (i, j, l, k) = inside_first h z in let e = tree_size g.tabled ns a in
    element_one a h z c.if-y.true (subst (λ y. Valued s ns f y) (sym c.get_note.ensures.0) (g.valued ns a f i (omega arith)))

pub returns : goal.returns
returns c = λ s ns v g a h. element_more a h c.if-y-eq-NONE.false c.if-y.false
