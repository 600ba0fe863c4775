-- `value_notes::marks::first_text` meets its contract.
use Rattle.document_spec.specs.Library.{at}
use Rattle.texts.proofs.Nodes.{element_text, attribute_text, kind_is, entry_some, entry_none}
use Rattle.value_notes.proofs.Nexts.{next_here, next_passed}
use Rattle.value_notes.proofs.marks.first_text.Goals as goal

pub returns-in-Element : goal.returns-in-Element
returns-in-Element c =
    let v = c.args.v in
    λ s ns l h k. next_passed ns (element_text (at ns v) (kind_is h c.in-Element.is)) k

pub returns-in-Attribute : goal.returns-in-Attribute
returns-in-Attribute c =
    let v = c.args.v in
    λ s ns l h k. next_passed ns (attribute_text (at ns v) (kind_is h c.in-Attribute.is)) k

pub returns-then-p : goal.returns-then-p
returns-then-p c = λ s ns l h k. next_here ns l (entry_some h (kind_is h c.in-Text.is) c.if-p.true)

pub returns-else-p : goal.returns-else-p
returns-else-p c = λ s ns l h k. next_passed ns (entry_none h (kind_is h c.in-Text.is) c.if-p.false) k
