-- `value_notes::notes::note_of` meets its contract.
use Rattle.texts.proofs.Nodes.{kind_is}
use Rattle.value_notes.proofs.Values.{attribute_value, text_value}
use Rattle.value_notes.proofs.Noting.{own_of}
use Rattle.value_notes.proofs.Extents.{node_in}
use Rattle.value_notes.proofs.notes.note_of.Goals as goal

pub element_note-requires : goal.element_note-requires
element_note-requires c =
    let (s, ns, g, a, l, h, z, k) = c.requires in
    (s, ns, c.args.v, g, a, record { node = node_in g.tabled ns a l; kind = kind_is h c.in-Element.is; inner = k })

pub own_note-requires : goal.own_note-requires
own_note-requires c =
    let v = c.args.v in let (s, ns, g, a, l, h, z, k) = c.requires in
    (s, ns, v, own_of a (node_in g.tabled ns a l) (attribute_value ns v (kind_is h c.in-Attribute.is)) h z)

pub own_note-requires-in-Text : goal.own_note-requires-in-Text
own_note-requires-in-Text c =
    let v = c.args.v in let (s, ns, g, a, l, h, z, k) = c.requires in
    (s, ns, v, own_of a (node_in g.tabled ns a l) (text_value ns v (kind_is h c.in-Text.is)) h z)

pub returns-in-Element : goal.returns-in-Element
returns-in-Element c =
    let v = c.args.v in
    λ s ns g a l h z k. c.element_note.ensures s ns v g a (record { node = node_in g.tabled ns a l; kind = kind_is h c.in-Element.is; inner = k })

pub returns-in-Attribute : goal.returns-in-Attribute
returns-in-Attribute c =
    let v = c.args.v in
    λ s ns g a l h z k. c.own_note.ensures s ns v (own_of a (node_in g.tabled ns a l) (attribute_value ns v (kind_is h c.in-Attribute.is)) h z)

pub returns-in-Text : goal.returns-in-Text
returns-in-Text c =
    let v = c.args.v in
    λ s ns g a l h z k. c.own_note-in-Text.ensures s ns v (own_of a (node_in g.tabled ns a l) (text_value ns v (kind_is h c.in-Text.is)) h z)
