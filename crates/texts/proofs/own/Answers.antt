-- `texts::own` meets its contract.
use mathlib.Core.Logic.{inl, inr}
use Rattle.document_spec.specs.Library.{at}
use Rattle.texts.proofs.Nodes.{element_blank, attribute_blank, kind_is, entry_speaks, entry_blank}
use Rattle.texts.proofs.Bounds.{silent_one, spoken_one}
use Rattle.texts.proofs.own.Goals as goal

pub returns-in-Element : goal.returns-in-Element
returns-in-Element c =
    let v = c.args.v in let q = c.silence.ensures in
    λ s ns h z. inr (q.0, q.1, silent_one ns (element_blank (at ns v) (kind_is h c.in-Element.is)))

pub returns-in-Attribute : goal.returns-in-Attribute
returns-in-Attribute c =
    let v = c.args.v in let q = c.silence-in-Attribute.ensures in
    λ s ns h z. inr (q.0, q.1, silent_one ns (attribute_blank (at ns v) (kind_is h c.in-Attribute.is)))

pub returns-then-q : goal.returns-then-q
returns-then-q c = λ s ns h z. inl (spoken_one ns (entry_speaks h (kind_is h c.in-Text.is) z c.if-q.true))

pub returns-else-q : goal.returns-else-q
returns-else-q c =
    let q = c.silence-else-q.ensures in
    λ s ns h z. inr (q.0, q.1, silent_one ns (entry_blank h (kind_is h c.in-Text.is) z c.if-q.false))
