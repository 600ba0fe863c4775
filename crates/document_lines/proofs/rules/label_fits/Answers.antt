-- `document_lines::rules::label_fits` meets its contract.
use mathlib.Core.Path.{ap, sym, subst}
use Rattle.document_lines.specs.Nodes.{kind_of, Told}
use Rattle.document_spec.specs.Library.{LabelRule}
use Rattle.document_lines.proofs.TreeRules.{label_told}
use Rattle.document_lines.proofs.rules.label_fits.Goals as goal

pub returns-in-Text : goal.returns-in-Text
returns-in-Text c a q n e =
    let x = c.args in
    subst (Told (LabelRule (kind_of x.k) a)) (sym c.is_some.ensures) (label_told x.s.now x.at x.k (ap kind_of c.in-Text.is) c.read_key.result c.read_key.ensures a q n e)
