-- `labels::has_name` meets its contract.
use mathlib.Core.Path.{◌≡◌, sym, subst}
use mathlib.Core.Bool.{true}
use mathlib.Core.Logic.{◌↔◌}
use mathlib.Core.List.{List}
use lib.Seq.{slice}
use Rattle.document_spec.specs.Library.{Node}
use Rattle.document_spec.specs.Verdict.{Accepts}
use Rattle.document_lines.specs.Entries.{Stands}
use Rattle.table.specs.Links.{Linked}
use Rattle.table.proofs.Trees.{tree_stands}
use Rattle.labels.proofs.Inside.{label_inside}
use Rattle.labels.proofs.has_name.Goals as goal

stands : (c : goal.After-offset-at) (ns : List Node) → Accepts c.args.s.now ns → Linked c.args.s.now ns c.args.t.now → Stands c.args.s.now ns c.args.v c.offset-at.result
stands c ns a k =
    subst (λ i. Stands c.args.s.now ns c.args.v i) (sym c.offset-at.ensures) (tree_stands c.requires.0 ns c.args.v a k c.requires.1)

pub read_entry-e-requires : goal.read_entry-e-requires
read_entry-e-requires c =
    let h = c.requires.0 in
    (h.nodes, c.args.v, stands c h.nodes h.accepts h.linked)

pub same_bytes-requires : goal.same_bytes-requires
same_bytes-requires c =
    let p = c.requires in let h = p.0 in
    let a = (let stands-here : (ns : List Node) → Accepts c.args.s.now ns → Linked c.args.s.now ns c.args.t.now → Stands c.args.s.now ns c.args.v c.offset-at.result = λ ns a k. subst (λ i. Stands c.args.s.now ns c.args.v i) (sym c.offset-at.ensures) (tree_stands c.requires.0 ns c.args.v a k c.requires.1) in stands-here) h.nodes h.accepts h.linked in
    let i = label_inside a (c.read_entry-e.ensures h.nodes c.args.v a) in
    (i.0, i.1, p.2, p.3)

pub returns : goal.returns
returns c = λ ns a k.
    let x = c.args in
    let e = c.read_entry-e.ensures ns x.v ((let stands-here : (ns : List Node) → Accepts c.args.s.now ns → Linked c.args.s.now ns c.args.t.now → Stands c.args.s.now ns c.args.v c.offset-at.result = λ ns a k. subst (λ i. Stands c.args.s.now ns c.args.v i) (sym c.offset-at.ensures) (tree_stands c.requires.0 ns c.args.v a k c.requires.1) in stands-here) ns a k) in
    subst (λ l. (c.same_bytes.result ≡ true) ↔ (l ≡ slice x.from x.to x.rule.now)) e.label c.same_bytes.ensures
