-- `value_order::comparison::compare_with` meets its contract.
use Rattle.document_spec.specs.Binary.{compared_of}
use Rattle.table.proofs.Trees.{tree_small}
use Rattle.value_order.proofs.comparison.compare_with.Goals as goal

pub returns-then-x-y-2 : goal.returns-then-x-y-2
returns-then-x-y-2 c =
    let y = c.value_of-y in
    λ ns v k h.
    c.by_ends.ensures c.args.s.now ns v c.args.w (tree_small k) h (y.ensures c.args.s.now ns c.requires.0.annotated k) c.if-x-y.true c.if-x-y-2.true

pub compare-requires : goal.compare-requires
compare-requires c =
    let (p, l, (ns, v, k, h)) = c.requires in
    (p, (ns, compared_of ns v, compared_of ns c.args.w, k, h.comes, (c.value_of-y.ensures c.args.s.now ns p.annotated k).comes))

pub returns : goal.returns
returns c =
    λ ns v k h. c.compare.ensures ns (compared_of ns v) (compared_of ns c.args.w) k h.comes (c.value_of-y.ensures c.args.s.now ns c.requires.0.annotated k).comes
