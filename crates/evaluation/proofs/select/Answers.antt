-- `evaluation::select` meets its contract.
use Rattle.evaluation.proofs.Selecting.{size_one, enough, finish_asked, selected}
use Rattle.evaluation.proofs.select.Goals as goal

pub ready-requires : goal.ready-requires
ready-requires c =
    let x = c.args in let (ns, T, a, e) = c.requires in
    ((ns, a.library, e), enough x.scratch.now x.marks.now a e)

pub settle_rule-snippets-requires : goal.settle_rule-snippets-requires
settle_rule-snippets-requires c = let (ns, T, a, e) = c.requires in (ns, T, (c.ready.ensures ns a.library e).0, a.test)

pub finish-selected-requires : goal.finish-selected-requires
finish-selected-requires c =
    let x = c.args in let (ns, T, a, e) = c.requires in
    let (scene, kept) = c.ready.ensures ns a.library e in
    finish_asked x.scratch.now x.marks.now a e kept (c.settle_rule-snippets.ensures ns T scene a.test).frame

pub returns : goal.returns
returns c = λ ms U w.
    let (ns, T, a, e) = c.requires in let size = size_one a.library e w.library in
    let ready = c.ready.ensures ms w.library size in
    selected size ready c.finish-selected.ensures w.test (c.settle_rule-snippets.ensures ms U ready.0 w.test)
