-- `evaluation::by_values::select_values` meets its contract.
use mathlib.Core.Path.{subst}
use Prim.Native.Nat.{◌<◌}
use Rattle.lists.specs.Lists.{All}
use Rattle.evaluation.proofs.Selecting.{size_one, enough, finish_asked, values_selected}
use Rattle.evaluation.proofs.by_values.select_values.Goals as goal

pub ready-requires : goal.ready-requires
ready-requires c =
    let x = c.args in let (ns, P, R, a, e) = c.requires in
    ((ns, a.call.library, e), enough x.scratch.now x.marks.now a.call e)

pub settle_values-snippets-requires : goal.settle_values-snippets-requires
settle_values-snippets-requires c =
    let (ns, P, R, a, e) = c.requires in
    ((ns, P, R, (c.ready.ensures ns a.call.library e).0, a.call.test), subst (λ n. All (λ w. w < n) c.args.values.now) e a.nodes)

pub finish-selected-requires : goal.finish-selected-requires
finish-selected-requires c =
    let x = c.args in let (ns, P, R, a, e) = c.requires in
    let (scene, kept) = c.ready.ensures ns a.call.library e in
    finish_asked x.scratch.now x.marks.now a.call e kept (c.settle_values-snippets.ensures ns P R scene a.call.test).frame

pub returns : goal.returns
returns c = λ ms P R w.
    let (ns, _, _, a, e) = c.requires in let size = size_one a.call.library e w.call.library in
    let ready = c.ready.ensures ms w.call.library size in
    values_selected size ready c.finish-selected.ensures (c.settle_values-snippets.ensures ms P R ready.0 w.call.test)
