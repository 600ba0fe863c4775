-- `evaluation::ready` meets its contract.
use Rattle.evaluation.proofs.Selecting.{table_room, needed, tabled, readied}
use Rattle.evaluation.proofs.ready.Goals as goal

pub build-requires : goal.build-requires
build-requires c =
    let x = c.args in let ((ns, a, e), enough) = c.requires in
    (ns, a, e, table_room x.n x.scratch.now (needed a e).0 enough)

pub rank_values-requires : goal.rank_values-requires
rank_values-requires c = let ((ns, a, e), enough) = c.requires in tabled a e c.args.scratch.now enough c.build.ensures

pub returns : goal.returns
returns c ns a e = readied a e c.args.scratch.now c.requires.1 c.build.ensures c.rank_values.ensures
