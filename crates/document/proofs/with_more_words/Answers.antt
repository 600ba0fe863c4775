-- `document::with_more_words` meets its contract.
use native.Mathlib.Omega.{arith}
use Rattle.document.proofs.Walk.{reached_copied}
use Rattle.document.proofs.with_more_words.Goals as goal

pub read_nodes-requires : goal.read_nodes-requires
read_nodes-requires c =
    let p = c.requires in
    let e = c.copy.ensures in
    let l = e.long in
    (omega arith, reached_copied e p.1, (omega arith, omega arith))
