-- `backward::sweeps::sweep` meets its contract.
use native.Mathlib.Omega.{arith}
use Rattle.layout.specs.Sweeps.{LEAST}
use Rattle.backward.proofs.Ranking.{spared_ready, ready_again, ranges_all}
use Rattle.backward.proofs.sweeps.sweep.Goals as goal

pub rise-requires : goal.rise-requires
rise-requires c =
    let x = c.requires in let b = c.blank.ensures in
    let r = spared_ready LEAST (omega arith) b.spared (x.1, x.2) in
    (b.made, r.0, r.1, x.3)

pub fall-requires : goal.fall-requires
fall-requires c =
    let x = c.requires in
    let r = ready_again c.blank.ensures c.rise.ensures c.blank-2.ensures (x.1, x.2) in
    (c.blank-2.ensures.made, r.0, r.1, x.3)

pub returns : goal.returns
returns c =
    ranges_all c.blank.ensures c.rise.ensures c.blank-2.ensures c.fall.ensures
