-- `equalities::compare_equal` meets its contract.
use native.Mathlib.Omega.{arith}
use Rattle.equalities.proofs.Composition.{prepared_base, gathered_some, edges_fit, evaluated}
use Rattle.equalities.proofs.compare_equal.Goals as goal

pub gather-r-requires : goal.gather-r-requires
gather-r-requires c =
    let s = c.requires in
    let f = c.prepare.ensures in
    (prepared_base f s.1 s.0 s.4 s.5, s.3, f.empty, s.6)

pub settle-requires : goal.settle-requires
settle-requires c =
    let s = c.requires in
    let f = c.prepare.ensures in
    let g = c.gather-r.ensures in
    let long = f.long in let same = g.long in
    let room = s.4.room in (gathered_some f s.1 g s.0, edges_fit _ _ _ s.3 (omega arith))

pub returns : goal.returns
returns c =
    let s = c.requires in
    evaluated c.prepare.ensures s.1 c.gather-r.ensures s.3 c.settle.ensures
