-- `equalities::prepare` meets its contract.
use native.Mathlib.Omega.{arith}
use Rattle.equalities.proofs.Composition.{looped, prepared}
use Rattle.equalities.proofs.prepare.Goals as goal

pub find_powers-requires : goal.find_powers-requires
find_powers-requires c =
    let s = c.requires in
    let (found, long) = looped s.0 c.find_loops.ensures in
    let room = s.2 in (found, s.1, omega arith)

pub returns : goal.returns
returns c =
    let s = c.requires in
    prepared s.0 c.find_loops.ensures s.1 c.find_powers.ensures c.clear_snippets.ensures
