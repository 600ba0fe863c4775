-- `document::read_nodes` meets its contract.
use mathlib.Core.Path.{◌≡◌}
use native.Mathlib.Omega.{arith}
use Rattle.document.proofs.Walk.{more_lines, no_more}
use Rattle.document.proofs.read_nodes.Goals as goal

pub returns-then-here-s-clause-nodes_read : goal.returns-then-here-s-clause-nodes_read
returns-then-here-s-clause-nodes_read c =
    let l = c.loop-here in
    let e : l.here.node ≡ c.args.n = let i = l.invariant.0 in omega (arith, c.loop-here-test.false) in
    more_lines (rw e at l.invariant.1.cursor) c.if-here-s.true

pub returns-else-here-s-clause-nodes_read : goal.returns-else-here-s-clause-nodes_read
returns-else-here-s-clause-nodes_read c =
    let l = c.loop-here in
    let e : l.here.node ≡ c.args.n = let i = l.invariant.0 in omega (arith, c.loop-here-test.false) in
    no_more (rw e at l.invariant.1.cursor) c.if-here-s.false
