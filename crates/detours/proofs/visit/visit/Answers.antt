-- `detours::visit::visit` meets its contract.
use Rattle.detours.proofs.Detours.{visited_none, visited_some}
use Rattle.detours.proofs.visit.visit.Goals as goal

pub returns-then-r-eq0 : goal.returns-then-r-eq0
returns-then-r-eq0 c = visited_none c.widen-r.ensures c.if-r-eq0.true

pub returns : goal.returns
returns c = let d = c.close.ensures in visited_some c.widen-r.ensures c.if-r-eq0.false d.0 d.1
