-- `loops::rounds::descend` meets its contract.
use Rattle.loops.proofs.Grows.{descended}
use Rattle.loops.proofs.rounds.descend.Goals as goal

pub returns : goal.returns
returns c =
    let h = c.requires in
    let (side, on, e) = c.steps-down.ensures in
    descended side h.0 h.1 h.2 c.loop_at-here.ensures c.above-there.ensures.0 on e c.visit.ensures
