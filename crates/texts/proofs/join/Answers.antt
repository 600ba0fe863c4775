-- `texts::join` meets its contract.
use Rattle.texts.proofs.Bounds.{bounds_join}
use Rattle.texts.proofs.join.Goals as goal

pub returns : goal.returns
returns c =
    let p = c.first_of.ensures in let q = c.first_of-2.ensures in
    λ ns a b d i j s h k. bounds_join ns i j s h k p.0 p.1 q.0 q.1
