-- `evaluators::compare_values` meets its contract.
use Rattle.evaluators.proofs.Snippeting.{posed_shape, equal_asked, values_compared}
use Rattle.evaluators.proofs.compare_values.Goals as goal

pub prepare-b-requires : goal.prepare-b-requires
prepare-b-requires c = let x = c.requires in ((x.0.2, posed_shape x.0.3), x.1)

pub compare_equal-requires : goal.compare_equal-requires
compare_equal-requires c =
    let x = c.requires in let e = equal_asked x.0.3 c.prepare-b.ensures in
    (e.0, e.1, e.2, e.3, e.4, e.5, x.2)

pub returns : goal.returns
returns c P R t posed = values_compared posed c.prepare-b.ensures c.compare_equal.ensures
