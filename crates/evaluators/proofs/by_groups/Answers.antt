-- `evaluators::by_groups` meets its contract.
use mathlib.Core.Path.{sym}
use lib.Seq.{length-take-le}
use Rattle.evaluators.proofs.Snippeting.{posed_shape, powered_listed, groups_asked, groups_nodes, groups_once, equal_asked, equal_compared}
use Rattle.evaluators.proofs.by_groups.Goals as goal

pub prepare-b-requires : goal.prepare-b-requires
prepare-b-requires c = let x = c.requires in ((x.0.2, posed_shape x.0.3), x.1)

pub list_groups-c-requires : goal.list_groups-c-requires
list_groups-c-requires c =
    let x = c.requires in let g = groups_asked x.0.3 c.prepare-b.ensures x.1 in
    (g.0, g.1, g.2, g.3, g.3)

pub slice_bounds-compare_equal-end : goal.slice_bounds-compare_equal-end
slice_bounds-compare_equal-end c = let g = c.list_groups-c in sym (length-take-le g.result g.new.list g.ensures.few)

-- ── By its values ──
pub compare_equal-requires : goal.compare_equal-requires
compare_equal-requires c =
    let x = c.requires.0.3 in
    let h = c.prepare-b.ensures in let g = c.list_groups-c.ensures in
    let e = equal_asked x (powered_listed h g) in
    (e.0, e.1, e.2, e.3, e.4, e.5, groups_nodes x h g)

pub returns : goal.returns
returns c P R t posed =
    let h = c.prepare-b.ensures in let g = c.list_groups-c.ensures in
    equal_compared posed (powered_listed h g) c.compare_equal.ensures (groups_once posed h g)
