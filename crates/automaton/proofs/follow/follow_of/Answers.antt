-- `automaton::follow::follow_of` meets its contract.
use mathlib.Core.Path.{refl}
use Rattle.path_sets.proofs.Shapes.{path_room, behind_room}
use Rattle.path_sets.proofs.Scans.{scan_ends}
use Rattle.automaton.proofs.Compared.{second_stands, two_small, first_follow, alone_follow, two_follow}
use Rattle.automaton.proofs.follow.follow_of.Goals as goal

pub scan-p-requires : goal.scan-p-requires
scan-p-requires c = path_room _ _ c.requires

pub related-f-requires : goal.related-f-requires
related-f-requires c = path_room _ _ c.requires

pub scan-q-requires : goal.scan-q-requires
scan-q-requires c = behind_room _ _ c.in-Some.is (scan_ends c.scan-p.ensures) c.requires

pub related-h-requires : goal.related-h-requires
related-h-requires c = behind_room _ _ c.in-Some.is (scan_ends c.scan-p.ensures) c.requires

pub started-requires : goal.started-requires
started-requires c = (two_small _ _ c.scan-p.ensures (second_stands _ _ c.in-Some.is refl c.scan-q.ensures) c.requires).2

pub returns-in-Some : goal.returns-in-Some
returns-in-Some c =
    two_follow _ _ c.scan-p.ensures (second_stands _ _ c.in-Some.is refl c.scan-q.ensures) c.in-Some.is
    (first_follow _ _ c.scan-p.ensures c.empty.ensures c.related-f.ensures c.started-g.ensures) c.related-h.ensures c.started.ensures

pub returns-in-None : goal.returns-in-None
returns-in-None c = alone_follow _ _ c.in-None.is (first_follow _ _ c.scan-p.ensures c.empty.ensures c.related-f.ensures c.started-g.ensures)
