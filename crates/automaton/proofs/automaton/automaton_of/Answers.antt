-- `automaton::automaton::automaton_of` meets its contract.
use Rattle.path_sets.proofs.Shapes.{path_room, behind_room}
use Rattle.path_sets.proofs.Scans.{scan_ends}
use Rattle.automaton.proofs.Compared.{second_stands, second_empty, two_small, two_told}
use Rattle.automaton.proofs.automaton.automaton_of.Goals as goal
use Rattle.automaton.proofs.automaton.automaton_of.Goals.{in-Some, in-None}

pub scan-p-requires : goal.scan-p-requires
scan-p-requires c = path_room _ _ c.requires

pub scan-q-requires : goal.scan-q-requires
scan-q-requires c = behind_room _ _ c.in-Some.is (scan_ends c.scan-p.ensures) c.requires

pub summed-requires : goal.summed-requires
summed-requires c =
    two_small _ _ c.scan-p.ensures
    (elim c.match-behind.branch [ in-Some w ↦ second_stands _ _ w.in-Some.is w.q-is w.scan-q.ensures | in-None w ↦ second_empty _ _ w.in-None.is w.q-is w.no_step-q.ensures.0 ])
    c.requires

pub returns : goal.returns
returns c =
    two_told _ _ c.scan-p.ensures
    (elim c.match-behind.branch [ in-Some w ↦ second_stands _ _ w.in-Some.is w.q-is w.scan-q.ensures | in-None w ↦ second_empty _ _ w.in-None.is w.q-is w.no_step-q.ensures.0 ])
    c.summed.ensures
