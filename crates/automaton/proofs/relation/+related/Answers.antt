-- `automaton::relation::related` meets its contract. What is left of the rule falls from call to call.
use native.Mathlib.Omega.{arith}
use borrow.Enum.Refused.{opened}
use Rattle.path_sets.proofs.Shapes.{room_long, first_room, second_room, second_behind, seq_two, union_two, star_room}
use Rattle.path_sets.proofs.Scans.{scan_ends}
use Rattle.automaton.proofs.Relates.{leaf_relates, seq_relates, union_relates, star_relates}
use Rattle.automaton.proofs.relation.+related.Goals as goal

pub path_kind-k-requires : goal.path_kind-k-requires
path_kind-k-requires t c = room_long _ _ _ c.requires

pub overflow_add-at : goal.overflow_add-at
overflow_add-at t c = let n = room_long _ _ _ c.requires in omega arith

pub scan-p-requires : goal.scan-p-requires
scan-p-requires t c =
    first_room _ _ _ (seq_two _ c.path_kind-k.ensures _ c.in-Seq.is c.requires)

pub scan-q-requires : goal.scan-q-requires
scan-q-requires t c =
    second_room _ _ _ (seq_two _ c.path_kind-k.ensures _ c.in-Seq.is c.requires) _ _ (scan_ends c.scan-p.ensures)

pub overflow_add-at-in-Seq : goal.overflow_add-at-in-Seq
overflow_add-at-in-Seq t c = let n = room_long _ _ _ c.requires in omega arith

pub related-g-requires : goal.related-g-requires
related-g-requires t c =
    let n = room_long _ _ _ c.requires in let m = c.decreases in (omega arith, first_room _ _ _ (seq_two _ c.path_kind-k.ensures _ c.in-Seq.is c.requires))

pub related-h-requires : goal.related-h-requires
related-h-requires t c =
    let n = room_long _ _ _ c.requires in let m = c.decreases in
    let w = seq_two _ c.path_kind-k.ensures _ c.in-Seq.is c.requires in let p = scan_ends c.scan-p.ensures in let h = second_behind _ _ _ w _ _ p in
    (omega arith, second_room _ _ _ w _ _ p)

pub overflow_add-at-in-Union : goal.overflow_add-at-in-Union
overflow_add-at-in-Union t c = let n = room_long _ _ _ c.requires in omega arith

pub scan-p-requires-in-Union : goal.scan-p-requires-in-Union
scan-p-requires-in-Union t c =
    first_room _ _ _ (union_two _ c.path_kind-k.ensures _ c.in-Union.is c.requires)

pub overflow_add-at-in-Union-2 : goal.overflow_add-at-in-Union-2
overflow_add-at-in-Union-2 t c = let n = room_long _ _ _ c.requires in omega arith

pub related-g-requires-in-Union : goal.related-g-requires-in-Union
related-g-requires-in-Union t c =
    let n = room_long _ _ _ c.requires in let m = c.decreases in (omega arith, first_room _ _ _ (union_two _ c.path_kind-k.ensures _ c.in-Union.is c.requires))

pub related-requires : goal.related-requires
related-requires t c =
    let n = room_long _ _ _ c.requires in let m = c.decreases in
    let w = union_two _ c.path_kind-k.ensures _ c.in-Union.is c.requires in let p = scan_ends c.scan-p-in-Union.ensures in let h = second_behind _ _ _ w _ _ p in
    (omega arith, second_room _ _ _ w _ _ p)

pub overflow_add-at-in-Star : goal.overflow_add-at-in-Star
overflow_add-at-in-Star t c = let n = room_long _ _ _ c.requires in omega arith

pub scan-p-requires-in-Star : goal.scan-p-requires-in-Star
scan-p-requires-in-Star t c =
    star_room _ c.path_kind-k.ensures _ c.in-Star.is c.requires

pub overflow_add-at-in-Star-2 : goal.overflow_add-at-in-Star-2
overflow_add-at-in-Star-2 t c = let n = room_long _ _ _ c.requires in omega arith

pub related-g-requires-in-Star : goal.related-g-requires-in-Star
related-g-requires-in-Star t c =
    let n = room_long _ _ _ c.requires in let m = c.decreases in (omega arith, star_room _ c.path_kind-k.ensures _ c.in-Star.is c.requires)

pub returns-in-Seq : goal.returns-in-Seq
returns-in-Seq t c =
    seq_relates _ c.path_kind-k.ensures c.scan-p.ensures c.related-g.ensures c.related-h.ensures c.scan-q.ensures c.in-Seq.is c.joined.ensures

pub returns-in-Union : goal.returns-in-Union
returns-in-Union t c = union_relates _ c.path_kind-k.ensures c.scan-p-in-Union.ensures c.related-g-in-Union.ensures c.related.ensures c.in-Union.is

pub returns-in-Star : goal.returns-in-Star
returns-in-Star t c = star_relates _ c.path_kind-k.ensures c.scan-p-in-Star.ensures c.related-g-in-Star.ensures c.in-Star.is c.joined-in-Star.ensures

pub returns-in_default : goal.returns-in_default
returns-in_default t c = leaf_relates _ c.path_kind-k.ensures _ (opened c.in_default.in_default-own.keys4)
