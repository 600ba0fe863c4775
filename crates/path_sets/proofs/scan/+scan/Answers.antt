-- `path_sets::scan::scan` meets its contract. What is left of the rule falls from call to call.
use native.Mathlib.Omega.{arith}
use borrow.Enum.Refused.{opened}
use Rattle.path_sets.proofs.Shapes.{room_long, first_room, second_room, second_behind, seq_two, union_two, star_room, step_room}
use Rattle.path_sets.proofs.Scans.{scan_ends, empty_scans, step_scans, seq_scans, union_scans, star_scans}
use Rattle.path_sets.proofs.scan.+scan.Goals as goal

pub path_kind-k-requires : goal.path_kind-k-requires
path_kind-k-requires t c = room_long _ _ _ c.requires

pub overflow_add-at : goal.overflow_add-at
overflow_add-at t c = let n = room_long _ _ _ c.requires in omega arith

pub overflow_add-at-in-Seq : goal.overflow_add-at-in-Seq
overflow_add-at-in-Seq t c = let n = room_long _ _ _ c.requires in omega arith

pub scan-p-requires : goal.scan-p-requires
scan-p-requires t c =
    let n = room_long _ _ _ c.requires in let m = c.decreases in (omega arith, first_room _ _ _ (seq_two _ c.path_kind-k.ensures _ c.in-Seq.is c.requires))

pub scan-q-requires : goal.scan-q-requires
scan-q-requires t c =
    let n = room_long _ _ _ c.requires in let m = c.decreases in
    let w = seq_two _ c.path_kind-k.ensures _ c.in-Seq.is c.requires in let p = scan_ends c.scan-p.ensures in let h = second_behind _ _ _ w _ _ p in
    (omega arith, second_room _ _ _ w _ _ p)

pub overflow_add-at-in-Union : goal.overflow_add-at-in-Union
overflow_add-at-in-Union t c = let n = room_long _ _ _ c.requires in omega arith

pub scan-p-requires-in-Union : goal.scan-p-requires-in-Union
scan-p-requires-in-Union t c =
    let n = room_long _ _ _ c.requires in let m = c.decreases in (omega arith, first_room _ _ _ (union_two _ c.path_kind-k.ensures _ c.in-Union.is c.requires))

pub scan-q-requires-in-Union : goal.scan-q-requires-in-Union
scan-q-requires-in-Union t c =
    let n = room_long _ _ _ c.requires in let m = c.decreases in
    let w = union_two _ c.path_kind-k.ensures _ c.in-Union.is c.requires in let p = scan_ends c.scan-p-in-Union.ensures in let h = second_behind _ _ _ w _ _ p in
    (omega arith, second_room _ _ _ w _ _ p)

pub overflow_add-at-in-Star : goal.overflow_add-at-in-Star
overflow_add-at-in-Star t c = let n = room_long _ _ _ c.requires in omega arith

pub scan-p-requires-in-Star : goal.scan-p-requires-in-Star
scan-p-requires-in-Star t c =
    let n = room_long _ _ _ c.requires in let m = c.decreases in (omega arith, star_room _ c.path_kind-k.ensures _ c.in-Star.is c.requires)

pub skip_path-j-requires : goal.skip_path-j-requires
skip_path-j-requires t c = let n = room_long _ _ _ c.requires in omega arith

pub one_step-requires : goal.one_step-requires
one_step-requires t c = step_room _ c.path_kind-k.ensures _ (opened c.in_default.in_default-own.keys5) c.requires

pub returns-in-Empty : goal.returns-in-Empty
returns-in-Empty t c = empty_scans _ c.path_kind-k.ensures c.in-Empty.is c.no_step.ensures

pub returns-in-Seq : goal.returns-in-Seq
returns-in-Seq t c = seq_scans _ c.path_kind-k.ensures c.scan-p.ensures c.scan-q.ensures c.in-Seq.is c.in_sequence.ensures

pub returns-in-Union : goal.returns-in-Union
returns-in-Union t c = union_scans _ c.path_kind-k.ensures c.scan-p-in-Union.ensures c.scan-q-in-Union.ensures c.in-Union.is c.either.ensures

pub returns-in-Star : goal.returns-in-Star
returns-in-Star t c = star_scans _ c.path_kind-k.ensures c.in-Star.is c.scan-p-in-Star.ensures c.repeated.ensures

pub returns-in_default : goal.returns-in_default
returns-in_default t c = step_scans _ c.path_kind-k.ensures (opened c.in_default.in_default-own.keys5) c.skip_path-j.ensures c.one_step.ensures
