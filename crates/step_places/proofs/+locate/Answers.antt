-- `step_places::locate` meets its contract. What is left of the rule falls from call to call.
use native.Mathlib.Omega.{arith}
use borrow.Enum.Refused.{opened}
use Rattle.path_sets.proofs.Shapes.{room_long, first_room, second_room, second_behind, pair_two, star_room, step_room}
use Rattle.step_places.proofs.Locating.{spot_ends, empty_places, star_places, pair_places, step_places_lem}
use Rattle.step_places.proofs.+locate.Goals as goal

pub path_kind-k-requires : goal.path_kind-k-requires
path_kind-k-requires t c = room_long _ _ _ c.requires.0

pub overflow_add-result : goal.overflow_add-result
overflow_add-result t c = let n = room_long _ _ _ c.requires.0 in omega arith

pub overflow_add-at : goal.overflow_add-at
overflow_add-at t c = let n = room_long _ _ _ c.requires.0 in omega arith

pub locate-p-requires : goal.locate-p-requires
locate-p-requires t c =
    let n = room_long _ _ _ c.requires.0 in let m = c.decreases in (omega arith, (first_room _ _ _ (pair_two _ c.path_kind-k.ensures _ c.in-Seq.in-Seq-own.keys2 c.requires.0), c.requires.1))

pub locate-requires : goal.locate-requires
locate-requires t c =
    let n = room_long _ _ _ c.requires.0 in let m = c.decreases in let l = c.requires.1 in let k = c.locate-p.auto.places in
    let w = pair_two _ c.path_kind-k.ensures _ c.in-Seq.in-Seq-own.keys2 c.requires.0 in let p = spot_ends c.locate-p.ensures in let h = second_behind _ _ _ w _ _ p in
    (omega arith, (second_room _ _ _ w _ _ p, omega arith))

pub overflow_add-at-in-Star : goal.overflow_add-at-in-Star
overflow_add-at-in-Star t c = let n = room_long _ _ _ c.requires.0 in omega arith

pub locate-requires-in-Star : goal.locate-requires-in-Star
locate-requires-in-Star t c =
    let n = room_long _ _ _ c.requires.0 in let m = c.decreases in (omega arith, (star_room _ c.path_kind-k.ensures _ c.in-Star.is c.requires.0, c.requires.1))

pub offset_bounds-places-b : goal.offset_bounds-places-b
offset_bounds-places-b t c = let n = step_room _ c.path_kind-k.ensures _ (opened c.in_default.in_default-own.keys4) c.requires.0 in omega arith

pub bounds-places-b : goal.bounds-places-b
bounds-places-b t c = let n = step_room _ c.path_kind-k.ensures _ (opened c.in_default.in_default-own.keys4) c.requires.0 in let l = c.requires.1 in omega arith

pub skip_path-j-requires : goal.skip_path-j-requires
skip_path-j-requires t c = let n = room_long _ _ _ c.requires.0 in omega arith

pub overflow_add-result-in_default : goal.overflow_add-result-in_default
overflow_add-result-in_default t c = let n = step_room _ c.path_kind-k.ensures _ (opened c.in_default.in_default-own.keys4) c.requires.0 in omega arith

pub returns-in-Empty : goal.returns-in-Empty
returns-in-Empty t c = empty_places _ c.path_kind-k.ensures _ c.in-Empty.is

pub returns-in-Seq : goal.returns-in-Seq
returns-in-Seq t c = pair_places _ c.path_kind-k.ensures c.in-Seq.in-Seq-own.keys2 c.locate-p.ensures c.locate.ensures

pub returns-in-Star : goal.returns-in-Star
returns-in-Star t c = star_places _ c.path_kind-k.ensures c.in-Star.is c.locate-in-Star.ensures

pub returns-in_default : goal.returns-in_default
returns-in_default t c = step_places_lem _ c.path_kind-k.ensures (opened c.in_default.in_default-own.keys4) c.requires.1 c.skip_path-j.ensures
