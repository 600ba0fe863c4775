-- `test_numbers::number` meets its contract. What is left of the rule falls from call to call.
use native.Mathlib.Omega.{arith}
use Rattle.test_numbers.proofs.Bracketing.{first_room, second_room, room_long, empty_walks, step_room, step_walks, bracket_step, bracket_end, bracket_room, bracket_walks, star_room, star_walks, paths_two, pair_walks}
use Rattle.test_numbers.proofs.+number.Goals as goal

pub path_kind-kind-requires : goal.path_kind-kind-requires
path_kind-kind-requires t c = room_long _ _ _ _ c.requires.0

pub offset_bounds-numbers-b : goal.offset_bounds-numbers-b
offset_bounds-numbers-b t c = let z = c.requires in let n = bracket_step _ c.path_kind-kind.ensures _ _ c.in-Stay.is z.0 in omega arith

pub bounds-numbers-b : goal.bounds-numbers-b
bounds-numbers-b t c = let z = c.requires in let n = bracket_step _ c.path_kind-kind.ensures _ _ c.in-Stay.is z.0 in let l = z.1 in omega arith

pub overflow_add-at : goal.overflow_add-at
overflow_add-at t c = let z = c.requires in let n = room_long _ _ _ _ z.0 in omega arith

pub skip_test-end-requires : goal.skip_test-end-requires
skip_test-end-requires t c = let z = c.requires in let n = room_long _ _ _ _ z.0 in omega arith

pub overflow_add-at-in-Stay : goal.overflow_add-at-in-Stay
overflow_add-at-in-Stay t c = let z = c.requires in let n = room_long _ _ _ _ z.0 in omega arith

pub tests_in-n-requires : goal.tests_in-n-requires
tests_in-n-requires t c = let (l, r) = bracket_end _ c.path_kind-kind.ensures _ _ c.in-Stay.is c.skip_test-end.ensures c.requires.0 in (omega arith, r)

pub overflow_add-result : goal.overflow_add-result
overflow_add-result t c = let z = c.requires in let n = bracket_step _ c.path_kind-kind.ensures _ _ c.in-Stay.is z.0 in omega arith

pub overflow_add-result-in-Stay : goal.overflow_add-result-in-Stay
overflow_add-result-in-Stay t c = let l = bracket_room _ c.path_kind-kind.ensures _ _ c.in-Stay.is c.skip_test-end.ensures c.tests_in-n.ensures c.requires.0 in omega arith

pub overflow_add-at-in-Seq : goal.overflow_add-at-in-Seq
overflow_add-at-in-Seq t c = let z = c.requires in let n = room_long _ _ _ _ z.0 in omega arith

pub skip_path-behind-requires : goal.skip_path-behind-requires
skip_path-behind-requires t c = let z = c.requires in let n = room_long _ _ _ _ z.0 in omega arith

pub overflow_add-at-in-Seq-2 : goal.overflow_add-at-in-Seq-2
overflow_add-at-in-Seq-2 t c = let z = c.requires in let n = room_long _ _ _ _ z.0 in omega arith

pub number-p-requires : goal.number-p-requires
number-p-requires t c =
    let z = c.requires in let n = room_long _ _ _ _ z.0 in let m = c.decreases in
    let (xs, Ts, h, b) = paths_two _ c.path_kind-kind.ensures _ _ c.in-Seq.in-Seq-own.keys3 c.skip_path-behind.ensures z.0 in
    (omega arith, (first_room _ _ _ _ _ h, z.1))

pub number-requires : goal.number-requires
number-requires t c =
    let z = c.requires in let n = room_long _ _ _ _ z.0 in let m = c.decreases in let l = z.1 in let k = c.number-p.auto.numbers in
    let (xs, Ts, h, b) = paths_two _ c.path_kind-kind.ensures _ _ c.in-Seq.in-Seq-own.keys3 c.skip_path-behind.ensures z.0 in
    (omega arith, (second_room _ _ _ _ _ h c.number-p.ensures, omega arith))

pub overflow_add-at-in-Star : goal.overflow_add-at-in-Star
overflow_add-at-in-Star t c = let z = c.requires in let n = room_long _ _ _ _ z.0 in omega arith

pub number-requires-in-Star : goal.number-requires-in-Star
number-requires-in-Star t c =
    let z = c.requires in let n = room_long _ _ _ _ z.0 in let m = c.decreases in
    (omega arith, (star_room _ c.path_kind-kind.ensures _ _ c.in-Star.is z.0, z.1))

pub overflow_add-result-in_default : goal.overflow_add-result-in_default
overflow_add-result-in_default t c = let n = step_room _ c.path_kind-kind.ensures _ _ c.in_default.in_default-own.keys5 c.requires.0 in omega arith

pub returns-in-Empty : goal.returns-in-Empty
returns-in-Empty t c = empty_walks _ c.path_kind-kind.ensures _ _ _ c.in-Empty.is

pub returns-in-Stay : goal.returns-in-Stay
returns-in-Stay t c =
    bracket_walks _ c.path_kind-kind.ensures _ _ c.in-Stay.is c.skip_test-end.ensures c.tests_in-n.ensures c.requires.1

pub returns-in-Seq : goal.returns-in-Seq
returns-in-Seq t c =
    pair_walks _ c.path_kind-kind.ensures _ _ c.in-Seq.in-Seq-own.keys3 c.skip_path-behind.ensures c.number-p.ensures c.number.ensures

pub returns-in-Star : goal.returns-in-Star
returns-in-Star t c = star_walks _ c.path_kind-kind.ensures _ _ c.in-Star.is c.number-in-Star.ensures

pub returns-in_default : goal.returns-in_default
returns-in_default t c = step_walks _ c.path_kind-kind.ensures _ _ _ c.in_default.in_default-own.keys5
