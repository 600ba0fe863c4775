-- `test_places::list_test`, `list_inside` and `list_path` meet their contracts. What is left of the rule falls from call to call.
use native.Mathlib.Omega.{arith}
use borrow.Enum.Refused.{opened}
use mathlib.Core.Path.{subst}
use lib.ListN.{length-set}
use Rattle.tokens.specs.Readers.{Stood}
use Rattle.test_places.proofs.Listing.{first_room, second_room, test_room_long, path_room_long, inside_room, one_room, test_lists, named_lists, not_room, not_lists, tests_two, two_lists, side_inside, side_room, constant_lists, sides_two, sides_lists, count_behind, count_room, count_lists, testless_lists, bracket_room, bracket_lists, star_room, star_lists, paths_two, pair_lists}
use Rattle.test_places.proofs.+listing.Goals as goal

-- ── list_inside ──

pub list_inside-test_kind-kind-requires : goal.list_inside-test_kind-kind-requires
list_inside-test_kind-kind-requires t c = test_room_long _ _ _ c.requires.0

pub list_inside-overflow_add-at : goal.list_inside-overflow_add-at
list_inside-overflow_add-at t c = let z = c.requires in let n = test_room_long _ _ _ z.0 in omega arith

pub list_inside-list_test-requires : goal.list_inside-list_test-requires
list_inside-list_test-requires t c =
    let z = c.requires in let n = test_room_long _ _ _ z.0 in let m = c.decreases in
    (omega arith, (not_room _ c.test_kind-kind.ensures _ c.in-Not.is z.0, z.1))

pub list_inside-overflow_add-at-in-And : goal.list_inside-overflow_add-at-in-And
list_inside-overflow_add-at-in-And t c = let z = c.requires in let n = test_room_long _ _ _ z.0 in omega arith

pub list_inside-skip_test-behind-requires : goal.list_inside-skip_test-behind-requires
list_inside-skip_test-behind-requires t c = let z = c.requires in let n = test_room_long _ _ _ z.0 in omega arith

pub list_inside-overflow_add-at-in-And-2 : goal.list_inside-overflow_add-at-in-And-2
list_inside-overflow_add-at-in-And-2 t c = let z = c.requires in let n = test_room_long _ _ _ z.0 in omega arith

pub list_inside-list_test-n-requires : goal.list_inside-list_test-n-requires
list_inside-list_test-n-requires t c =
    let z = c.requires in let n = test_room_long _ _ _ z.0 in let m = c.decreases in
    let (Ts, h) = tests_two _ c.test_kind-kind.ensures _ c.in-And.in-And-own.keys3 c.skip_test-behind.ensures z.0 in
    (omega arith, (first_room _ _ _ _ _ _ h, z.1))

pub list_inside-list_test-requires-in-And : goal.list_inside-list_test-requires-in-And
list_inside-list_test-requires-in-And t c =
    let z = c.requires in let n = test_room_long _ _ _ z.0 in let m = c.decreases in let l = z.1 in let k = c.list_test-n.auto.offsets in
    let (Ts, h) = tests_two _ c.test_kind-kind.ensures _ c.in-And.in-And-own.keys3 c.skip_test-behind.ensures z.0 in let b = h.after in
    (omega arith, (second_room _ _ _ _ _ _ h c.list_test-n.ensures, omega arith))

pub list_inside-parted-m-requires : goal.list_inside-parted-m-requires
list_inside-parted-m-requires t c = test_room_long _ _ _ c.requires.0

pub list_inside-overflow_add-at-in-Comparison : goal.list_inside-overflow_add-at-in-Comparison
list_inside-overflow_add-at-in-Comparison t c = let z = c.requires in let n = test_room_long _ _ _ z.0 in omega arith

pub list_inside-list_path-n-requires : goal.list_inside-list_path-n-requires
list_inside-list_path-n-requires t c =
    let z = c.requires in let n = test_room_long _ _ _ z.0 in let m = c.decreases in
    (omega arith, (side_room _ c.test_kind-kind.ensures _ c.in-Comparison.is c.parted-m.ensures z.0, z.1))

pub list_inside-stands-requires : goal.list_inside-stands-requires
list_inside-stands-requires t c = side_inside _ c.test_kind-kind.ensures _ c.in-Comparison.is c.parted-m.ensures c.requires.0

pub list_inside-returns-then-stands : goal.list_inside-returns-then-stands
list_inside-returns-then-stands t c =
    constant_lists _ c.test_kind-kind.ensures _ c.in-Comparison.is c.parted-m.ensures
    (subst (Stood c.args.s.now c.parted-m.result.second 34) c.if-stands.true c.stands.ensures)
    c.list_path-n.ensures

pub list_inside-list_path-requires : goal.list_inside-list_path-requires
list_inside-list_path-requires t c =
    let z = c.requires in let n = test_room_long _ _ _ z.0 in let m = c.decreases in let l = z.1 in let k = c.list_path-n.auto.offsets in
    let (Ts, h) = sides_two _ c.test_kind-kind.ensures _ c.in-Comparison.is c.parted-m.ensures (subst (Stood c.args.s.now c.parted-m.result.second 34) c.if-stands.false c.stands.ensures) z.0 in let b = h.after in
    (omega arith, (second_room _ _ _ _ _ _ h c.list_path-n.ensures, omega arith))

pub list_inside-counted-c-requires : goal.list_inside-counted-c-requires
list_inside-counted-c-requires t c = test_room_long _ _ _ c.requires.0

pub list_inside-list_path-requires-in-Count : goal.list_inside-list_path-requires-in-Count
list_inside-list_path-requires-in-Count t c =
    let z = c.requires in let n = test_room_long _ _ _ z.0 in let m = c.decreases in
    let b = count_behind _ c.test_kind-kind.ensures _ c.in-Count.is c.counted-c.ensures z.0 in
    (omega arith, (count_room _ c.test_kind-kind.ensures _ c.in-Count.is c.counted-c.ensures z.0, z.1))

pub list_inside-returns-in-Named : goal.list_inside-returns-in-Named
list_inside-returns-in-Named t c = named_lists _ c.test_kind-kind.ensures _ _ c.in-Named.is

pub list_inside-returns-in-Not : goal.list_inside-returns-in-Not
list_inside-returns-in-Not t c = not_lists _ c.test_kind-kind.ensures _ c.in-Not.is c.list_test.ensures

pub list_inside-returns-in-And : goal.list_inside-returns-in-And
list_inside-returns-in-And t c =
    two_lists _ c.test_kind-kind.ensures _ c.in-And.in-And-own.keys3 c.skip_test-behind.ensures c.list_test-n.ensures c.list_test-in-And.ensures

pub list_inside-returns-else-stands : goal.list_inside-returns-else-stands
list_inside-returns-else-stands t c =
    sides_lists _ c.test_kind-kind.ensures _ c.in-Comparison.is c.parted-m.ensures
    (subst (Stood c.args.s.now c.parted-m.result.second 34) c.if-stands.false c.stands.ensures)
    c.list_path-n.ensures c.list_path.ensures

pub list_inside-returns-in-Count : goal.list_inside-returns-in-Count
list_inside-returns-in-Count t c =
    count_lists _ c.test_kind-kind.ensures _ c.in-Count.is c.counted-c.ensures c.list_path-in-Count.ensures

-- ── list_path ──

pub list_path-path_kind-kind-requires : goal.list_path-path_kind-kind-requires
list_path-path_kind-kind-requires t c = path_room_long _ _ _ c.requires.0

pub list_path-overflow_add-at : goal.list_path-overflow_add-at
list_path-overflow_add-at t c = let z = c.requires in let n = path_room_long _ _ _ z.0 in omega arith

pub list_path-list_test-requires : goal.list_path-list_test-requires
list_path-list_test-requires t c =
    let z = c.requires in let n = path_room_long _ _ _ z.0 in let m = c.decreases in
    (omega arith, (bracket_room _ c.path_kind-kind.ensures _ c.in-Stay.is z.0, z.1))

pub list_path-overflow_add-at-in-Seq : goal.list_path-overflow_add-at-in-Seq
list_path-overflow_add-at-in-Seq t c = let z = c.requires in let n = path_room_long _ _ _ z.0 in omega arith

pub list_path-skip_path-behind-requires : goal.list_path-skip_path-behind-requires
list_path-skip_path-behind-requires t c = let z = c.requires in let n = path_room_long _ _ _ z.0 in omega arith

pub list_path-overflow_add-at-in-Seq-2 : goal.list_path-overflow_add-at-in-Seq-2
list_path-overflow_add-at-in-Seq-2 t c = let z = c.requires in let n = path_room_long _ _ _ z.0 in omega arith

pub list_path-list_path-n-requires : goal.list_path-list_path-n-requires
list_path-list_path-n-requires t c =
    let z = c.requires in let n = path_room_long _ _ _ z.0 in let m = c.decreases in
    let (Ts, h) = paths_two _ c.path_kind-kind.ensures _ c.in-Seq.in-Seq-own.keys2 c.skip_path-behind.ensures z.0 in
    (omega arith, (first_room _ _ _ _ _ _ h, z.1))

pub list_path-list_path-requires : goal.list_path-list_path-requires
list_path-list_path-requires t c =
    let z = c.requires in let n = path_room_long _ _ _ z.0 in let m = c.decreases in let l = z.1 in let k = c.list_path-n.auto.offsets in
    let (Ts, h) = paths_two _ c.path_kind-kind.ensures _ c.in-Seq.in-Seq-own.keys2 c.skip_path-behind.ensures z.0 in let b = h.after in
    (omega arith, (second_room _ _ _ _ _ _ h c.list_path-n.ensures, omega arith))

pub list_path-overflow_add-at-in-Star : goal.list_path-overflow_add-at-in-Star
list_path-overflow_add-at-in-Star t c = let z = c.requires in let n = path_room_long _ _ _ z.0 in omega arith

pub list_path-list_path-requires-in-Star : goal.list_path-list_path-requires-in-Star
list_path-list_path-requires-in-Star t c =
    let z = c.requires in let n = path_room_long _ _ _ z.0 in let m = c.decreases in
    (omega arith, (star_room _ c.path_kind-kind.ensures _ c.in-Star.is z.0, z.1))

pub list_path-returns-in-Stay : goal.list_path-returns-in-Stay
list_path-returns-in-Stay t c = bracket_lists _ c.path_kind-kind.ensures _ c.in-Stay.is c.list_test.ensures

pub list_path-returns-in-Seq : goal.list_path-returns-in-Seq
list_path-returns-in-Seq t c =
    pair_lists _ c.path_kind-kind.ensures _ c.in-Seq.in-Seq-own.keys2 c.skip_path-behind.ensures c.list_path-n.ensures c.list_path.ensures

pub list_path-returns-in-Star : goal.list_path-returns-in-Star
list_path-returns-in-Star t c = star_lists _ c.path_kind-kind.ensures _ c.in-Star.is c.list_path-in-Star.ensures

pub list_path-returns-in_default : goal.list_path-returns-in_default
list_path-returns-in_default t c = testless_lists _ c.path_kind-kind.ensures _ _ (opened c.in_default.in_default-own.keys4)

-- ── list_test ──

pub list_test-offset_bounds-offsets-k : goal.list_test-offset_bounds-offsets-k
list_test-offset_bounds-offsets-k t c = let n = one_room _ _ _ c.requires.0 in omega arith

pub list_test-bounds-offsets-k : goal.list_test-bounds-offsets-k
list_test-bounds-offsets-k t c = let z = c.requires in let n = one_room _ _ _ z.0 in let l = z.1 in omega arith

pub list_test-overflow_add-k : goal.list_test-overflow_add-k
list_test-overflow_add-k t c = let n = one_room _ _ _ c.requires.0 in omega arith

pub list_test-list_inside-requires : goal.list_test-list_inside-requires
list_test-list_inside-requires t c =
    let z = c.requires in let m = c.decreases in let l = z.1 in let a = c.args in let n = length-set a.offsets.now a.k a.at in
    (omega arith, (inside_room _ _ _ z.0, omega arith))

pub list_test-returns : goal.list_test-returns
list_test-returns t c = test_lists _ _ _ c.requires.1 c.list_inside.ensures
