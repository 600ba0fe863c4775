-- `driver::by_values::settle_values` meets its contract.
use Prim.Native.Nat.{◌-◌}
use native.Mathlib.Omega.{arith}
use mathlib.Core.Path.{sym}
use lib.Seq.{length-take-le}
use Rattle.xpath.specs.Syntax.{compare, eq}
use Rattle.test_numbers.proofs.Counts.{tests_some}
use Rattle.driver.proofs.Totals.{listed_few}
use Rattle.driver.proofs.ByValues.{inner_queue, rule_task, evaluated_by, sum_small}
use Rattle.driver.proofs.by_values.settle_values.Goals as goal

pub inner_first-requires : goal.inner_first-requires
inner_first-requires c = let (ns, P, R, scene, accepts) = c.requires.0 in let l = listed_few accepts (c.tests_of-count.ensures (compare eq P R) accepts) in omega arith

pub slice_bounds-order-count : goal.slice_bounds-order-count
slice_bounds-order-count c = let (ns, P, R, scene, accepts) = c.requires.0 in let e = (c.tests_of-count.ensures (compare eq P R) accepts).all in let l = (tests_some (compare eq P R)).0 in omega arith

pub slice_bounds-order-end : goal.slice_bounds-order-end
slice_bounds-order-end c = let (ns, P, R, scene, accepts) = c.requires.0 in let l = listed_few accepts (c.tests_of-count.ensures (compare eq P R) accepts) in let e = c.inner_first.auto.order in omega arith

pub slice_bounds-settle_tests-length : goal.slice_bounds-settle_tests-length
slice_bounds-settle_tests-length c =
    let (ns, P, R, scene, accepts) = c.requires.0 in let l = listed_few accepts (c.tests_of-count.ensures (compare eq P R) accepts) in let e = c.inner_first.auto.order in
    sym (length-take-le (c.tests_of-count.result - 1) c.inner_first.new.order (omega arith))

pub settle_tests-inner-requires : goal.settle_tests-inner-requires
settle_tests-inner-requires c =
    let (ns, P, R, scene, accepts) = c.requires.0 in let order = c.inner_first in
    (ns, compare eq P R, inner_queue scene accepts (c.tests_of-count.ensures (compare eq P R) accepts) c.tests_of-count.auto.offsets order.new.order order.auto.order order.ensures)

-- ── The rule itself ──
pub compare_rule-own-requires : goal.compare_rule-own-requires
compare_rule-own-requires c =
    let ((ns, P, R, scene, accepts), nodes) = c.requires in let tests = c.tests_of-count in let listed = tests.ensures (compare eq P R) accepts in let order = c.inner_first in
    let drives = c.settle_tests-inner.ensures ns (compare eq P R) (inner_queue scene accepts listed tests.auto.offsets order.new.order order.auto.order order.ensures) in
    ((c.args.s.now, ns, P, R, rule_task scene accepts listed tests.auto.offsets order.new.order order.auto.order order.ensures drives), nodes)

pub overflow_add-result : goal.overflow_add-result
overflow_add-result c =
    let ((ns, P, R, scene, accepts), nodes) = c.requires in let tests = c.tests_of-count in let listed = tests.ensures (compare eq P R) accepts in let order = c.inner_first in
    let drives = c.settle_tests-inner.ensures ns (compare eq P R) (inner_queue scene accepts listed tests.auto.offsets order.new.order order.auto.order order.ensures) in
    let compares = c.compare_rule-own.ensures c.args.s.now ns P R (rule_task scene accepts listed tests.auto.offsets order.new.order order.auto.order order.ensures drives) in
    let l = sum_small scene accepts listed tests.auto.offsets order.new.order order.auto.order order.ensures drives compares in
    omega arith

pub returns : goal.returns
returns c ns P R scene accepts =
    let tests = c.tests_of-count in let listed = tests.ensures (compare eq P R) accepts in let order = c.inner_first in
    let drives = c.settle_tests-inner.ensures ns (compare eq P R) (inner_queue scene accepts listed tests.auto.offsets order.new.order order.auto.order order.ensures) in
    evaluated_by scene accepts listed tests.auto.offsets order.new.order order.auto.order order.ensures drives
    (c.compare_rule-own.ensures c.args.s.now ns P R (rule_task scene accepts listed tests.auto.offsets order.new.order order.auto.order order.ensures drives))
