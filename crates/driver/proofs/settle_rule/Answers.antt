-- `driver::settle_rule` meets its contract.
use native.Mathlib.Omega.{arith}
use mathlib.Core.Path.{sym}
use lib.Seq.{length-take-le}
use Rattle.test_numbers.proofs.Orders.{falling_each}
use Rattle.driver.proofs.Totals.{listed_few, falling_queue}
use Rattle.driver.proofs.settle_rule.Goals as goal

pub inner_first-requires : goal.inner_first-requires
inner_first-requires c = let p = c.requires in let (some, few) = listed_few p.3 (c.tests_of-count.ensures p.1 p.3) in omega arith

pub slice_bounds-order-end : goal.slice_bounds-order-end
slice_bounds-order-end c = let p = c.requires in let (some, few) = listed_few p.3 (c.tests_of-count.ensures p.1 p.3) in let e = c.inner_first.auto.order in omega arith

pub slice_bounds-settle_tests-end-2 : goal.slice_bounds-settle_tests-end-2
slice_bounds-settle_tests-end-2 c = let p = c.requires in let (some, few) = listed_few p.3 (c.tests_of-count.ensures p.1 p.3) in let e = c.inner_first.auto.order in sym (length-take-le c.tests_of-count.result c.inner_first.new.order (omega arith))

pub settle_tests-requires : goal.settle_tests-requires
settle_tests-requires c =
    let p = c.requires in let listed = c.tests_of-count.ensures p.1 p.3 in let (some, few) = listed_few p.3 listed in let e = c.inner_first.auto.order in let f = c.tests_of-count.auto.offsets in
    (p.0, p.1, falling_queue c.inner_first.new.order p.2 p.3 listed (omega arith) (omega arith) c.inner_first.ensures c.tests_of-count.result (omega arith))

pub returns : goal.returns
returns c ns T scene accepts =
    let order = c.inner_first in let listed = c.tests_of-count.ensures T accepts in let (some, few) = listed_few accepts listed in let e = order.auto.order in let f = c.tests_of-count.auto.offsets in
    let queue = falling_queue order.new.order scene accepts listed (omega arith) (omega arith) order.ensures c.tests_of-count.result (omega arith) in
    (c.settle_tests.ensures ns T queue).whole (falling_each T order.new.order (omega arith) order.ensures listed.all)
