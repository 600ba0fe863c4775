-- `driver::settle_tests` meets its contract.
use Prim.Native.Nat.{◌+◌}
use native.Mathlib.Omega.{arith}
use mathlib.Core.Path.{refl, ◌∙◌}
use Rattle.test_numbers.proofs.Counts.{tests_few}
use Rattle.test_numbers.proofs.Orders.{order_number}
use Rattle.driver.proofs.Totals.{driven_none, number_room, next_task, driven_step, driven_small, drives}
use Rattle.driver.proofs.settle_tests.Goals as goal

-- ── Entering the loop ──
pub loop-k-init : goal.loop-k-init
loop-k-init c =
    let x = c.args in
    (refl, λ ns T queue. driven_none x.e ns x.n T x.t.now)

-- ── Settling one test ──
pub offset_bounds-offsets-k : goal.offset_bounds-offsets-k
offset_bounds-offsets-k c = let h = c.loop-k-test.true in let q = c.requires.2 in let l = order_number q.order c.loop-k.k-index h in let f = tests_few q.accepts in omega arith

pub bounds-offsets-k : goal.bounds-offsets-k
bounds-offsets-k c = number_room c.requires.2 c.loop-k.k-index c.loop-k-test.true

pub settle-own-requires : goal.settle-own-requires
settle-own-requires c =
    let p = c.requires in let i = c.loop-k in
    (p.0, p.1, next_task p.2 i.k-index (i.invariant.1 p.0 p.1 p.2) c.loop-k-test.true)

pub overflow_add-snippets : goal.overflow_add-snippets
overflow_add-snippets c =
    let p = c.requires in let i = c.loop-k in let h = c.loop-k-test.true in let d = i.invariant.1 p.0 p.1 p.2 in
    let z = driven_small p.2 (i.k-index + 1) (driven_step p.2 i.k-index d h (c.settle-own.ensures p.0 p.1 (next_task p.2 i.k-index d h))) in
    omega arith

-- ── One turn of the loop ──
pub loop-k-preserved : goal.loop-k-preserved
loop-k-preserved c =
    let i = c.loop-k in let h = c.loop-k-test.true in let d = c.settle-own in (
      d.auto.t ∙ i.invariant.0,
      λ ns T queue. let done = i.invariant.1 ns T queue in driven_step queue i.k-index done h (d.ensures ns T (next_task queue i.k-index done h)),
    )

-- ── What is returned ──
pub returns : goal.returns
returns c ns T queue =
    let h = c.loop-k-test.false in
    drives queue c.loop-k.k-index (omega arith) (c.loop-k.invariant.1 ns T queue)
