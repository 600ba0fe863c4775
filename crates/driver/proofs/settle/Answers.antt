-- `driver::settle` meets its contract.
use Prim.Native.Nat.{◌+◌, ◌≤◌}
use native.Mathlib.Omega.{arith}
use mathlib.Core.Path.{sym, ap, subst}
use lib.ListN.{length}
use Rattle.document_spec.specs.Binary.{tree_of}
use Rattle.test_numbers.specs.Tests.{tests_of, test}
use Rattle.test_numbers.specs.Owned.{own}
use Rattle.driver.proofs.Totals.{adds_none}
use Rattle.driver.proofs.Arms.{shaped, test_begins, number_small, room, tabled, name_spans, named_decided, not_decided, not_small, and_small, and_decided, or_small, or_decided}
use Rattle.driver.proofs.settle.Goals as goal

-- ── The kind of the test, and a name ──
pub test_kind-kind-requires : goal.test_kind-kind-requires
test_kind-kind-requires c = test_begins c.requires.2.stands

pub named-requires : goal.named-requires
named-requires c =
    let p = c.requires in let x = c.args in
    let shape = shaped c.in-Named.is (test (tests_of p.1) x.k) (c.test_kind-kind.ensures (test (tests_of p.1) x.k) p.2.end p.2.stands) in
    let e = c.skip_test-end.ensures (test (tests_of p.1) x.k) p.2.end p.2.stands in let l = name_spans p.2 shape in
    (tabled p.2, number_small p.2, subst (λ j. x.at + 1 ≤ j) (sym e) l.0, subst (λ j. j ≤ length x.rule.now) (sym e) l.1)

pub overflow_add-k : goal.overflow_add-k
overflow_add-k c = let h = number_small c.requires.2 in omega arith

pub deny-requires : goal.deny-requires
deny-requires c =
    let p = c.requires in let x = c.args in
    let shape = shaped c.in-Not.is (test (tests_of p.1) x.k) (c.test_kind-kind.ensures (test (tests_of p.1) x.k) p.2.end p.2.stands) in
    (number_small p.2, not_small p.2 shape, room p.2)

pub second_test-b-requires : goal.second_test-b-requires
second_test-b-requires c = let p = c.requires in (test_begins p.2.stands, p.2.accepts.short, number_small p.2)

pub overflow_add-k-in-And : goal.overflow_add-k-in-And
overflow_add-k-in-And c = let h = number_small c.requires.2 in omega arith

pub both-requires : goal.both-requires
both-requires c =
    let p = c.requires in let x = c.args in
    let shape = shaped c.in-And.is (test (tests_of p.1) x.k) (c.test_kind-kind.ensures (test (tests_of p.1) x.k) p.2.end p.2.stands) in
    let l = and_small p.2 c.second_test-b.ensures shape in
    (number_small p.2, l.0, l.1, room p.2)

pub second_test-b-requires-in-Or : goal.second_test-b-requires-in-Or
second_test-b-requires-in-Or c = let p = c.requires in (test_begins p.2.stands, p.2.accepts.short, number_small p.2)

pub overflow_add-k-in-Or : goal.overflow_add-k-in-Or
overflow_add-k-in-Or c = let h = number_small c.requires.2 in omega arith

pub either-requires : goal.either-requires
either-requires c =
    let p = c.requires in let x = c.args in
    let shape = shaped c.in-Or.is (test (tests_of p.1) x.k) (c.test_kind-kind.ensures (test (tests_of p.1) x.k) p.2.end p.2.stands) in
    let l = or_small p.2 c.second_test-b-in-Or.ensures shape in
    (number_small p.2, l.0, l.1, room p.2)

pub comparison-requires : goal.comparison-requires
comparison-requires c =
    let p = c.requires in let x = c.args in
    let shape = shaped c.in-Comparison.is (test (tests_of p.1) x.k) (c.test_kind-kind.ensures (test (tests_of p.1) x.k) p.2.end p.2.stands) in
    (p.0, p.1, p.2, shape)

pub count-requires : goal.count-requires
count-requires c =
    let p = c.requires in let x = c.args in
    let shape = shaped c.in-Count.is (test (tests_of p.1) x.k) (c.test_kind-kind.ensures (test (tests_of p.1) x.k) p.2.end p.2.stands) in
    (x.s.now, p.0, p.1, p.2, shape)

pub returns-in-Named : goal.returns-in-Named
returns-in-Named c ns T task =
    let x = c.args in
    let shape = shaped c.in-Named.is (test (tests_of T) x.k) (c.test_kind-kind.ensures (test (tests_of T) x.k) task.end task.stands) in
    record { decided = named_decided task shape (c.skip_test-end.ensures (test (tests_of T) x.k) task.end task.stands) (c.named.ensures ns task.scene.library task.scene.linked); adds = adds_none x.e (tree_of ns) (test (tests_of T) x.k) (ap own shape.1) }

pub returns-in-Not : goal.returns-in-Not
returns-in-Not c ns T task =
    let x = c.args in
    let shape = shaped c.in-Not.is (test (tests_of T) x.k) (c.test_kind-kind.ensures (test (tests_of T) x.k) task.end task.stands) in
    record { decided = not_decided task shape c.deny.ensures; adds = adds_none x.e (tree_of ns) (test (tests_of T) x.k) (ap own shape.1) }

pub returns-in-And : goal.returns-in-And
returns-in-And c ns T task =
    let x = c.args in
    let shape = shaped c.in-And.is (test (tests_of T) x.k) (c.test_kind-kind.ensures (test (tests_of T) x.k) task.end task.stands) in
    record { decided = and_decided task c.second_test-b.ensures shape c.both.ensures; adds = adds_none x.e (tree_of ns) (test (tests_of T) x.k) (ap own shape.2) }

pub returns-in-Or : goal.returns-in-Or
returns-in-Or c ns T task =
    let x = c.args in
    let shape = shaped c.in-Or.is (test (tests_of T) x.k) (c.test_kind-kind.ensures (test (tests_of T) x.k) task.end task.stands) in
    record { decided = or_decided task c.second_test-b-in-Or.ensures shape c.either.ensures; adds = adds_none x.e (tree_of ns) (test (tests_of T) x.k) (ap own shape.2) }

pub returns-in-Comparison : goal.returns-in-Comparison
returns-in-Comparison c ns T task =
    let x = c.args in
    let shape = shaped c.in-Comparison.is (test (tests_of T) x.k) (c.test_kind-kind.ensures (test (tests_of T) x.k) task.end task.stands) in
    c.comparison.ensures ns T task shape

pub returns-in-Count : goal.returns-in-Count
returns-in-Count c ns T task =
    let x = c.args in
    let shape = shaped c.in-Count.is (test (tests_of T) x.k) (c.test_kind-kind.ensures (test (tests_of T) x.k) task.end task.stands) in
    record { decided = c.count.ensures x.s.now ns T task shape; adds = adds_none x.e (tree_of ns) (test (tests_of T) x.k) (ap own shape.2) }
