-- `driver::comparisons::compare` meets its contract.
use Prim.Native.Nat.{◌+◌, ◌-◌}
use native.Mathlib.Omega.{arith}
use mathlib.Core.Path.{sym, ap, subst}
use Rattle.tokens.specs.Readers.{Stood}
use Rattle.document_spec.specs.Binary.{tree_of}
use Rattle.test_numbers.specs.Tests.{tests_of, test}
use Rattle.test_numbers.specs.Owned.{own}
use Rattle.driver.specs.Tasks.{Constant}
use Rattle.driver.proofs.Arms.{test_begins}
use Rattle.driver.proofs.Totals.{adds_none}
use Rattle.driver.proofs.Operands.{second_inside, is_paths, is_constant, constant_ends}
use Rattle.driver.proofs.comparisons.compare.Goals as goal

-- ── Where the second operand stands ──
pub parted-c-requires : goal.parted-c-requires
parted-c-requires c = test_begins c.requires.2.stands

pub stands-requires : goal.stands-requires
stands-requires c = let p = c.requires in second_inside p.2 c.parted-c.ensures p.3

pub overflow_add-c : goal.overflow_add-c
overflow_add-c c = let p = c.requires in let h = second_inside p.2 c.parted-c.ensures p.3 in let l = p.2.accepts.short in omega arith

pub overflow_sub-end : goal.overflow_sub-end
overflow_sub-end c =
    let p = c.requires in let x = c.args in
    let e = c.skip_test-end.ensures (test (tests_of p.1) x.k) p.2.end p.2.stands in
    let h = constant_ends p.2 c.parted-c.ensures p.3 (subst (Stood x.rule.now c.parted-c.result.second 34) c.if-stands.true c.stands.ensures) in omega arith

pub with_constant-requires : goal.with_constant-requires
with_constant-requires c =
    let p = c.requires in let x = c.args in let m = c.parted-c.result in
    let e = c.skip_test-end.ensures (test (tests_of p.1) x.k) p.2.end p.2.stands in
    let h = is_constant p.2 c.parted-c.ensures p.3 (subst (Stood x.rule.now c.parted-c.result.second 34) c.if-stands.true c.stands.ensures) in
    (p.0, p.1, subst (λ j. Constant x.s.now x.rule.now p.0 p.1 x.n x.at x.k x.t.now (m.second + 1) (j - 2) m.operator) (sym e) h)

-- ── Two paths ──
pub between_paths-requires : goal.between_paths-requires
between_paths-requires c =
    let p = c.requires in let x = c.args in
    (p.0, p.1, is_paths p.2 c.parted-c.ensures p.3 (subst (Stood x.rule.now c.parted-c.result.second 34) c.if-stands.false c.stands.ensures))

pub returns-then-stands : goal.returns-then-stands
returns-then-stands c ns T task shape =
    let x = c.args in let m = c.parted-c.result in
    let e = c.skip_test-end.ensures (test (tests_of T) x.k) task.end task.stands in
    let h = is_constant task c.parted-c.ensures shape (subst (Stood x.rule.now c.parted-c.result.second 34) c.if-stands.true c.stands.ensures) in
    record {
      answers = c.with_constant.ensures ns T (subst (λ j. Constant x.s.now x.rule.now ns T x.n x.at x.k x.t.now (m.second + 1) (j - 2) m.operator) (sym e) h);
      adds = adds_none x.e (tree_of ns) (test (tests_of T) x.k) (ap own h.is);
    }

pub returns : goal.returns
returns c ns T task shape =
    let x = c.args in
    c.between_paths.ensures ns T (is_paths task c.parted-c.ensures shape (subst (Stood x.rule.now c.parted-c.result.second 34) c.if-stands.false c.stands.ensures))
