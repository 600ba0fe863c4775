-- `rule_readers::readers`: `comparison`, `count`, `read_path`, `read_test`, `second_operand` and `signed_operand` meet their contracts.
use mathlib.Core.Path.{subst}
use Rattle.rule_spec.specs.Machine.{test, path, operand}
use Rattle.tokens.specs.Readers.{Stood}
use Rattle.tokens.proofs.Refused.{handed_on}
use Rattle.rule_readers.proofs.Tests as tests
use Rattle.rule_readers.proofs.Paths as paths
use Rattle.rule_readers.proofs.Operands.{operand_halts, operand_reads, signed_reads}
use Rattle.rule_readers.proofs.readers.+readers.Goals as goal

-- ── comparison ──
-- (P
pub comparison-returns-in_err-p : goal.comparison-returns-in_err-p
comparison-returns-in_err-p t c =
    let a = c.args in
    handed_on a.s.now (test a.n) a.at a.k a.t _ _ c.from_residual.ensures.1 (tests.first_path a.s.now c.requires _ c.in_err-p.ensures)

-- the sign and the second operand
pub comparison-returns-in_err-q : goal.comparison-returns-in_err-q
comparison-returns-in_err-q t c =
    let a = c.args in
    handed_on a.s.now (test a.n) a.at a.k a.t _ _ c.from_residual-in_err-q.ensures.1 (tests.rest_halts a.s.now c.requires a.t c.begin.ensures c.in_ok-p.ensures _ c.in_err-q.ensures)

pub comparison-returns : goal.comparison-returns
comparison-returns t c =
    tests.compare_back c.args.s.now c.requires c.args.t c.begin.ensures c.in_ok-p.ensures c.in_ok-q.ensures c.weigh.ensures

-- ── count ──
-- #n
pub count-returns-in_err-d : goal.count-returns-in_err-d
count-returns-in_err-d t c =
    let a = c.args in
    handed_on a.s.now (test a.n) a.at a.k a.t _ _ c.from_residual.ensures.1 (tests.number_halts a.s.now c.requires _ c.in_err-d.ensures)

-- the path
pub count-returns-in_err-p : goal.count-returns-in_err-p
count-returns-in_err-p t c =
    let a = c.args in
    handed_on a.s.now (test a.n) a.at a.k a.t _ _ c.from_residual-in_err-p.ensures.1 (tests.path_halts a.s.now c.requires a.t c.begin.ensures c.in_ok-d.ensures _ c.in_err-p.ensures)

pub count-returns : goal.count-returns
count-returns t c =
    tests.count_back c.args.s.now c.requires c.args.t c.begin.ensures c.in_ok-d.ensures c.in_ok-p.ensures c.weigh.ensures

-- ── read_path ──
-- e l r L R
pub read_path-returns-in-Empty : goal.read_path-returns-in-Empty
read_path-returns-in-Empty t c =
    paths.empty_back _ (rw c.in-Empty.is at c.in_ok-path_head.ensures) c.requires.few

pub read_path-returns-in-Step : goal.read_path-returns-in-Step
read_path-returns-in-Step t c =
    paths.step_back _ (rw c.in-Step.is at c.in_ok-path_head.ensures) c.requires.few

-- [T]
pub read_path-returns-in_err-r-in-Bracket : goal.read_path-returns-in_err-r-in-Bracket
read_path-returns-in_err-r-in-Bracket t c =
    let a = c.args in
    handed_on a.s.now (path a.n) a.at a.k a.t _ _ c.from_residual-in_err-r-in-Bracket.ensures.1 (paths.bracket_halts a.s.now (rw c.in-Bracket.is at c.in_ok-path_head.ensures) _ c.in_err-r-in-Bracket.ensures)

pub read_path-returns-in_ok-r-in-Bracket : goal.read_path-returns-in_ok-r-in-Bracket
read_path-returns-in_ok-r-in-Bracket t c =
    let a = c.args in
    paths.bracket_reads a.s.now (rw c.in-Bracket.is at c.in_ok-path_head.ensures) a.k a.t c.in_ok-r-in-Bracket.ensures c.closing.result c.closing.ensures

-- +PP and .PP
pub read_path-returns-in_err-r-in-TwoPaths : goal.read_path-returns-in_err-r-in-TwoPaths
read_path-returns-in_err-r-in-TwoPaths t c =
    let a = c.args in
    handed_on a.s.now (path a.n) a.at a.k a.t _ _ c.from_residual-in_err-r-in-TwoPaths.ensures.1 (paths.two_halts a.s.now (rw c.in-TwoPaths.is at c.in_ok-path_head.ensures) _ c.in_err-r-in-TwoPaths.ensures)

pub read_path-returns-in_ok-r-in-TwoPaths : goal.read_path-returns-in_ok-r-in-TwoPaths
read_path-returns-in_ok-r-in-TwoPaths t c =
    let a = c.args in
    paths.two_reads a.s.now (rw c.in-TwoPaths.is at c.in_ok-path_head.ensures) a.k a.t c.in_ok-r-in-TwoPaths.ensures c.read_path-in-TwoPaths.result c.read_path-in-TwoPaths.ensures

-- *P
pub read_path-returns-in-Star : goal.read_path-returns-in-Star
read_path-returns-in-Star t c =
    let a = c.args in
    paths.star_reads a.s.now (rw c.in-Star.is at c.in_ok-path_head.ensures) a.k a.t c.read_path-in-Star.result c.read_path-in-Star.ensures

-- ── read_test ──
-- :name and !T
pub read_test-returns-in-Name : goal.read_test-returns-in-Name
read_test-returns-in-Name t c =
    let a = c.args in
    tests.name_reads a.s.now (rw c.in-Name.is at c.in_ok-h.ensures) a.k a.t c.begin-u.ensures c.name.result c.name.ensures

pub read_test-returns-in-Not : goal.read_test-returns-in-Not
read_test-returns-in-Not t c =
    let a = c.args in
    tests.not_reads a.s.now (rw c.in-Not.is at c.in_ok-h.ensures) a.k a.t c.begin-u.ensures c.read_test.result c.read_test.ensures

-- &TT and |TT
pub read_test-returns-in_err-r-in-TwoTests : goal.read_test-returns-in_err-r-in-TwoTests
read_test-returns-in_err-r-in-TwoTests t c =
    let a = c.args in
    handed_on a.s.now (test a.n) a.at a.k a.t _ _ c.from_residual-in_err-r-in-TwoTests.ensures.1 (tests.two_halts a.s.now (rw c.in-TwoTests.is at c.in_ok-h.ensures) _ c.in_err-r-in-TwoTests.ensures)

pub read_test-returns-in_ok-r-in-TwoTests : goal.read_test-returns-in_ok-r-in-TwoTests
read_test-returns-in_ok-r-in-TwoTests t c =
    let a = c.args in
    tests.two_reads a.s.now (rw c.in-TwoTests.is at c.in_ok-h.ensures) a.k a.t c.begin-u.ensures c.in_ok-r-in-TwoTests.ensures c.read_test-in-TwoTests-2.result c.read_test-in-TwoTests-2.ensures

-- ── second_operand ──
-- a constant
pub second_operand-returns-then-stands : goal.second_operand-returns-then-stands
second_operand-returns-then-stands t c =
    c.constant.ensures c.args.n

-- a path and the bracket
pub second_operand-returns-in_err-p : goal.second_operand-returns-in_err-p
second_operand-returns-in_err-p t c =
    let a = c.args in
    let no = subst (Stood a.s.now a.at 34) c.if-stands.false c.stands.ensures in
    handed_on a.s.now (operand a.n) a.at a.k a.t _ _ c.from_residual.ensures.1 (operand_halts a.s.now a.at a.n no _ c.in_err-p.ensures)

pub second_operand-returns : goal.second_operand-returns
second_operand-returns t c =
    let a = c.args in
    let no = subst (Stood a.s.now a.at 34) c.if-stands.false c.stands.ensures in
    operand_reads a.s.now a.at a.n no c.in_ok-p.ensures c.closing.result c.closing.ensures

-- ── signed_operand ──
pub signed_operand-returns : goal.signed_operand-returns
signed_operand-returns t c =
    let a = c.args in
    let h = c.in_ok-i.ensures in
    signed_reads a.s.now a.at a.n h.1 a.k a.t c.second_operand.result c.second_operand.ensures
