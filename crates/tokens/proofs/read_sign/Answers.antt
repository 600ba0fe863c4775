-- `tokens::read_sign` meets its contract: each sign is passed, and a lone ! is none.
use Prim.Native.Nat.{◌+◌}
use native.Mathlib.Omega.{arith}
use mathlib.Core.Path.{refl, subst}
use mathlib.Core.Logic.{inl, inr}
use Rattle.xpath.specs.Syntax.{eq, ne}
use Rattle.tokens.specs.Readers.{Stood}
use Rattle.tokens.proofs.Places.{stands_at}
use Rattle.tokens.proofs.Signs.{equal_sign, unequal_sign, unequal_stuck, order_equal, order_alone, no_sign, no_sign_end}
use Rattle.tokens.proofs.read_sign.Goals as goal

-- ── The end of the rule ──
pub returns-then-at-s : goal.returns-then-at-s
returns-then-at-s c = no_sign_end c.args.s.now c.if-at-s.true

-- ── The sign, by its first byte ──
pub returns-in-61 : goal.returns-in-61
returns-in-61 c =
    let a = c.args in
    (eq, equal_sign a.s.now (stands_at a.s.now {i = a.at} (omega arith) c.in-61.is))

pub returns-then-equal : goal.returns-then-equal
returns-then-equal c =
    let a = c.args in
    (ne, unequal_sign a.s.now (stands_at a.s.now {i = a.at} (omega arith) c.in-33.is) (subst (Stood a.s.now (a.at + 1) 61) c.if-equal.true c.stands-equal.ensures))

pub returns-else-equal : goal.returns-else-equal
returns-else-equal c =
    let a = c.args in
    unequal_stuck a.s.now (stands_at a.s.now {i = a.at} (omega arith) c.in-33.is) (subst (Stood a.s.now (a.at + 1) 61) c.if-equal.false c.stands-equal.ensures)

pub returns-then-equal-2 : goal.returns-then-equal-2
returns-then-equal-2 c =
    let a = c.args in
    order_equal a.s.now a.at (omega arith) c.in-60.is (subst (Stood a.s.now (a.at + 1) 61) c.if-equal-2.true c.stands-equal.ensures)

pub returns-else-equal-2 : goal.returns-else-equal-2
returns-else-equal-2 c =
    let a = c.args in
    order_alone a.s.now a.at (omega arith) c.in-60.is (subst (Stood a.s.now (a.at + 1) 61) c.if-equal-2.false c.stands-equal.ensures)

pub returns-in_default : goal.returns-in_default
returns-in_default c =
    let a = c.args in let n = c.in_default.in_default-own.rest in
    no_sign a.s.now (stands_at a.s.now {i = a.at} (omega arith) refl) n.0.0.1 n.0.1 (λ e. n.1 (inl e)) (λ e. n.1 (inr e))
