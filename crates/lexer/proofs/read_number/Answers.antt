-- `lexer::read_number` meets its contract.
use native.Mathlib.Omega.{arith}
use mathlib.Core.Path.{sym, ◌∙◌, subst}
use Rattle.std.specs.Prelude.{Some}
use Rattle.lexer.specs.declared.Class.TheVariants.{Digit}
use Rattle.lexer.specs.Reading.{Numbered}
use Rattle.lexer.proofs.Numbers.{Found, found, number_none, number_empty, number_zero, number_value, digits_of}
use Rattle.lexer.proofs.read_number.Goals as goal
use Rattle.lexer.proofs.read_number.Goals.{In_ok-next, then-end-at-via-then-end-at, then-end-at-via-else-end-at+then-zero_led}

-- the run that was read
got : (c : In_ok-next) → Found Digit c.args.most c.args.s.now c.args.at c.in_ok-next.next
got c = let a = c.args in found Digit a.most a.s.now a.at c.in_ok-next.next c.requires.0 c.in_ok-next.ensures

pub returns-in_err-next : goal.returns-in_err-next
returns-in_err-next c = let a = c.args in rw c.from_residual.ensures (number_none a.most c.requires.1 a.s.now a.at c.in_err-next.ensures)

pub overflow_sub-end : goal.overflow_sub-end
overflow_sub-end c = omega (arith, (got (goal.at.overflow_sub-end c).In_ok-next).next)

pub zero_led-requires : goal.zero_led-requires
zero_led-requires c = let f = got (goal.at.zero_led-requires c).In_ok-next in let n = f.next in let i = f.inside in let h = c.if-end-at.false in omega arith

pub returns-then-end-at : goal.returns-then-end-at
returns-then-end-at c =
    let a = c.args in
    let f = got (goal.at.returns-then-end-at c).In_ok-next in
    elim c.then-end-at.branch [
      | then-end-at-via-then-end-at w ↦ number_empty a.most c.requires.1 a.s.now a.at _ f w.if-end-at.true
      | then-end-at-via-else-end-at+then-zero_led w ↦ number_zero a.most c.requires.1 a.s.now a.at _ f (sym w.zero_led.ensures ∙ w.if-zero_led.true)
    ]

pub value-requires : goal.value-requires
value-requires c = digits_of (got (goal.at.value-requires c).In_ok-next) c.requires.2

pub returns : goal.returns
returns c =
    let a = c.args in
    let j = c.in_ok-next.next in
    subst (λ n. Numbered a.most a.s.now a.at (Some (record { value = n; next = j }))) (sym c.value.ensures)
    (number_value a.most c.requires.1 a.s.now a.at j (got (goal.at.returns c).In_ok-next) c.if-end-at.false (sym c.zero_led.ensures ∙ c.if-zero_led.false))
