-- `value_order::stretches::look` meets its contract.
use mathlib.Core.Path.{sym, ◌∙◌}
use native.Mathlib.Omega.{arith}
use Rattle.string_order.proofs.Agreement.{part_length, parts_within, parts_same, parts_differ}
use Rattle.value_order.proofs.Moving.{ended_less, bytes_decide}
use Rattle.value_order.proofs.stretches.look.Goals as goal

pub returns-then-y : goal.returns-then-y
returns-then-y c = λ ns bs cs h g. h.empty c.if-x.true ∙ sym (g.empty c.if-y.true)

pub returns-then-x : goal.returns-then-x
returns-then-x c = λ ns bs cs h g. ended_less h.comes g.comes (h.empty c.if-x.true) c.if-y.false

pub returns-then-y-2 : goal.returns-then-y-2
returns-then-y-2 c = λ ns bs cs h g. ended_less g.comes h.comes (g.empty c.if-y-2.true) c.if-x.false

pub agree-k-requires : goal.agree-k-requires
agree-k-requires c =
    let a = c.args in let m = c.min-most.result in let l = c.min-most.ensures in
    part_length a.x.from m a.s.now (omega arith) ∙ sym (part_length a.y.from m a.c.now (omega arith))

pub returns-then-k-most : goal.returns-then-k-most
returns-then-k-most c =
    let a = c.args in let m = c.min-most.result in let l = c.min-most.ensures in
    record { some = omega arith; left = omega arith; right = omega arith; same = parts_same a.s.now a.c.now a.x.from a.y.from m c.agree-k.result (omega arith) c.agree-k.ensures }

pub returns : goal.returns
returns c =
    let a = c.args in let m = c.min-most.result in let k = c.agree-k.result in
    let l = c.min-most.ensures in
    let d = c.if-k-most.false in
    let w = parts_within a.s.now a.c.now a.x.from a.y.from m k (omega arith) c.agree-k.ensures in
    λ ns bs cs h g.
    bytes_decide h.comes g.comes k c.by_bytes.result (omega arith) (omega arith)
    (parts_same a.s.now a.c.now a.x.from a.y.from m k (omega arith) c.agree-k.ensures)
    (λ us vs. c.by_bytes.ensures us vs (parts_differ a.s.now a.c.now a.x.from a.y.from m k (omega arith) c.agree-k.ensures (omega arith)))
