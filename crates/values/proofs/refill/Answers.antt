-- `values::refill` meets its contract.
use mathlib.Core.Logic.{inl, inr}
use native.Mathlib.Omega.{arith}
use Rattle.values.proofs.Cursor.{filled_now, filled_further}
use Rattle.values.proofs.refill.Goals as goal

pub returns-then-c : goal.returns-then-c
returns-then-c c = λ s ns bs a k h. filled_now h (λ u. elim c.then-c.either [ inl w ↦ absurd (omega arith) | inr w ↦ w.1 ])

pub returns : goal.returns
returns c = λ s ns bs a k h. filled_further (c.onward.ensures s ns bs a k h)
